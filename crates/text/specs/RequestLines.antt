-- [Text; Program] The three lines of a request, which a procap text and a case have alike.
use Rattle.std.specs.Prelude.{ℕ, List}
use Rattle.procap.specs.Writable.{largest_name}
use Rattle.procap.specs.declared.procap.Request.{Request}
use Rattle.text.specs.Words.{bytes_of}
use Rattle.text.specs.Line.{line_to}
use Rattle.text.specs.LinesInARow.{Lines, ◌>>=◌, give, one_line}

-- [Text; Program] The three lines of the request.
unfoldable pub request_lines : List ℕ → Lines Request
request_lines bytes = do
  who ← one_line (line_to bytes (bytes_of "who=") largest_name)
  what ← one_line (line_to bytes (bytes_of "what=") largest_name)
  right ← one_line (line_to bytes (bytes_of "right=") largest_name)
  give (record { who = who; what = what; right = right })
