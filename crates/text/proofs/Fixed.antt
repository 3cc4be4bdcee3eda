-- What is promised of a call fixes what it hands back, for every input. Most promises are equations; these are the others: what is handed
-- back for what a reader finds is a function of that.
use Prim.Native.Nat.{ℕ}
use mathlib.Core.Path.{◌≡◌, sym, ap}
use Rattle.std.specs.Prelude.{Err, Ok, Result}
use Rattle.procap.specs.Answers.{place_of}
use Rattle.procap.specs.Outcome.{Outcome}
use Rattle.procap.specs.declared.procap.Request.{Request}
use Rattle.text.specs.Places.{RequestReads}
use Rattle.text.specs.declared.line.BrokenLine.{BrokenLine}

-- The request and the place after its lines; or the line that breaks their form.
abbrev pub as_request : Outcome (Request × ℕ × ℕ) → Result (Request × ℕ) BrokenLine
as_request (Ok x) = Ok (x.0, x.2)
as_request (Err answer) = Err (record { 0 = place_of answer })

pub request_fixed : (o : Outcome (Request × ℕ × ℕ)) (r : Result (Request × ℕ) BrokenLine) → RequestReads o r → r ≡ as_request o
request_fixed o (Ok b) h = sym (ap as_request h)
request_fixed o (Err broken) h = sym (ap as_request h)
