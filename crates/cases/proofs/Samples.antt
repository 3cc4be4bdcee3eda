-- Cases, and what is printed for them, computed from their bytes: case P, each number that is given, and each way to break the form.
use Prim.Native.String.{String}
use mathlib.Core.Path.{◌≡◌, refl}
use mathlib.Core.List.{List, [], ◌∷◌}
use Rattle.procap.specs.Lists.{All}
use Rattle.procap.specs.Facts.{spelled}
use Rattle.procap.specs.Procaps.{listed}
use Rattle.bl.proofs.CaseP.{computes as calls-compute}
use Rattle.text.specs.Words.{bytes_of}
use Rattle.text.specs.Numbers.{digits_of, decimal}
use Rattle.text.specs.Text.{line, term_text, terms_text, fact_text, facts_text, text_of, refusal_text}
use Rattle.text.proofs.Samples.{computes as texts-compute}
use Rattle.cases.specs.Hex.{is_letter, is_hex, hex_value, leading_hex, in_pairs, paired}
use Rattle.cases.specs.CaseLines.{first_of, sign, moment, case_time, time_line, hex_digits, hex_line, nothing_more}
use Rattle.cases.specs.Case.{heading, group, groups, case_with, case_lines, case_in, buffer_of, records_from}
use Rattle.cases.specs.Calls.{checked, printed_of, printed}

-- A case, and what is printed for it.
pub record Sample : Type 0 where
  pub input : String
  pub prints : String

abbrev pub ComesOut : Sample → Type 0
ComesOut x = printed (bytes_of x.input) ≡ bytes_of x.prints

abbrev pub samples : List Sample
samples =
    -- Case P.
    record {
      input = "who=2\nwhat=7\nright=9\ncerts=1\nby=1\nfrom=1000\nto=2000\nsays=13121800c801000007170064030500000007000009\nproof=2a262700000221002c0404\n";
      prints = "procap=1\nwho=2\nwhat=7\nright=9\nfrom=1000\nto=2000\nfacts=1\nfact=200 n7\n";
    }
    ∷
    -- A certificate for all time, and a fact on both infinities.
    record {
      input = "who=2\nwhat=7\nright=9\ncerts=1\nby=1\nfrom=-\nto=+\nsays=121800cb02020317006403000002000007000009\nproof=2a2621002c0203\n";
      prints = "procap=1\nwho=2\nwhat=7\nright=9\nfrom=0\nto=1099511627775\nfacts=1\nfact=203 - +\n";
    }
    ∷
    -- No certificates, and no bytes of a proof.
    record {
      input = "who=2\nwhat=7\nright=9\ncerts=0\nproof=\n";
      prints = "refused=2\nplace=0\n";
    }
    ∷
    -- A certificate with no bytes.
    record {
      input = "who=2\nwhat=7\nright=9\ncerts=1\nby=1\nfrom=1000\nto=2000\nsays=\nproof=2a262700000221002c0404\n";
      prints = "refused=1\nplace=0\n";
    }
    ∷
    -- The proof of another blender.
    record {
      input = "who=2\nwhat=7\nright=9\ncerts=1\nby=1\nfrom=1000\nto=2000\nsays=13121800c801000007170064030500000007000009\nproof=2a262700000321002c0404\n";
      prints = "refused=3\nplace=1\n";
    }
    ∷
    -- An interval before the certificate's own.
    record {
      input = "who=2\nwhat=7\nright=9\ncerts=1\nby=1\nfrom=1000\nto=2000\nsays=13121800c801000007170064030500000007000009\nproof=2a262700000221002c0100000003e70100000007d0\n";
      prints = "refused=4\nplace=1\n";
    }
    ∷
    -- No moment is left.
    record {
      input = "who=2\nwhat=7\nright=9\ncerts=1\nby=1\nfrom=1000\nto=2000\nsays=13121800c801000007170064030500000007000009\nproof=2a262700000221002c0100000005dc010000000578\n";
      prints = "refused=5\nplace=0\n";
    }
    ∷
    -- Nothing.
    record {
      input = "";
      prints = "refused=14\nplace=1\n";
    }
    ∷
    -- A name above the largest, a zero in front of a name, a blank in front of one.
    record {
      input = "who=65536\nwhat=7\nright=9\ncerts=1\nby=1\nfrom=1000\nto=2000\nsays=13121800c801000007170064030500000007000009\nproof=2a262700000221002c0404\n";
      prints = "refused=14\nplace=1\n";
    }
    ∷
    record {
      input = "who=2\nwhat=07\nright=9\ncerts=1\nby=1\nfrom=1000\nto=2000\nsays=13121800c801000007170064030500000007000009\nproof=2a262700000221002c0404\n";
      prints = "refused=14\nplace=2\n";
    }
    ∷
    record {
      input = "who=2\nwhat=7\nright= 9\ncerts=1\nby=1\nfrom=1000\nto=2000\nsays=13121800c801000007170064030500000007000009\nproof=2a262700000221002c0404\n";
      prints = "refused=14\nplace=3\n";
    }
    ∷
    -- Too many certificates.
    record {
      input = "who=2\nwhat=7\nright=9\ncerts=33\nby=1\nfrom=1000\nto=2000\nsays=13121800c801000007170064030500000007000009\nproof=2a262700000221002c0404\n";
      prints = "refused=14\nplace=4\n";
    }
    ∷
    -- A line of a group that is missing.
    record {
      input = "who=2\nwhat=7\nright=9\ncerts=1\nfrom=1000\nto=2000\nsays=13121800c801000007170064030500000007000009\nproof=2a262700000221002c0404\n";
      prints = "refused=14\nplace=5\n";
    }
    ∷
    -- A sign with a number, ctime, and a moment above the latest.
    record {
      input = "who=2\nwhat=7\nright=9\ncerts=1\nby=1\nfrom=+5\nto=2000\nsays=13121800c801000007170064030500000007000009\nproof=2a262700000221002c0404\n";
      prints = "refused=14\nplace=6\n";
    }
    ∷
    record {
      input = "who=2\nwhat=7\nright=9\ncerts=1\nby=1\nfrom=1000\nto=c\nsays=13121800c801000007170064030500000007000009\nproof=2a262700000221002c0404\n";
      prints = "refused=14\nplace=7\n";
    }
    ∷
    record {
      input = "who=2\nwhat=7\nright=9\ncerts=2\nby=1\nfrom=1000\nto=2000\nsays=13121800c801000007170064030500000007000009\nby=1\nfrom=1000\nto=1099511627776\nsays=10\nproof=2a262700000221002c0404\n";
      prints = "refused=14\nplace=11\n";
    }
    ∷
    -- A capital digit, an odd number of digits, a carriage return.
    record {
      input = "who=2\nwhat=7\nright=9\ncerts=1\nby=1\nfrom=1000\nto=2000\nsays=13121800C801000007170064030500000007000009\nproof=2a262700000221002c0404\n";
      prints = "refused=14\nplace=8\n";
    }
    ∷
    record {
      input = "who=2\nwhat=7\nright=9\ncerts=1\nby=1\nfrom=1000\nto=2000\nsays=13121800c801000007170064030500000007000009\nproof=2a262700000221002c040\n";
      prints = "refused=14\nplace=9\n";
    }
    ∷
    record {
      input = "who=2\nwhat=7\nright=9\ncerts=1\nby=1\nfrom=1000\nto=2000\nsays=13121800c801000007170064030500000007000009\nproof=2a262700000221002c0404\r\n";
      prints = "refused=14\nplace=9\n";
    }
    ∷
    -- No line feed at the end, no line of the proof, and a line after it.
    record {
      input = "who=2\nwhat=7\nright=9\ncerts=1\nby=1\nfrom=1000\nto=2000\nsays=13121800c801000007170064030500000007000009\nproof=2a262700000221002c0404";
      prints = "refused=14\nplace=9\n";
    }
    ∷
    record {
      input = "who=2\nwhat=7\nright=9\ncerts=1\nby=1\nfrom=1000\nto=2000\nsays=13121800c801000007170064030500000007000009\n";
      prints = "refused=14\nplace=9\n";
    }
    ∷
    record {
      input = "who=2\nwhat=7\nright=9\ncerts=1\nby=1\nfrom=1000\nto=2000\nsays=13121800c801000007170064030500000007000009\nproof=2a262700000221002c0404\n\n";
      prints = "refused=14\nplace=10\n";
    }
    ∷
    []

pub samples_come_out : All ComesOut samples
unfolding calls-compute texts-compute spelled listed digits_of decimal line term_text terms_text fact_text facts_text text_of refusal_text is_letter is_hex hex_value leading_hex in_pairs paired first_of sign moment case_time time_line hex_digits hex_line nothing_more heading group groups case_with case_lines case_in buffer_of records_from checked printed_of printed
samples_come_out = (refl, (refl, (refl, (refl, (refl, (refl, (refl, (refl, (refl, (refl, (refl, (refl, (refl, (refl, (refl, (refl, (refl, (refl, (refl, (refl, (refl, (refl, tt))))))))))))))))))))))
