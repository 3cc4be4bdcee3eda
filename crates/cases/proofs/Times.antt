-- Laws of a line with a time: what the time is by the first of its three readers that finds one, what makes the line, and that its place
-- does not go back.
use Prim.Native.Nat.{ℕ, ◌≤◌, ◌<◌}
use mathlib.Core.Path.{◌≡◌, ap}
use mathlib.Core.List.{List}
use Rattle.std.specs.Prelude.{None, Option, Some}
use native.Mathlib.Omega.{arith}
use lib.ListN.{length, length-drop}
use Rattle.procap.specs.Times.{latest}
use Rattle.procap.specs.Bytes.{then}
use Rattle.procap.specs.declared.time.Time.{Time}
use Rattle.procap.specs.declared.time.Time.TheVariants.{Moment, MinusInfinity, PlusInfinity}
use Rattle.procap.proofs.Readers.{IfRead, unread, read, then_read, Ends}
use Rattle.text.specs.Words.{bytes_of}
use Rattle.text.specs.Line.{literal, number_to}
use Rattle.text.proofs.Readers.{literal_read, number_read}
use Rattle.cases.specs.CaseLines.{first_of, sign, moment, case_time, time_line}

-- ── The time ──

-- A minus stands for the time before all others; without it a plus for the one after all; and without both there is a moment, or none.
module _ (bytes : List ℕ) (at : ℕ) where
  pub minus_here : (next : ℕ) → literal bytes (bytes_of "-") at ≡ Some (tt, next) → case_time bytes at ≡ Some (MinusInfinity, next)
  unfolding case_time first_of sign then
  minus_here next e = rw e

  module _ (e : literal bytes (bytes_of "-") at ≡ None) where
    pub plus_here : (next : ℕ) → literal bytes (bytes_of "+") at ≡ Some (tt, next) → case_time bytes at ≡ Some (PlusInfinity, next)
    unfolding case_time first_of sign then
    plus_here next f = rw (e, f)

    module _ (f : literal bytes (bytes_of "+") at ≡ None) where
      pub moment_here : (k next : ℕ) → number_to bytes latest at ≡ Some (k, next) → case_time bytes at ≡ Some (Moment k, next)
      unfolding case_time first_of sign moment then
      moment_here k next g = rw (e, f, g)

      pub no_time : number_to bytes latest at ≡ None → case_time bytes at ≡ None
      unfolding case_time first_of sign moment then
      no_time g = rw (e, f, g)

-- ── The line ──

-- A line: its word, its time and its end, each from the place after the one before; without any of them there is none.
module _ (bytes word : List ℕ) (at : ℕ) where
  pub time_no_word : literal bytes word at ≡ None → time_line bytes word at ≡ None
  unfolding time_line then
  time_no_word e = rw e

  module _ (start : ℕ) (e : literal bytes word at ≡ Some (tt, start)) where
    pub time_no_time : case_time bytes start ≡ None → time_line bytes word at ≡ None
    unfolding time_line then
    time_no_time f = rw (e, f)

    module _ (t : Time) (end : ℕ) (f : case_time bytes start ≡ Some (t, end)) where
      pub time_no_end : literal bytes (bytes_of "\n") end ≡ None → time_line bytes word at ≡ None
      unfolding time_line then
      time_no_end g = rw (e, f, g)

      pub time_here : (next : ℕ) → literal bytes (bytes_of "\n") end ≡ Some (tt, next) → time_line bytes word at ≡ Some (t, next)
      unfolding time_line then
      time_here next g = rw (e, f, g)

-- ── Places ──

-- What is so of what either reader finds is so of what the first of them does.
first_read : {A : Type 0} {P : A → ℕ → Type 0} {o p : Option (A × ℕ)} → IfRead P o → IfRead P p → IfRead P (first_of o p)
unfolding first_of
first_read unread k = k
first_read (read h) k = read h

module _ (bytes : List ℕ) where
  -- A sign, a moment, and so a time end no earlier than they begin.
  sign_ends : (word : List ℕ) (t : Time) (at : ℕ) → Ends (λ next. at ≤ next) (sign bytes word t at)
  unfolding sign
  sign_ends word t at = then_read (literal_read word at) λ _ next h. read (omega (arith, h.0.place))

  moment_ends : (at : ℕ) → Ends (λ next. at ≤ next) (moment bytes at)
  unfolding moment
  moment_ends at = then_read (number_read latest at (omega arith)) λ k next h. read (omega (arith, h.0.place))

  time_ends : (at : ℕ) → Ends (λ next. at ≤ next) (case_time bytes at)
  unfolding case_time
  time_ends at = first_read (sign_ends _ _ at) (first_read (sign_ends _ _ at) (moment_ends at))

  -- A line with a time ends later than it begins, and within the bytes.
  pub time_line_ends : (word : List ℕ) (at : ℕ) → Ends (λ next. (at < next) × (next ≤ length bytes)) (time_line bytes word at)
  unfolding time_line
  time_line_ends word at =
      then_read (literal_read word at) λ _ start h.
      then_read (time_ends start) λ t end k.
      then_read (literal_read (bytes_of "\n") end) λ _ next l.
      read (omega (arith, h.0.place, k, l.0.place), omega (arith, l.0.place, ap length l.0.says, length-drop end bytes, length-drop next bytes))
