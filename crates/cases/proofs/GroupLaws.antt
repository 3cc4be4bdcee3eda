-- Laws of groups: what a group is from its heading and its line of hex, and groups of which some are read and the rest is still to be read.
use Prim.Native.Nat.{ℕ, suc, ◌-◌}
use mathlib.Core.Path.{◌≡◌, refl, sym, ap, ap₂, ◌∙◌}
use mathlib.Core.List.{List, [], ◌∷◌, ◌++◌, append_assoc, append-nil}
use Rattle.std.specs.Prelude.{Err, Ok}
use native.Mathlib.Omega.{arith}
use lib.ListN.{length, length-append}
use Rattle.procap.specs.Outcome.{Outcome, go_on}
use Rattle.procap.specs.declared.answer.Answer.{Answer}
use Rattle.procap.specs.declared.time.Time.{Time}
use Rattle.text.specs.Words.{bytes_of}
use Rattle.text.specs.LinesInARow.{one_line}
use Rattle.cases.specs.CaseLines.{hex_line}
use Rattle.cases.specs.Case.{Group, heading, group, groups}
use Rattle.cases.specs.Found.{ReadSoFar, WentOn, HeadingTold, GroupPut}
use Rattle.cases.specs.declared.groups.Heading.{Heading}
use Rattle.cases.proofs.InARow.{lines_read, lines_break}

-- ── One group ──

module _ (old : ReadSoFar) where
  -- A line of the heading that breaks the form does so of the group.
  pub heading_breaks : (answer : Answer) → heading old.input old.line old.at ≡ Err answer → group old.input old.line old.at ≡ Err answer
  unfolding group
  heading_breaks answer e = lines_break _ old.line old.at (heading old.input) answer e

  module _ {s : ReadSoFar} {h : Heading} (w : WentOn (heading old.input old.line old.at) old s (HeadingTold old s) h) where
    -- So does the line of the formula.
    pub says_breaks : (answer : Answer) → one_line (hex_line s.input (bytes_of "says=")) s.line s.at ≡ Err answer
        → group old.input old.line old.at ≡ Err answer
    unfolding group
    says_breaks answer e =
        lines_read _ old.line old.at (heading old.input) w.found s.line s.at w.reads
        ∙ lines_break _ s.line s.at (one_line (hex_line old.input (bytes_of "says="))) answer (rw w.same at e)

    -- With both the group is read. Its record says where its formula stands.
    pub group_read : {new : ReadSoFar}
        → WentOn (one_line (hex_line s.input (bytes_of "says=")) s.line s.at) s new (λ bytes (_ : Unit {0}). new.bytes ≡ s.bytes ++ bytes) tt
        → (start n : ℕ) → start ≡ length s.bytes → n ≡ length new.bytes
        → WentOn (group old.input old.line old.at) old new (GroupPut old new)
        (record { principal = h.by; from = h.from; to = h.to; start = start; length = n - start })
    unfolding group
    group_read {new} v start n b e = record {
      found = record { by = w.found.0; from = w.found.1; to = w.found.2; says = v.found };
      reads =
          lines_read _ old.line old.at (heading old.input) w.found s.line s.at w.reads
          ∙ lines_read _ s.line s.at (one_line (hex_line old.input (bytes_of "says="))) v.found new.line new.at (rw w.same at v.reads);
      same = v.same ∙ w.same;
      is_of = (
        ap₂ (λ (k l : ℕ). record { principal = h.by; from = h.from; to = h.to; start = k; length = l }) begins ends
            ∙ ap (λ (f : ℕ × Time × Time). record { principal = f.0; from = f.1; to = f.2; start = length old.bytes; length = length v.found }) w.is_of.0,
        v.is_of ∙ ap (λ bs. bs ++ v.found) w.is_of.1,
      );
    }
      where
        begins : start ≡ length old.bytes
        begins = b ∙ ap length w.is_of.1

        ends : n - start ≡ length v.found
        ends = omega (arith, ap length v.is_of, length-append s.bytes v.found)

-- ── Groups before others ──

-- What was read, with some groups before it.
unfoldable pub led_by : List Group → Outcome (List Group × ℕ × ℕ) → Outcome (List Group × ℕ × ℕ)
led_by gs (Ok r) = Ok (gs ++ r.0, r.1, r.2)
led_by gs (Err answer) = Err answer

-- Nothing before it changes nothing; groups before others are all of them in a row.
pub led_by_nothing : (o : Outcome (List Group × ℕ × ℕ)) → o ≡ led_by [] o
unfolding led_by
led_by_nothing (Ok r) = refl
led_by_nothing (Err answer) = refl

led_by_both : (gs hs : List Group) (o : Outcome (List Group × ℕ × ℕ)) → led_by gs (led_by hs o) ≡ led_by (gs ++ hs) o
unfolding led_by
led_by_both gs hs (Ok r) = ap (λ fs. Ok (fs, r.1, r.2)) (sym (append_assoc gs hs r.0))
led_by_both gs hs (Err answer) = refl

-- A group put in front.
led_by_one : (g : Group) (o : Outcome (List Group × ℕ × ℕ)) → go_on o (λ x. Ok (g ∷ x.0, x.1, x.2)) ≡ led_by (g ∷ []) o
unfolding go_on led_by
led_by_one g (Ok r) = refl
led_by_one g (Err answer) = refl

-- All groups of which some are read, and the rest is still to be read.
module _ (gs : List Group) {whole : Outcome (List Group × ℕ × ℕ)} (rest : Outcome (List Group × ℕ × ℕ)) (h : whole ≡ led_by gs rest) where
  -- One group more.
  pub led_more : (g : Group) (left : Outcome (List Group × ℕ × ℕ)) → rest ≡ led_by (g ∷ []) left → whole ≡ led_by (gs ++ (g ∷ [])) left
  led_more g left e = h ∙ ap (led_by gs) e ∙ led_by_both gs (g ∷ []) left

  -- Where the rest breaks the form, so does the whole; where it is nothing more, the whole is the groups read.
  pub led_breaks : (answer : Answer) → rest ≡ Err answer → whole ≡ Err answer
  unfolding led_by
  led_breaks answer e = h ∙ ap (led_by gs) e

  pub led_all : (line next : ℕ) → rest ≡ Ok ([], line, next) → whole ≡ Ok (gs, line, next)
  unfolding led_by
  led_all line next e = h ∙ ap (led_by gs) e ∙ ap (λ fs. Ok (fs, line, next)) (append-nil gs)

-- ── So many groups ──

module _ (input : List ℕ) (k line at : ℕ) where
  -- Of so many groups one, and then n more; where the first breaks the form, so do they.
  module _ (n : ℕ) (more : k ≡ suc n) where
    pub groups_one : (g : Group) (line' next : ℕ) → group input line at ≡ Ok (g, line', next)
        → groups input k line at ≡ led_by (g ∷ []) (groups input n line' next)
    unfolding groups go_on
    groups_one g line' next e = rw (more, e) (led_by_one g (groups input n line' next))

    pub groups_break : (answer : Answer) → group input line at ≡ Err answer → groups input k line at ≡ Err answer
    unfolding groups go_on
    groups_break answer e = rw (more, e)

  -- Of no groups nothing is left to be read.
  pub groups_end : k ≡ 0 → groups input k line at ≡ Ok ([], line, at)
  unfolding groups
  groups_end e = rw e
