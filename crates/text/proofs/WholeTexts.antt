-- All lines of the text: what reads is a procap value that can be written, from just the bytes that spell it; and those bytes read as that value.
-- Line by line, by the laws of one line and of the lines of facts.
use Prim.Native.Nat.{ℕ, ◌≤◌}
use mathlib.Core.Path.{◌≡◌, ap, ◌∙◌}
use mathlib.Core.List.{List, ◌++◌, append_assoc}
use Rattle.std.specs.Prelude.{Some}
use native.Mathlib.Omega.{arith}
use lib.ListN.{length}
use borrow.Author.Tests.{leb-true, le-leb, eqb-true}
use Rattle.procap.specs.Lists.{All, Distinct}
use Rattle.procap.specs.Times.{latest}
use Rattle.procap.specs.Facts.{Spelled}
use Rattle.procap.specs.Procaps.{most_facts, version_one, listed, procap_of}
use Rattle.procap.specs.Writable.{RequestInForm, Writable}
use Rattle.procap.specs.Bytes.{then, ensure}
use Rattle.procap.specs.Deciding.{distinct?, spelled?}
use Rattle.procap.specs.declared.procap.Request.{Request}
use Rattle.procap.specs.declared.procap.Procap.{Procap}
use Rattle.procap.proofs.Listed.{listed_back}
use Rattle.procap.proofs.Readers.{read, ensure_read}
use Rattle.text.specs.Words.{bytes_of}
use Rattle.text.specs.Text.{line, facts_text, text_of}
use Rattle.text.specs.Reader.{moment_lines, procap_with, procap_lines}
use Rattle.text.proofs.Readers.{Takes, joined, parted, TextRead, then_read}
use Rattle.text.proofs.Spellings.{line_read, line_found, facts_read, facts_found}
use Rattle.text.proofs.Requests.{request_text, request_read, request_found, said_granted}
use Rattle.procap.proofs.Telling.{told_so, so_told}
use Rattle.procap.proofs.Rebuilt.{SpelledInForm, rebuilt, listed_count, listed_in_form, made_writable}

-- The lines of the moments.
abbrev pub moments_text : ℕ × ℕ → List ℕ
moments_text m = line (bytes_of "from=") m.0 ++ line (bytes_of "to=") m.1

-- The lines of facts, their count in front.
abbrev facts_lines : List Spelled → List ℕ
facts_lines fs = line (bytes_of "facts=") (length fs) ++ facts_text fs

-- The text in these parts.
pub text_parts : (p : Procap)
    → text_of p ≡ line (bytes_of "procap=") p.version ++ request_text p.request ++ moments_text (p.from, p.to) ++ (line (bytes_of "facts=") p.count ++ facts_text (listed p))
unfolding text_of
text_parts p = simp append_assoc

-- The text of a procap made of facts, in these parts.
made_text : (r : Request) (from to : ℕ) (fs : List Spelled)
    → text_of (procap_of r from to fs) ≡ line (bytes_of "procap=") version_one ++ request_text r ++ moments_text (from, to) ++ facts_lines fs
unfolding procap_of
made_text r from to fs =
    text_parts (procap_of r from to fs)
    ∙ ap (λ gs. line (bytes_of "procap=") version_one ++ request_text r ++ moments_text (from, to) ++ (line (bytes_of "facts=") (length fs) ++ facts_text gs))
    (listed_back r from to fs)

module _ {bytes : List ℕ} where
  -- ── What is read ──

  -- Two moments are read from just their lines, and they are in order and in range.
  moments_read : (at : ℕ) → TextRead bytes at moments_text (λ m. (m.0 ≤ m.1) × (m.1 ≤ latest)) (moment_lines bytes at)
  unfolding moment_lines
  moments_read at =
      then_read (line_read (bytes_of "from=") latest at (omega arith)) λ from m₁ t₁ h₁.
      then_read (line_read (bytes_of "to=") latest m₁ (omega arith)) λ to m₂ t₂ h₂.
      ensure_read _ _ _ λ e.
      read (joined t₁ t₂, (leb-true from to e, h₂))

  -- A procap is read from just its text, and it can be written.
  pub procap_read : (at : ℕ) → TextRead bytes at text_of Writable (procap_lines bytes at)
  unfolding procap_lines procap_with
  procap_read at =
      then_read (line_read (bytes_of "procap=") version_one at (omega arith)) λ version m₁ t₁ h₁.
      ensure_read _ _ _ λ e₁.
      then_read (request_read 1 m₁) λ r m₂ t₂ names.
      then_read (moments_read m₂) λ m m₃ t₃ h₃.
      then_read (line_read (bytes_of "facts=") most_facts m₃ (omega arith)) λ count m₄ t₄ few.
      then_read (facts_read count m₄) λ fs m₅ t₅ h₅.
      ensure_read _ _ _ λ e₂.
      let one : version ≡ version_one = eqb-true version version_one e₁ in
      let lines = joined (rw (← h₅.0) at t₄) t₅ in
      let taken = joined (joined (joined (rw one at t₁) t₂) t₃) lines in
      let few_facts : length fs ≤ most_facts = omega (arith, h₅.0) in
      read (rw made_text taken, made_writable r m.0 m.1 fs names h₃.0 h₃.1 few_facts h₅.1 (told_so (distinct? spelled? fs) e₂))

  -- ── What is found ──

  -- Two moments in order and in range whose lines stand there are found.
  moments_found : (from to : ℕ) {at after : ℕ} → from ≤ to → to ≤ latest → Takes bytes at (moments_text (from, to)) after
      → moment_lines bytes at ≡ Some ((from, to), after)
  unfolding moment_lines then ensure
  moments_found from to order range h =
      parted (line (bytes_of "from=") from) (line (bytes_of "to=") to) h λ mid t₁ t₂.
      let first = line_found (bytes_of "from=") latest from (omega arith) (omega arith) t₁ in
      let second = line_found (bytes_of "to=") latest to (omega arith) range t₂ in
      rw (first, second, le-leb from to order)

  -- Few distinct facts whose lines stand there are found.
  procap_with_found : (r : Request) (from to : ℕ) (fs : List Spelled) {at after : ℕ} → length fs ≤ most_facts → All SpelledInForm fs → Distinct fs
      → Takes bytes at (facts_lines fs) after → procap_with bytes r from to at ≡ Some (procap_of r from to fs, after)
  unfolding procap_with then ensure
  procap_with_found r from to fs few form distinct h =
      parted (line (bytes_of "facts=") (length fs)) (facts_text fs) h λ mid t₁ t₂.
      let count = line_found (bytes_of "facts=") most_facts (length fs) (omega arith) few t₁ in
      rw (count, facts_found fs form t₂, so_told (distinct? spelled? fs) distinct)

  -- A procap made of them is found where its text stands.
  made_found : (r : Request) (from to : ℕ) (fs : List Spelled) {at after : ℕ} → RequestInForm r → from ≤ to → to ≤ latest
      → length fs ≤ most_facts → All SpelledInForm fs → Distinct fs
      → Takes bytes at (text_of (procap_of r from to fs)) after → procap_lines bytes at ≡ Some (procap_of r from to fs, after)
  unfolding procap_lines then ensure
  made_found r from to fs names order range few form distinct h =
      let one = line (bytes_of "procap=") version_one in
      parted (one ++ request_text r ++ moments_text (from, to)) (facts_lines fs) (rw made_text at h) λ m₃ t₁₂₃ t₄.
      parted (one ++ request_text r) (moments_text (from, to)) t₁₂₃ λ m₂ t₁₂ t₃.
      parted one (request_text r) t₁₂ λ m₁ t₁ t₂.
      let version = line_found (bytes_of "procap=") version_one version_one (omega arith) (omega arith) t₁ in
      let facts = procap_with_found r from to fs few form distinct t₄ in
      let request = said_granted _ r 4 m₂ (request_found r 1 names t₂) in
      rw (version, request, moments_found from to order range t₃, facts)

  -- So is every procap that can be written.
  pub procap_found : (p : Procap) {at after : ℕ} → Writable p → Takes bytes at (text_of p) after → procap_lines bytes at ≡ Some (p, after)
  procap_found p {at} {after} h t =
      let few : length (listed p) ≤ most_facts = omega (arith, listed_count p h, h.few_facts) in
      let made : Takes bytes at (text_of (procap_of p.request p.from p.to (listed p))) after = rw (rebuilt p h) t in
      let found = made_found p.request p.from p.to (listed p) h.request_in_form h.in_order h.to_in_range few (listed_in_form p h) h.none_twice made in
      rw (rebuilt p h) at found
