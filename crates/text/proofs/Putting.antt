-- Laws of bytes put into a buffer: what is put right after other bytes is put with them, and one byte put is a store.
use Prim.Native.Nat.{ℕ, suc, ◌+◌, ◌≤◌, ◌<◌}
use mathlib.Core.Path.{◌≡◌, sym, ap, ◌∙◌}
use mathlib.Core.List.{List, [], ◌∷◌, ◌++◌, append_assoc, append-nil}
use native.Mathlib.Nat.{add-zero, zero-add, add_assoc}
use native.Mathlib.Omega.{arith}
use lib.ListN.{length, take, drop, set, get_or, length-append, take-append-drop}
use lib.Seq.{length-take-le, take_at, drop-append-add, drop-drop, drop-cons, set_at, append_snoc}
use Rattle.text.specs.Buffers.{put_at}

-- Nothing put changes nothing.
put_nothing : (at : ℕ) (buffer : List ℕ) → put_at at [] buffer ≡ buffer
unfolding put_at
put_nothing at buffer =
    ap (λ k. take at buffer ++ [] ++ drop k buffer) (add-zero at)
    ∙ ap (λ xs. xs ++ drop at buffer) (append-nil (take at buffer))
    ∙ take-append-drop at buffer

-- What is put at the front comes first, and then the rest of the buffer.
pub put_front : (bytes buffer : List ℕ) → put_at 0 bytes buffer ≡ bytes ++ drop (length bytes) buffer
unfolding put_at
put_front bytes buffer = rw zero-add

module _ (at : ℕ) (buffer : List ℕ) (inside : at ≤ length buffer) where
  -- All up to the end of what was put.
  front_length : (bytes : List ℕ) → length (take at buffer ++ bytes) ≡ at + length bytes
  front_length bytes = simp length-append (omega (arith, length-take-le at buffer inside))

  -- What is put right after other bytes is put with them.
  put_after : (a b : List ℕ) → put_at (at + length a) b (put_at at a buffer) ≡ put_at at (a ++ b) buffer
  unfolding put_at
  put_after a b =
      ap (λ xs. xs ++ b ++ drop (at + length a + length b) (front ++ rest)) (take_at front rest (at + length a) (front_length a))
      ∙ ap (λ xs. front ++ b ++ xs) past
      ∙ ap (λ xs. xs ++ drop (at + length (a ++ b)) buffer) (append_assoc (take at buffer) a b)
    where
      front : List ℕ
      front = take at buffer ++ a

      rest : List ℕ
      rest = drop (at + length a) buffer

      past : drop (at + length a + length b) (front ++ rest) ≡ drop (at + length (a ++ b)) buffer
      past =
          ap (λ k. drop (k + length b) (front ++ rest)) (sym (front_length a))
          ∙ drop-append-add front rest (length b)
          ∙ drop-drop (length b) (at + length a) buffer
          ∙ ap (λ k. drop k buffer) (add_assoc at (length a) (length b) ∙ ap (λ k. at + k) (sym (length-append a b)))

-- A byte stored right after what was put is put with it.
put_one : (at : ℕ) (bytes buffer : List ℕ) (b : ℕ) → at + length bytes < length buffer
    → set (put_at at bytes buffer) (at + length bytes) b ≡ put_at at (bytes ++ (b ∷ [])) buffer
unfolding put_at
put_one at bytes buffer b room =
    ap (λ xs. set (front ++ xs) end b) (drop-cons buffer end 0 room)
    ∙ set_at front (get_or buffer end 0) rest b end (front_length at buffer (omega arith) bytes)
    ∙ sym (append_snoc front b rest)
    ∙ ap (λ xs. xs ++ rest) (append_assoc (take at buffer) bytes (b ∷ []))
    ∙ ap (λ k. take at buffer ++ (bytes ++ (b ∷ [])) ++ drop k buffer) one_past
  where
    end : ℕ
    end = at + length bytes

    front : List ℕ
    front = take at buffer ++ bytes

    rest : List ℕ
    rest = drop (suc end) buffer

    one_past : suc end ≡ at + length (bytes ++ (b ∷ []))
    one_past = simp length-append (omega arith)

-- A byte stored is put.
pub put_byte : (at : ℕ) (buffer : List ℕ) (b : ℕ) → at < length buffer → set buffer at b ≡ put_at at (b ∷ []) buffer
put_byte at buffer b room =
    ap (λ xs. set xs at b) (sym (put_nothing at buffer))
    ∙ ap (λ k. set (put_at at [] buffer) k b) (sym (add-zero at))
    ∙ put_one at [] buffer b (omega arith)

-- The bytes were put at a place of the buffer `before`, which left it `after`, and `next` is the place after them.
abbrev pub Put : ℕ → List ℕ → List ℕ → List ℕ → ℕ → Type 0
Put at bytes before after next = (next ≡ at + length bytes) × (after ≡ put_at at bytes before)

-- At first nothing was put.
pub put_none : (at : ℕ) (buffer : List ℕ) → Put at [] buffer buffer at
put_none at buffer = (sym (add-zero at), sym (put_nothing at buffer))

-- What was put in two steps was put.
pub put_both : (at : ℕ) (a : List ℕ) (before between : List ℕ) (next : ℕ) (b : List ℕ) (after : List ℕ) (end : ℕ) → at ≤ length before
    → Put at a before between next → Put next b between after end → Put at (a ++ b) before after end
put_both at a before between next b after end inside one two = (
  simp length-append (omega arith),
  two.1
      ∙ ap (λ xs. put_at next b xs) one.1
      ∙ ap (λ k. put_at k b (put_at at a before)) one.0
      ∙ put_after at before inside a b,
)
