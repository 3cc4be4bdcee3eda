-- What decides strength, so that the walk computes. There is nothing to believe here: the types say all.
use Rattle.std.specs.Prelude.{ℕ, ◌≡◌, refl, List, [], ◌∷◌, ◌⊎◌}
use Rattle.std.proofs.Common.{ap}
use Rattle.std.proofs.Math.Logic.{inl, inr}
use Rattle.std.proofs.Math.Decide.{ℕ_discrete}
use Rattle.procap.specs.Lists.{In}
use Rattle.procap.specs.Deciding.{goes_with?}
use Rattle.bl.specs.Strength.{Pair, AsStrong, as_itself, as_above}

-- With no pair, a principal is as strong as itself alone.
pub alone : {k j : ℕ} → k ≡ j → AsStrong [] k j
alone {k} e = rw (← e) as_itself

pub alone_is : {k j : ℕ} → AsStrong [] k j → k ≡ j
unfolding In
alone_is as_itself = refl
alone_is (as_above i s) = absurd i

-- One chain, and then another.
pub chain : {ps : List Pair} {i j k : ℕ} → AsStrong ps k i → AsStrong ps i j → AsStrong ps k j
chain as_itself t = t
chain (as_above i s) t = as_above i (chain s t)

module _ (p : Pair) (ps : List Pair) where
  -- A pair more takes no strength away.
  pub kept : {j k : ℕ} → AsStrong ps k j → AsStrong (p ∷ ps) k j
  unfolding In
  kept as_itself = as_itself
  kept (as_above i s) = as_above (inr i) (kept s)

  -- It joins who is as strong as its stronger one to whom its weaker one is as strong as.
  pub joined : {j k : ℕ} → AsStrong ps k p.stronger → AsStrong ps p.weaker j → AsStrong (p ∷ ps) k j
  unfolding In
  joined s t = chain (kept s) (as_above (inl refl) (kept t))

  -- And no other strength comes with it.
  pub parted : {j k : ℕ} → AsStrong (p ∷ ps) k j → AsStrong ps k j ⊎ (AsStrong ps k p.stronger × AsStrong ps p.weaker j)
  unfolding In
  parted as_itself = inl as_itself
  parted (as_above i s) = by i (parted s)
    where
      by : {i j k : ℕ} → In (record { stronger = k; weaker = i }) (p ∷ ps) → AsStrong ps i j ⊎ (AsStrong ps i p.stronger × AsStrong ps p.weaker j)
          → AsStrong ps k j ⊎ (AsStrong ps k p.stronger × AsStrong ps p.weaker j)
      by (inl e) (inl t) = rw (← e) (inr (as_itself, t))
      by (inl e) (inr t) = inr (rw (ap (λ (q : Pair). q.stronger) e) as_itself, t.1)
      by (inr h) (inl t) = inl (as_above h t)
      by (inr h) (inr t) = inr (as_above h t.0, t.1)

-- Whether k is at least as strong as j. With a pair more it is so if it was, or if the pair joins the two.
unfoldable pub as_strong? : (ps : List Pair) (k j : ℕ) → Dec (AsStrong ps k j)
as_strong? [] k j = goes_with? alone alone_is (ℕ_discrete k j)
as_strong? (p ∷ ps) k j = goes_with? told (parted p ps) (either (as_strong? ps k j) (as_strong? ps k p.stronger) (as_strong? ps p.weaker j))
  where
    told : AsStrong ps k j ⊎ (AsStrong ps k p.stronger × AsStrong ps p.weaker j) → AsStrong (p ∷ ps) k j
    told (inl s) = kept p ps s
    told (inr t) = joined p ps t.0 t.1

    either : {A B C : Type 0} → Dec A → Dec B → Dec C → Dec (A ⊎ (B × C))
    either (yes a) b c = yes (inl a)
    either (no n) (no m) c = no (λ h. elim h [ inl a ↦ n a | inr t ↦ m t.0 ])
    either (no n) (yes b) (no m) = no (λ h. elim h [ inl a ↦ n a | inr t ↦ m t.1 ])
    either (no n) (yes b) (yes c) = yes (inr (b, c))
