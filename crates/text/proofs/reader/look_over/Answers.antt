-- The first line, the request and the moments are read one after another, and what is seen of the text is what is seen of the rest of it.
-- The version is at most 1 and not 0.
use Prim.Native.Nat.{ℕ, ◌≤◌}
use mathlib.Core.Path.{◌≡◌, sym, ◌∙◌}
use native.Mathlib.Omega.{arith}
use Rattle.procap.specs.Procaps.{version_one}
use Rattle.text.specs.Calls.{reading}
use Rattle.text.proofs.Requests.{said_none, said_some}
use Rattle.text.proofs.Readings.{no_version, version_zero, text_no_request, text_no_moments, text_says, none_seen}
use Rattle.text.proofs.reader.look_over.Goals as goal

-- A version of at most 1 that is not 0 is 1.
version_is_one : (v : ℕ) → v ≤ version_one → (v ≡ 0 → ⊥) → v ≡ version_one
version_is_one v small nonzero = omega arith

-- Without one of these there is no text.
pub returns-in_err-version : goal.returns-in_err-version
unfolding reading
returns-in_err-version c = c.from_residual.ensures ∙ none_seen _ _ (no_version _ (sym c.in_err-version.ensures.reads))

pub returns-then-version-eq0 : goal.returns-then-version-eq0
unfolding reading
returns-then-version-eq0 c = none_seen _ _ (version_zero _ _ _ (sym c.in_ok-version.ensures.reads) c.if-version-eq0.true)

pub returns-in_err-request : goal.returns-in_err-request
unfolding reading
returns-in_err-request c =
    let first = version_is_one _ c.in_ok-version.ensures.bound c.if-version-eq0.false in
    c.from_residual-in_err-request.ensures
    ∙ none_seen _ _
    (text_no_request _ _ _ (sym c.in_ok-version.ensures.reads) first (said_none _ _ c.request_at.ensures c.in_err-request.ensures.value))

pub returns-in_err-from : goal.returns-in_err-from
unfolding reading
returns-in_err-from c =
    let first = version_is_one _ c.in_ok-version.ensures.bound c.if-version-eq0.false in
    c.from_residual-in_err-from.ensures
    ∙ none_seen _ _
    (text_no_moments _ _ _ (sym c.in_ok-version.ensures.reads) first _ _
    (said_some _ _ c.request_at.ensures _ _ c.in_ok-request.ensures.value) (sym c.in_err-from.ensures))

-- With them the text says what the rest says.
pub returns : goal.returns
unfolding reading
returns c =
    let first = version_is_one _ c.in_ok-version.ensures.bound c.if-version-eq0.false in
    rw (text_says _ _ _ (sym c.in_ok-version.ensures.reads) first _ _ (said_some _ _ c.request_at.ensures _ _ c.in_ok-request.ensures.value) _ _ _
    (sym c.in_ok-from.ensures))
    c.look_over_facts.ensures
