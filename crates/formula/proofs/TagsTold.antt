-- What `try_from` and then `ok` hand back of a byte is the tag that the byte is, if it is one.
use mathlib.Core.Path.{◌≡◌, refl, sym, ap, ◌∙◌}
use Rattle.std.specs.Prelude.{None, Option, Some, Result, ok_or}
use Rattle.std.specs.Result.{result_ok}
use Rattle.procap.specs.declared.tag.NoTag.{NoTag}
use Rattle.procap.specs.Bytes.{no_tag}

ok_of : {A E : Type 0} (o : Option A) (e : E) → result_ok (ok_or o e) ≡ o
ok_of None e = refl
ok_of (Some a) e = refl

pub tag_told : {A : Type 0} {o : Option A} {r : Result A NoTag} {t : Option A} → r ≡ ok_or o no_tag → t ≡ result_ok r → o ≡ t
tag_told {o = o} is told = sym (told ∙ ap result_ok is ∙ ok_of o no_tag)
