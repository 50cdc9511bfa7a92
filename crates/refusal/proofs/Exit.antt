-- What a `?` returns where the call before it refused: that call's own refusal.
-- Assumes nothing.
use mathlib.Core.Path.{◌≡◌, ap, ◌∙◌}
use Rattle.std.specs.Prelude.{Result, Err, IsErrAnd}
use Rattle.std.proofs.lemmas.Result.{err_from_is_err_and}

pub exits : {T E : Type 0} (r : Result T E) (why : E) → IsErrAnd r (λ y. y ≡ why) → r ≡ Err why
exits r why h = let given = err_from_is_err_and r h in given.1 ∙ ap Err given.2
