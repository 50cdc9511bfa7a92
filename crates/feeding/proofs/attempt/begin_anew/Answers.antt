-- `feeding::attempt::begin_anew` meets its contract: value by value.
-- Assumes nothing.
use mathlib.Core.Path.{refl}
use Rattle.feeding.proofs.attempt.begin_anew.Goals as goal

pub returns : goal.returns
returns c = (λ kept bytes. refl, refl)
