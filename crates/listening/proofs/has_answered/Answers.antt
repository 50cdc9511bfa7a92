-- `listening::has_answered` meets its contract.
-- Assumes nothing.
use mathlib.Core.Path.{refl}
use Rattle.listening.specs.Listening.{has_answered}
use Rattle.listening.proofs.has_answered.Goals as goal

pub returns : goal.returns
unfolding has_answered
returns c = refl
