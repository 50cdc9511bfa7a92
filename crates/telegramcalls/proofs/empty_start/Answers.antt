-- `telegramcalls::empty_start` meets its contract: the first buffer is named. Assumes nothing.
use mathlib.Core.Path.{refl}
use Rattle.telegramcalls.proofs.empty_start.Goals as goal

pub returns : goal.returns
returns c = refl
