-- `telegramcalls::moor_judge` meets its contract: what the judge gives, as numbers.
-- Assumes nothing.
use Rattle.boundary.specs.ForC.{judged_for_c}
use Rattle.exchange.proofs.Buffers.{judges_shown}
use Rattle.telegramcalls.proofs.moor_judge.Goals as goal

pub returns : goal.returns
returns c = judges_shown judged_for_c _ _ _ _ _ _ _ _ _ c.judged_for_c.ensures c.judge.ensures
