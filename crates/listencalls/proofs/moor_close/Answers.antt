-- `listencalls::moor_close` meets its contract: what closing gives, as numbers.
-- Assumes nothing.
use Rattle.exchange.proofs.Buffers.{judges_shown}
use Rattle.boundary.specs.ForC.{judged_for_c}
use Rattle.listencalls.proofs.moor_close.Goals as goal

pub returns : goal.returns
returns c =
    record { judges = judges_shown judged_for_c _ _ _ _ _ _ _ _ _ c.judged_for_c.ensures c.close-closed.ensures.judges; state_value = c.close-closed.ensures.state_value }
