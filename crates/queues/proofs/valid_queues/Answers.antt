-- `queues::valid_queues` meets its contract: a valid table is of so few devices that the product fits. Assumes nothing.
use mathlib.Core.Path.{sym, ◌∙◌}
use native.Mathlib.Omega.{arith}
use Rattle.table.proofs.Meaning.{tested}
use Rattle.queues.proofs.valid_queues.Goals as goal

pub overflow_mul-devices : goal.overflow_mul-devices
overflow_mul-devices c = omega (arith, (tested _ (sym c.valid.ensures ∙ c.if-not-valid.false)).few)
