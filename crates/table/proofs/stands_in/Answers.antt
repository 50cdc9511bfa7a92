-- `table::stands_in` meets its contract. Assumes nothing.
use Rattle.lists.proofs.Std.{any_read}
use Rattle.std.proofs.Math.Dec.{eqb}
use Rattle.table.proofs.stands_in.Goals as goal

pub returns : goal.returns
returns c = any_read (eqb c.args.serial) _ _ c.loop-other-test.false c.loop-other.invariant
