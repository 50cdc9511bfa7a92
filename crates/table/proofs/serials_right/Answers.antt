-- `table::serials_right` meets its contract. Assumes nothing.
use Rattle.lists.proofs.Std.{all_read}
use Rattle.table.specs.Table.{serial_right}
use Rattle.table.proofs.serials_right.Goals as goal

pub returns : goal.returns
returns c = all_read serial_right _ _ c.loop-serial-test.false c.loop-serial.invariant
