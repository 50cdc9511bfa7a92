-- `table::serials_right` meets its contract. The loop's invariant: the serials so far are right. Assumes nothing.
use Rattle.std.proofs.Common.{◌≡◌, take}
use Rattle.std.specs.List.{list_all}
use Rattle.table.specs.Table.{serial_right}
use Rattle.table.proofs.serials_right.Given as goal

abbrev pub invariant-loop-serial : goal.invariant-loop-serial
invariant-loop-serial l = l.right ≡ list_all serial_right (take l.serial-index l.serials)
