-- `table::stands_in` meets its contract. The loop's invariant: whether the serial stands among those so far. Assumes nothing.
use Rattle.std.proofs.Common.{◌≡◌, take}
use Rattle.std.specs.List.{list_any}
use Rattle.std.proofs.Math.Dec.{eqb}
use Rattle.table.proofs.stands_in.Given as goal

abbrev pub invariant-loop-other : goal.invariant-loop-other
invariant-loop-other l = l.stands ≡ list_any (eqb l.serial) (take l.other-index l.serials)
