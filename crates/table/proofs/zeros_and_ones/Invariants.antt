-- `table::zeros_and_ones` meets its contract. The loop's invariant: the numbers so far are 0 or 1. Assumes nothing.
use Rattle.std.proofs.Common.{◌≡◌, take}
use Rattle.std.specs.List.{list_all}
use Rattle.table.specs.Table.{mark_right}
use Rattle.table.proofs.zeros_and_ones.Given as goal

abbrev pub invariant-loop-mark : goal.invariant-loop-mark
invariant-loop-mark l = l.right ≡ list_all mark_right (take l.mark-index l.column)
