-- `table::zeros_and_ones` meets its contract. Assumes nothing.
use Rattle.lists.proofs.Std.{all_read}
use Rattle.table.specs.Table.{mark_right}
use Rattle.table.proofs.zeros_and_ones.Goals as goal

pub returns : goal.returns
returns c = all_read mark_right _ _ c.loop-mark-test.false c.loop-mark.invariant
