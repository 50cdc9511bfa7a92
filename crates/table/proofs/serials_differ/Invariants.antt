-- `table::serials_differ` meets its contract: the slots tell each serial from those before it. Assumes nothing.
use Rattle.table.proofs.Slots.{Slots}
use Rattle.table.proofs.serials_differ.Given as goal

abbrev pub invariant-loop-i : goal.invariant-loop-i
invariant-loop-i l = Slots l.serials l.taken l.i
