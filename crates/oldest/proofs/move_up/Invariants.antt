-- `oldest::move_up` meets its contract: what is read is still as it was. Assumes nothing.
use Rattle.oldest.proofs.MovedUp.{Moved}
use Rattle.oldest.proofs.move_up.Given as goal

abbrev pub invariant-loop-i : goal.invariant-loop-i
invariant-loop-i l = Moved l.by l.initial.slots l.slots l.i
