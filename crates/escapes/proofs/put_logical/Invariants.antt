-- `escapes::put_logical` meets its contract. The loop's invariant: the output starts with the first i of the logical bytes
-- that are due, and the run from here on gives the others.
-- Assumes nothing.
use Rattle.escapes.proofs.LogicalBytes.{Putting}
use Rattle.escapes.proofs.put_logical.Given as goal

abbrev pub invariant-loop-i : goal.invariant-loop-i
invariant-loop-i l = Putting l.run l.initial.out l.out l.n l.at l.i l.next
