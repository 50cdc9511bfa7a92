-- `captures::through_syn` meets its contract. The loop's invariant: as many bytes as were passed stand before those that are left through
-- the first SYN. Assumes nothing.
use Rattle.captures.proofs.Through.{Sought}
use Rattle.captures.proofs.through_syn.Given as goal

abbrev pub invariant-loop-at : goal.invariant-loop-at
invariant-loop-at l = Sought l.run l.at
