-- `beginning::command_start` meets its contract. The loop's invariant: the command of the run starts as many bytes behind this
-- position as that of what is left. Assumes nothing.
use Prim.Native.Nat.{◌-◌, ◌≤◌}
use lib.ListN.{length}
use Rattle.beginning.proofs.Begun.{Passed}
use Rattle.beginning.proofs.command_start.Given as goal

abbrev pub invariant-loop-at : goal.invariant-loop-at
invariant-loop-at l = (l.at ≤ length l.run) × Passed l.run l.at

abbrev pub decreases-loop-at : goal.decreases-loop-at
decreases-loop-at l = length l.run - l.at
