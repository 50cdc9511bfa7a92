-- The loop ends: each step goes on in the line.
use Rattle.std.proofs.Common.{length, ◌-◌}
use Rattle.desk.proofs.hex.bytes.Given as goal

abbrev pub decreases-loop-i : goal.decreases-loop-i
decreases-loop-i l = length l.line - l.i
