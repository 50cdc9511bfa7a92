use Rattle.std.proofs.Common.{◌≤◌}
use Rattle.spelling.proofs.line_of.Given as goal

-- A line begins no further on than the walk is.
abbrev pub invariant-loop-i : goal.invariant-loop-i
invariant-loop-i l = l.from ≤ l.i
