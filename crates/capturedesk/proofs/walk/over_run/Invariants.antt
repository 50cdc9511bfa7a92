-- `capturedesk::walk::over_run` is safe and ends. The loop's measure: how many bytes of the run are left. Assumes nothing.
use Rattle.std.proofs.Common.{◌-◌, length}
use Rattle.capturedesk.proofs.walk.over_run.Given as goal

abbrev pub decreases-loop-i : goal.decreases-loop-i
decreases-loop-i l = length l.run - l.i
