-- Each call of itself has one window fewer.
use Rattle.arbitration.proofs.+over_windows.Given as goal

abbrev pub decreases-over_windows : goal.decreases-over_windows
decreases-over_windows l = l.windows
