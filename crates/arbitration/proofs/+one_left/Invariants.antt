-- Each call of itself has one window fewer.
use Rattle.arbitration.proofs.+one_left.Given as goal

abbrev pub decreases-one_left : goal.decreases-one_left
decreases-one_left l = l.windows
