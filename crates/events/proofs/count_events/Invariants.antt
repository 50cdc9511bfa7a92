-- `events::count_events` meets its contract. The loop's invariant: the events of the whole are those passed and those from
-- here on. Assumes nothing.
use Prim.Native.Nat.{◌-◌}
use lib.ListN.{length}
use Rattle.events.proofs.EventList.{Counted}
use Rattle.events.proofs.count_events.Given as goal

abbrev pub invariant-loop-i : goal.invariant-loop-i
invariant-loop-i l = Counted l.events l.count l.i

abbrev pub decreases-loop-i : goal.decreases-loop-i
decreases-loop-i l = length l.events - l.i
