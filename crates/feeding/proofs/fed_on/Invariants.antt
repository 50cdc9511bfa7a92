-- `feeding::fed_on` meets its contract. The loop's invariant: what is left of the run, from these marks, what is kept and what is
-- in hand, comes to the same as the whole run from the first ones.
-- Assumes nothing.
use mathlib.Core.Path.{◌≡◌}
use Prim.Native.Nat.{◌-◌}
use lib.ListN.{length, replicate}
use Rattle.listening.specs.Listening.{hand_room, in_hand_now, listened}
use Rattle.feeding.specs.Inner.{state_of}
use Rattle.feeding.proofs.BehindHand.{Turns}
use Rattle.feeding.proofs.fed_on.Given as goal

abbrev pub invariant-loop-i : goal.invariant-loop-i
invariant-loop-i l = Turns (listened (in_hand_now (state_of l.initial.m l.initial.kept) l.hand) l.run) l.run l.hand l.m l.kept l.held l.i × (l.raw ≡ replicate hand_room 0)

abbrev pub decreases-loop-i : goal.decreases-loop-i
decreases-loop-i l = length l.run - l.i
