-- `polls::packing::put_events` meets its contract. The loop's invariant: so many events stand in the output, one behind the
-- other. Assumes nothing.
use Prim.Native.Nat.{◌*◌}
use Rattle.polls.proofs.PackedEvents.{Packed}
use Rattle.polls.proofs.packing.put_events.Given as goal

abbrev pub invariant-loop-put : goal.invariant-loop-put
invariant-loop-put l = Packed l.events l.slots l.initial.out l.out l.put (13 * l.put) l.to
