-- `queues::validity::queue_right` meets its contract: what is left of the slots decides as all of them do. Assumes nothing.
use mathlib.Core.Path.{◌≡◌}
use Prim.Native.Nat.{◌/◌}
use lib.ListN.{length}
use Rattle.std.specs.Slice.Iter.{chunks_exact_rest, chunks_exact_size}
use Rattle.queues.specs.Queues.{slots_right}
use Rattle.queues.proofs.validity.queue_right.Given as goal

abbrev pub invariant-loop-slot : goal.invariant-loop-slot
invariant-loop-slot l = record {
  size : chunks_exact_size l.slot-iterator ≡ 13;
  left : slots_right (length (chunks_exact_rest l.slot-iterator) / 13) (chunks_exact_rest l.slot-iterator) ≡ slots_right l.count l.slots;
}
