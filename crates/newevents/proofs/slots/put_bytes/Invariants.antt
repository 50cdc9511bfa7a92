-- `newevents::slots::put_bytes` meets its contract. The loop's invariant: the first i bytes are put, the rest stays.
-- Assumes nothing.
use mathlib.Core.Path.{◌≡◌}
use Prim.Native.Nat.{◌≤◌}
use lib.ListN.{length, take}
use Rattle.lists.specs.Starting.{starting}
use Rattle.newevents.proofs.slots.put_bytes.Given as goal

abbrev pub invariant-loop-i : goal.invariant-loop-i
invariant-loop-i l = (l.i ≤ length l.bytes) × (length l.out ≡ length l.initial.out) × (l.out ≡ starting (take l.i l.bytes) l.initial.out)
