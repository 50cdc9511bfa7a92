-- `exchange::wire::copy_logical` meets its contract. Assumes nothing.
use mathlib.Core.Path.{refl}
use Prim.Native.Nat.{◌+◌}
use native.Mathlib.Omega.{arith}
use Rattle.exchange.proofs.Copying.{copying_length, copied, copy_within, copy_plain, copy_escape, copying_as}
use Rattle.exchange.proofs.wire.copy_logical.Goals as goal
use Rattle.exchange.proofs.wire.copy_logical.Goals.{then-byte, else-byte}

pub loop-i-init : goal.loop-i-init
loop-i-init c =
    let ready = c.requires.0.1 in
    (ready.size, (ready.rest, record { within = omega arith; room = omega (arith, ready.size, c.requires.1); wire = ready.wire; output = refl }))

pub bounds-run-next : goal.bounds-run-next
bounds-run-next c = copy_within _ _ _ _ _ _ _ c.loop-i.invariant.1.1 (omega (arith, c.loop-i.invariant.0, c.loop-i-test.true))

pub overflow_add-out : goal.overflow_add-out
overflow_add-out c = omega (arith, (copy_escape _ _ _ _ _ _ _ c.loop-i.invariant.1.1 (omega (arith, c.loop-i.invariant.0, c.loop-i-test.true)) c.if-byte.true).second_within)

pub bounds-run-next-then-byte : goal.bounds-run-next-then-byte
bounds-run-next-then-byte c = (copy_escape _ _ _ _ _ _ _ c.loop-i.invariant.1.1 (omega (arith, c.loop-i.invariant.0, c.loop-i-test.true)) c.if-byte.true).second_within

pub overflow_add-out-then-byte : goal.overflow_add-out-then-byte
overflow_add-out-then-byte c =
    let e = copy_escape _ _ _ _ _ _ _ c.loop-i.invariant.1.1 (omega (arith, c.loop-i.invariant.0, c.loop-i-test.true)) c.if-byte.true in
    omega (arith, e.is, e.byte)

pub bounds-out-i : goal.bounds-out-i
bounds-out-i c = omega (arith, copying_length _ _ _ _ _ _ _ c.loop-i.invariant.1.1, c.loop-i.invariant.1.1.room, c.loop-i.invariant.0, c.loop-i-test.true)

pub overflow_add-next : goal.overflow_add-next
overflow_add-next c = omega (arith, (copy_escape _ _ _ _ _ _ _ c.loop-i.invariant.1.1 (omega (arith, c.loop-i.invariant.0, c.loop-i-test.true)) c.if-byte.true).second_within)

pub bounds-out-i-else-byte : goal.bounds-out-i-else-byte
bounds-out-i-else-byte c = omega (arith, copying_length _ _ _ _ _ _ _ c.loop-i.invariant.1.1, c.loop-i.invariant.1.1.room, c.loop-i.invariant.0, c.loop-i-test.true)

pub overflow_add-next-else-byte : goal.overflow_add-next-else-byte
overflow_add-next-else-byte c = omega (arith, copy_within _ _ _ _ _ _ _ c.loop-i.invariant.1.1 (omega (arith, c.loop-i.invariant.0, c.loop-i-test.true)))

pub loop-i-preserved : goal.loop-i-preserved
loop-i-preserved c =
    let due = c.loop-i.invariant.1.1 in
    elim c.if-byte.branch [
      | then-byte w ↦ (c.loop-i.invariant.0, (c.loop-i.invariant.1.0, copying_as _ _ _ _ (c.loop-i.i + 1) w.out-is w.next-is (copy_escape _ _ _ _ _ _ _ due (omega (arith, c.loop-i.invariant.0, c.loop-i-test.true)) w.if-byte.true).then))
      | else-byte w ↦ (c.loop-i.invariant.0, (c.loop-i.invariant.1.0, copying_as _ _ _ _ (c.loop-i.i + 1) w.out-is w.next-is (copy_plain _ _ _ _ _ _ _ due (omega (arith, c.loop-i.invariant.0, c.loop-i-test.true)) w.if-byte.false)))
    ]

pub shape_of-out : goal.shape_of-out
shape_of-out c = copying_length _ _ _ _ _ _ _ c.loop-i.invariant.1.1

pub returns : goal.returns
returns c = copied _ _ _ _ _ _ _ c.loop-i.invariant.1.1 (omega (arith, c.loop-i.invariant.0, c.loop-i-test.false))
