-- `table::serials_differ` meets its contract. Assumes nothing.
use Rattle.std.proofs.Common.{sym, ◌∙◌, arith}
use Rattle.table.proofs.Slots.{slot_free, slot_next, slots_end, stands_nowhere, stands_twice}
use Rattle.table.proofs.serials_differ.Goals as goal
use Rattle.table.proofs.serials_differ.Goals.{else-taken-slot-gt0-via-then-taken-slot-gt0+else-stands_in, else-taken-slot-gt0-via-else-taken-slot-gt0}

pub returns-then-stands_in : goal.returns-then-stands_in
returns-then-stands_in c =
    stands_twice c.args.serials.now c.loop-i.i c.loop-i-test.true (sym c.stands_in.ensures ∙ c.if-stands_in.true)

pub loop-i-preserved : goal.loop-i-preserved
loop-i-preserved c =
    let serials = c.args.serials.now in
    let taken = c.loop-i.taken in
    let i = c.loop-i.i in
    let kept = c.loop-i.invariant in
    let slot = c.slot_of-slot.result in
    let its = c.slot_of-slot.ensures in
    let inside = c.loop-i-test.true in
    slot_next serials taken i kept slot its inside
    (elim c.else-taken-slot-gt0.branch [ else-taken-slot-gt0-via-then-taken-slot-gt0+else-stands_in t ↦ stands_nowhere serials i inside (sym t.stands_in.ensures ∙ t.if-stands_in.false) | else-taken-slot-gt0-via-else-taken-slot-gt0 t ↦ slot_free serials taken i kept slot its (omega (arith, t.if-taken-slot-gt0.false)) ])

pub returns : goal.returns
returns c = slots_end c.args.serials.now c.loop-i.taken c.loop-i.i c.loop-i.invariant c.loop-i-test.false
