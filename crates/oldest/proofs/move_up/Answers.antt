-- `oldest::move_up` meets its contract. Assumes nothing.
use mathlib.Core.Path.{refl}
use native.Mathlib.Omega.{arith}
use lib.ListN.{length-drop}
use Rattle.oldest.proofs.MovedUp.{moved_next, moved_length, moved_all}
use Rattle.oldest.proofs.move_up.Goals as goal

pub loop-i-init : goal.loop-i-init
loop-i-init c = (omega arith, refl)

pub loop-i-preserved : goal.loop-i-preserved
loop-i-preserved c = moved_next c.args.by c.args.slots.now c.loop-i.slots c.loop-i.i c.loop-i.invariant (omega (arith, length-drop c.args.by c.args.slots.now))

pub shape_of-slots : goal.shape_of-slots
shape_of-slots c = moved_length c.args.by c.args.slots.now c.loop-i.slots c.loop-i.i c.loop-i.invariant

pub returns : goal.returns
returns c = moved_all c.args.by c.args.slots.now c.loop-i.slots c.loop-i.i c.loop-i.invariant (omega (arith, length-drop c.args.by c.args.slots.now))
