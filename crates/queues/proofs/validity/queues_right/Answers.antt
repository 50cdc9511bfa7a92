-- `queues::validity::queues_right` meets its contract. Assumes nothing.
use mathlib.Core.Path.{sym, ap, ◌∙◌}
use Prim.Native.Nat.{◌<◌}
use native.Mathlib.Omega.{arith}
use lib.ListN.{length, get_or}
use Rattle.queues.specs.Queues.{queue_right, device_right}
use Rattle.queues.proofs.Below.{below_from, below_fails}
use Rattle.queues.proofs.SlotsOf.{part_is}
use Rattle.queues.proofs.validity.queues_right.Goals as goal

pub returns-then-not-queue_right : goal.returns-then-not-queue_right
returns-then-not-queue_right c =
    let a = c.args in
    let i = c.loop-i.i in
    let here = c.queue_right.ensures ∙ ap (queue_right (get_or a.lasts.now i 0) (get_or a.counts.now i 0)) (part_is a.slots.now i) in
    below_fails (device_right a.lasts.now a.counts.now a.slots.now) (length a.counts.now) i c.loop-i-test.true (sym here ∙ c.if-not-queue_right.true)

pub returns : goal.returns
returns c =
    let a = c.args in
    sym (below_from (device_right a.lasts.now a.counts.now a.slots.now) (length a.counts.now) (λ j h. let lt : j < c.loop-i.i = omega arith in c.loop-i.invariant.1 j lt))
