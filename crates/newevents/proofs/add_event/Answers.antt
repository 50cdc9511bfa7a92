-- `newevents::add_event` meets its contract: what valid queues say of the columns, and the slots written through a part of them. Assumes nothing.
use Rattle.std.proofs.Common.{rules}
use mathlib.Core.Path.{◌≡◌, sym, ap, ◌∙◌}
use Prim.Native.Nat.{ℕ}
use lib.ListN.{get_or}
use Rattle.lists.specs.Tests.{position}
use native.Mathlib.Omega.{arith}
use Rattle.newevents.specs.Event.{add_call}
use Rattle.newevents.proofs.AddCases.{place, added_is}
use Rattle.queues.proofs.Meaning.{tested, ids_long}
use Rattle.newevents.proofs.add_event.Goals as goal

pub returns-then-device-addresses : goal.returns-then-device-addresses
unfolding add_call
returns-then-device-addresses c =
    let long = ids_long _ _ (tested _ _ (sym c.valid_queues.ensures ∙ c.if-not-valid_queues.false)) in
    search rules

pub bounds-counts-device : goal.bounds-counts-device
bounds-counts-device c =
    let here = place _ _ (sym c.valid_queues.ensures ∙ c.if-not-valid_queues.false) c.device_of-device.result c.if-device-addresses.false in
    omega (arith, here.counted)

pub returns-then-count-ge-MOST_QUEUED : goal.returns-then-count-ge-MOST_QUEUED
unfolding add_call
returns-then-count-ge-MOST_QUEUED c =
    let here = place _ _ (sym c.valid_queues.ensures ∙ c.if-not-valid_queues.false) c.device_of-device.result c.if-device-addresses.false in
    search rules

pub bounds-counts-device-2 : goal.bounds-counts-device-2
bounds-counts-device-2 c =
    let here = place _ _ (sym c.valid_queues.ensures ∙ c.if-not-valid_queues.false) c.device_of-device.result c.if-device-addresses.false in
    omega (arith, here.counted)

pub overflow_mul-start : goal.overflow_mul-start
overflow_mul-start c =
    let here = place _ _ (sym c.valid_queues.ensures ∙ c.if-not-valid_queues.false) c.device_of-device.result c.if-device-addresses.false in
    omega arith

pub overflow_add-end : goal.overflow_add-end
overflow_add-end c =
    let here = place _ _ (sym c.valid_queues.ensures ∙ c.if-not-valid_queues.false) c.device_of-device.result c.if-device-addresses.false in
    omega arith

pub slice_bounds-put-end : goal.slice_bounds-put-end
slice_bounds-put-end c =
    let here = place _ _ (sym c.valid_queues.ensures ∙ c.if-not-valid_queues.false) c.device_of-device.result c.if-device-addresses.false in
    omega arith

pub returns : goal.returns
returns c =
    let here = place _ _ (sym c.valid_queues.ensures ∙ c.if-not-valid_queues.false) c.device_of-device.result c.if-device-addresses.false in
    let same : get_or c.args.counts.now c.device_of-device.result 0 ≡ get_or c.args.counts.now (position c.args.id c.args.addresses.now) 0 =
    ap (λ (d : ℕ). get_or c.args.counts.now d 0) c.device_of-device.ensures in
    added_is _ _ _ _ (record { valid_before = sym c.valid_queues.ensures ∙ c.if-not-valid_queues.false; there = omega arith; few = omega arith; room = omega arith })
    c.device_of-device.result c.device_of-device.ensures c.put.new.slots c.put.ensures
