-- `queues::validity::queue_right` meets its contract. Assumes nothing.
use Rattle.std.proofs.Common.{◌≡◌, ℕ, List, ◌++◌, ◌*◌, ◌/◌, ◌<◌, sym, ap, ◌∙◌, length, take, arith, rules}
use Rattle.std.specs.Slice.Iter.{chunks_exact_rest}
use Rattle.queues.specs.Queues.{slots_right}
use Rattle.queues.proofs.SlotsRight.{queued_only, urgency_wrong, data_wrong, slot_passes, too_many, last_over, slots_decide}
use Rattle.queues.proofs.validity.queue_right.Goals as goal
use Rattle.queues.proofs.validity.queue_right.Goals.{then-count-gt-MOST_QUEUED-via-then-count-gt-MOST_QUEUED, then-count-gt-MOST_QUEUED-via-else-count-gt-MOST_QUEUED+then-last-count, then-slot-gt1-via-then-slot-gt1, then-slot-gt1-via-else-slot-gt1+then-slot-gt-MOST_DATA}

pub returns-then-count-gt-MOST_QUEUED : goal.returns-then-count-gt-MOST_QUEUED
returns-then-count-gt-MOST_QUEUED c =
    let a = c.args in
    elim c.then-count-gt-MOST_QUEUED.branch [ then-count-gt-MOST_QUEUED-via-then-count-gt-MOST_QUEUED w ↦ too_many a.last a.count a.slots.now (omega arith) | then-count-gt-MOST_QUEUED-via-else-count-gt-MOST_QUEUED+then-last-count w ↦ last_over a.last a.count a.slots.now (omega arith) ]

pub loop-slot-init : goal.loop-slot-init
loop-slot-init c =
    let rest : chunks_exact_rest c.into_iter-slot-iterator.result ≡ take (13 * c.args.count) c.args.slots.now = search rules in
    record {
      size = search rules;
      left = ap (λ (l : List ℕ). slots_right (length l / 13) l) rest ∙ queued_only c.args.count c.args.slots.now (omega arith);
    }

pub returns-then-slot-gt1 : goal.returns-then-slot-gt1
returns-then-slot-gt1 c =
    let a = c.args in
    let slots = chunks_exact_rest c.loop-slot.slot-iterator in
    let slot = c.in-Some.slot.now in
    let rest = chunks_exact_rest c.next.new.self in
    let next : slots ≡ slot ++ rest = search rules in
    let whole : length slot ≡ 13 = search rules in
    elim c.then-slot-gt1.branch [ then-slot-gt1-via-then-slot-gt1 w ↦ slots_decide a.last a.count a.slots.now (omega arith) (omega arith) (sym (urgency_wrong slots slot rest next whole (omega arith)) ∙ c.loop-slot.invariant.left) | then-slot-gt1-via-else-slot-gt1+then-slot-gt-MOST_DATA w ↦ slots_decide a.last a.count a.slots.now (omega arith) (omega arith) (sym (data_wrong slots slot rest next whole (omega arith)) ∙ c.loop-slot.invariant.left) ]

pub loop-slot-preserved : goal.loop-slot-preserved
loop-slot-preserved c =
    let slots = chunks_exact_rest c.loop-slot.slot-iterator in
    let slot = c.in-Some.slot.now in
    let rest = chunks_exact_rest c.next.new.self in
    let next : slots ≡ slot ++ rest = search rules in
    let whole : length slot ≡ 13 = search rules in
    record {
      size = search rules;
      left = slot_passes slots slot rest next whole (omega arith) (omega arith) ∙ c.loop-slot.invariant.left;
    }

pub returns : goal.returns
unfolding slots_right
returns c =
    let rest = chunks_exact_rest c.loop-slot.slot-iterator in
    let short : length rest < 13 = search rules in
    let none : length rest / 13 ≡ 0 = omega arith in
    slots_decide c.args.last c.args.count c.args.slots.now (omega arith) (omega arith) (ap (λ (n : ℕ). slots_right n rest) (sym none) ∙ c.loop-slot.invariant.left)
