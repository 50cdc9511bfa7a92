-- `polls::answer::contend` meets its contract: nobody contends, the winner has nothing queued, or it sends a packet.
-- Assumes nothing.
use mathlib.Core.Path.{sym, ap, subst, ◌∙◌}
use mathlib.Core.List.{List}
use Prim.Native.Nat.{ℕ, ◌<◌}
use native.Mathlib.Omega.{arith}
use lib.ListN.{length, get_or}
use Rattle.lists.specs.Starting.{starting}
use Rattle.arbitration.specs.declared.Decided.{Decided}
use Rattle.table.specs.Table.{columns}
use Rattle.queues.specs.Queues.{queue_columns, queued_from, count_of}
use Rattle.queues.proofs.Meaning.{tested}
use Rattle.queues.proofs.SlotsOf.{part_is}
use Rattle.polls.specs.Poll.{how_many_fit, poll_keys, packet}
use Rattle.polls.specs.Calls.{heard_bytes}
use Rattle.polls.specs.Inner.{RightSlots, queues_of}
use Rattle.polls.proofs.PollCases.{ids_long, few_ids, own_slots, right_queues, contest_is, few_dominant, gives_silence, gives_nothing, sent_slots, gives_packet}
use Rattle.polls.proofs.answer.contend.Goals as goal

pub decide-place-requires : goal.decide-place-requires
decide-place-requires c = (right_queues _ _ c.requires.0, few_ids _ _ c.requires.0)

pub returns-then-place-addresses : goal.returns-then-place-addresses
returns-then-place-addresses c =
    let a = c.args in
    let t = columns a.serials.now a.addresses.now a.marks.now in
    let q = queue_columns a.flags.now a.lasts.now a.counts.now a.slots.now in
    gives_silence a.request t q c.requires.0 c.decide-place.result (c.decide-place.ensures ∙ contest_is a.request t q) a.answer.now (omega arith)

pub bounds-counts-place : goal.bounds-counts-place
bounds-counts-place c = omega (arith, (right_queues _ _ c.requires.0).counts_long)

pub overflow_mul-start : goal.overflow_mul-start
overflow_mul-start c = omega (arith, few_ids _ _ c.requires.0)

pub overflow_add-own : goal.overflow_add-own
overflow_add-own c = omega (arith, few_ids _ _ c.requires.0)

pub slice_bounds-own-end : goal.slice_bounds-own-end
slice_bounds-own-end c = omega (arith, (right_queues _ _ c.requires.0).slots_long)

pub how_many_fit-events-requires : goal.how_many_fit-events-requires
how_many_fit-events-requires c =
    let won = c.decide-place.result in
    let inside : won.place < length c.args.addresses.now = omega arith in
    rw (part_is c.args.slots.now won.place) (own_slots _ _ c.requires.0 won.place inside)

pub send_nothing-length-requires : goal.send_nothing-length-requires
send_nothing-length-requires c =
    let a = c.args in
    (omega (arith, ap (λ (d : Decided). d.dominant) c.decide-place.ensures, few_dominant (poll_keys a.request a.addresses.now (queues_of a.counts.now a.slots.now))), c.requires.1)

pub returns-then-count-eq0 : goal.returns-then-count-eq0
returns-then-count-eq0 c =
    let a = c.args in
    let t = columns a.serials.now a.addresses.now a.marks.now in
    let q = queue_columns a.flags.now a.lasts.now a.counts.now a.slots.now in
    let won = c.decide-place.result in
    let inside : won.place < length a.addresses.now = omega arith in
    gives_nothing a.request t q c.requires.0 won (c.decide-place.ensures ∙ contest_is a.request t q) a.answer.now inside c.if-count-eq0.true c.send_nothing-length.result c.send_nothing-length.new.answer c.send_nothing-length.ensures.0 c.send_nothing-length.ensures.1

pub bounds-flags-place : goal.bounds-flags-place
bounds-flags-place c = omega (arith, (tested _ _ c.requires.0).flags_long, ids_long _ _ c.requires.0)

pub bounds-lasts-place : goal.bounds-lasts-place
bounds-lasts-place c = omega (arith, (tested _ _ c.requires.0).lasts_long, ids_long _ _ c.requires.0)

pub send-requires : goal.send-requires
send-requires c =
    let a = c.args in
    let t = columns a.serials.now a.addresses.now a.marks.now in
    let q = queue_columns a.flags.now a.lasts.now a.counts.now a.slots.now in
    let v = c.requires.0 in
    let won = c.decide-place.result in
    let is-won = c.decide-place.ensures ∙ contest_is a.request t q in
    let inside : won.place < length a.addresses.now = omega arith in
    let fit = c.how_many_fit-events.ensures ∙ ap (λ (l : List ℕ). how_many_fit a.request.most (queued_from (count_of q won.place) l)) (part_is a.slots.now won.place) in (
      subst (λ (l : List ℕ). RightSlots c.how_many_fit-events.result l) (sym (part_is a.slots.now won.place)) (sent_slots a.request t q v won is-won a.answer.now inside c.how_many_fit-events.result fit),
      omega (arith, ap (λ (d : Decided). d.dominant) c.decide-place.ensures, few_dominant (poll_keys a.request a.addresses.now (queues_of a.counts.now a.slots.now))),
      c.requires.1,
    )

pub returns : goal.returns
returns c =
    let a = c.args in
    let t = columns a.serials.now a.addresses.now a.marks.now in
    let q = queue_columns a.flags.now a.lasts.now a.counts.now a.slots.now in
    let v = c.requires.0 in
    let won = c.decide-place.result in
    let is-won = c.decide-place.ensures ∙ contest_is a.request t q in
    let inside : won.place < length a.addresses.now = omega arith in
    let fit = c.how_many_fit-events.ensures ∙ ap (λ (l : List ℕ). how_many_fit a.request.most (queued_from (count_of q won.place) l)) (part_is a.slots.now won.place) in
    gives_packet a.request t q v won is-won a.answer.now inside c.how_many_fit-events.result fit c.if-count-eq0.false c.send.result c.send.new.answer
    (c.send.ensures.0 ∙ ap (λ (l : List ℕ). length (heard_bytes (packet won.dominant (get_or a.addresses.now won.place 0) (get_or a.flags.now won.place 0) (count_of q won.place) (queued_from c.how_many_fit-events.result l)))) (part_is a.slots.now won.place))
    (c.send.ensures.1 ∙ ap (λ (l : List ℕ). starting (heard_bytes (packet won.dominant (get_or a.addresses.now won.place 0) (get_or a.flags.now won.place 0) (count_of q won.place) (queued_from c.how_many_fit-events.result l))) a.answer.now) (part_is a.slots.now won.place))
