-- `polls::keys::put_keys` meets its contract. Assumes nothing.
use mathlib.Core.Path.{◌≡◌, refl, sym, ap, subst, ◌∙◌}
use mathlib.Core.List.{List}
use Prim.Native.Nat.{ℕ}
use native.Mathlib.Omega.{arith}
use lib.ListN.{get_or, take, set, length-set}
use lib.Seq.{take_all}
use Rattle.lists.specs.Starting.{starting}
use Rattle.lists.proofs.Filling.{starting_more}
use Rattle.queues.specs.Queues.{queued_from}
use Rattle.queues.proofs.SlotsOf.{part_is}
use Rattle.polls.specs.Poll.{poll_key, poll_keys}
use Rattle.polls.specs.Inner.{RightSlots, queues_of}
use Rattle.polls.proofs.PollKeys.{keys_length, keys_at}
use Rattle.polls.proofs.keys.put_keys.Goals as goal

pub loop-i-init : goal.loop-i-init
loop-i-init c = (omega arith, refl, refl)

pub key-requires : goal.key-requires
key-requires c = subst (λ (l : List ℕ). RightSlots (get_or c.args.counts.now c.loop-i.i 0) l) (sym (part_is c.args.slots.now c.loop-i.i)) (c.requires.0.each c.loop-i.i (omega arith))

pub loop-i-preserved : goal.loop-i-preserved
loop-i-preserved c =
    let a = c.args in
    let all = poll_keys a.request a.ids.now (queues_of a.counts.now a.slots.now) in
    let i = c.loop-i.i in
    let due : c.key.result ≡ get_or all i 0 =
    c.key.ensures ∙ ap (λ (l : List ℕ). poll_key a.request (get_or a.ids.now i 0) (queued_from (get_or a.counts.now i 0) l)) (part_is a.slots.now i)
    ∙ sym (keys_at a.request a.ids.now (queues_of a.counts.now a.slots.now) i (omega arith)) in
    let long = keys_length a.request a.ids.now (queues_of a.counts.now a.slots.now) in (
      omega arith,
      length-set c.loop-i.keys i c.key.result ∙ c.loop-i.invariant.1,
      ap (λ (l : List ℕ). set l i c.key.result) c.loop-i.invariant.2
          ∙ ap (set (starting (take i all) a.keys.now) i) due
          ∙ starting_more all a.keys.now i (omega arith) (omega (arith, c.requires.2)),
    )

pub returns : goal.returns
returns c =
    let a = c.args in
    let all = poll_keys a.request a.ids.now (queues_of a.counts.now a.slots.now) in
    let long = keys_length a.request a.ids.now (queues_of a.counts.now a.slots.now) in
    c.loop-i.invariant.2 ∙ ap (λ (l : List ℕ). starting l a.keys.now) (take_all c.loop-i.i all (omega arith))
