-- `feeding::feed` meets its contract: by what is in hand.
-- Assumes nothing.
use mathlib.Core.Path.{◌≡◌, sym, ap, ◌∙◌, subst}
use Prim.Native.Nat.{ℕ, ◌+◌, ◌≤◌, min}
use native.Mathlib.Omega.{arith}
use lib.ListN.{length, take}
use lib.Seq.{length-take-le}
use borrow.Author.Rules.{rules}
use Rattle.listening.specs.declared.Listening.{Listening}
use Rattle.listening.specs.Listening.{hand_room}
use Rattle.feeding.specs.Inner.{joined_room}
use Rattle.feeding.proofs.Feeding.{feeding_all, listened_none, listened_answered}
use Rattle.feeding.proofs.Running.{part_long, part_some, bytes_long, hand_most, hand_before, marks_due, marks_far, fed_all}
use Rattle.feeding.proofs.feed.Goals as goal
use Rattle.feeding.proofs.feed.Goals.{Start}

-- the array of a state has its length
raw_size : (c : goal.Start) → length c.args.state.raw ≡ hand_room
raw_size c = search rules

pub returns-then-n-eq0 : goal.returns-then-n-eq0
returns-then-n-eq0 c = feeding_all c.args.state (raw_size (goal.at.returns-then-n-eq0 c).Start) c.args.run.now c.smaller-n.result c.heard-end.result c.heard-end.ensures c.smaller-n.ensures _ (listened_none c.args.state c.args.run.now c.smaller-n.result c.if-n-eq0.true)

pub returns-then-state-ge-NOTHING_DUE : goal.returns-then-state-ge-NOTHING_DUE
returns-then-state-ge-NOTHING_DUE c = feeding_all c.args.state (raw_size (goal.at.returns-then-state-ge-NOTHING_DUE c).Start) c.args.run.now c.smaller-n.result c.heard-end.result c.heard-end.ensures c.smaller-n.ensures _ (listened_answered c.args.state (take c.smaller-n.result c.args.run.now) c.if-state-ge-NOTHING_DUE.true)

pub slice_bounds-join-end : goal.slice_bounds-join-end
slice_bounds-join-end c = sym (part_long c.args.state (raw_size (goal.at.slice_bounds-join-end c).Start) c.args.run.now c.heard-end.result c.smaller-n.result c.attempt_length-hand.result c.heard-end.ensures c.smaller-n.ensures c.if-n-eq0.false c.attempt_length-hand.ensures)

pub join-requires : goal.join-requires
join-requires c = (hand_most c.args.state (raw_size (goal.at.join-requires c).Start) c.args.run.now c.heard-end.result c.smaller-n.result c.attempt_length-hand.result c.heard-end.ensures c.smaller-n.ensures c.if-n-eq0.false c.attempt_length-hand.ensures, search rules)

pub overflow_add-hand : goal.overflow_add-hand
overflow_add-hand c = omega (arith, hand_most c.args.state (raw_size (goal.at.overflow_add-hand c).Start) c.args.run.now c.heard-end.result c.smaller-n.result c.attempt_length-hand.result c.heard-end.ensures c.smaller-n.ensures c.if-n-eq0.false c.attempt_length-hand.ensures, c.smaller-n.ensures)

pub overflow_sub-end-2 : goal.overflow_sub-end-2
overflow_sub-end-2 c = hand_before c.args.state (raw_size (goal.at.overflow_sub-end-2 c).Start) c.args.run.now c.heard-end.result c.smaller-n.result c.attempt_length-hand.result c.heard-end.ensures c.smaller-n.ensures c.if-n-eq0.false c.attempt_length-hand.ensures

pub slice_bounds-old-end : goal.slice_bounds-old-end
slice_bounds-old-end c = omega (arith, hand_most c.args.state (raw_size (goal.at.slice_bounds-old-end c).Start) c.args.run.now c.heard-end.result c.smaller-n.result c.attempt_length-hand.result c.heard-end.ensures c.smaller-n.ensures c.if-n-eq0.false c.attempt_length-hand.ensures, raw_size (goal.at.slice_bounds-old-end c).Start)

pub slice_bounds-fed_on-end : goal.slice_bounds-fed_on-end
slice_bounds-fed_on-end c = sym (bytes_long c.args.state (raw_size (goal.at.slice_bounds-fed_on-end c).Start) c.args.run.now c.heard-end.result c.smaller-n.result c.attempt_length-hand.result c.heard-end.ensures c.smaller-n.ensures c.if-n-eq0.false c.attempt_length-hand.ensures)

pub slice_bounds-fed_on-end-2 : goal.slice_bounds-fed_on-end-2
slice_bounds-fed_on-end-2 c =
    let size : length c.join.new.both ≡ joined_room = search rules in
    sym (length-take-le c.smaller-joined.result c.join.new.both (omega (arith, c.smaller-joined.ensures)))

pub slice_bounds-fed_on-end-3 : goal.slice_bounds-fed_on-end-3
slice_bounds-fed_on-end-3 c = sym (part_long c.args.state (raw_size (goal.at.slice_bounds-fed_on-end-3 c).Start) c.args.run.now c.heard-end.result c.smaller-n.result c.attempt_length-hand.result c.heard-end.ensures c.smaller-n.ensures c.if-n-eq0.false c.attempt_length-hand.ensures)

pub fed_on-left-requires : goal.fed_on-left-requires
fed_on-left-requires c =
    let size = bytes_long c.args.state (raw_size (goal.at.fed_on-left-requires c).Start) c.args.run.now c.heard-end.result c.smaller-n.result c.attempt_length-hand.result c.heard-end.ensures c.smaller-n.ensures c.if-n-eq0.false c.attempt_length-hand.ensures in
    let long = part_long c.args.state (raw_size (goal.at.fed_on-left-requires c).Start) c.args.run.now c.heard-end.result c.smaller-n.result c.attempt_length-hand.result c.heard-end.ensures c.smaller-n.ensures c.if-n-eq0.false c.attempt_length-hand.ensures in (
      subst (λ (k : ℕ). k ≤ hand_room) (sym size) (hand_most c.args.state (raw_size (goal.at.fed_on-left-requires c).Start) c.args.run.now c.heard-end.result c.smaller-n.result c.attempt_length-hand.result c.heard-end.ensures c.smaller-n.ensures c.if-n-eq0.false c.attempt_length-hand.ensures),
      marks_due c.args.state (raw_size (goal.at.fed_on-left-requires c).Start) c.args.run.now c.heard-end.result c.smaller-n.result c.attempt_length-hand.result c.heard-end.ensures c.smaller-n.ensures c.if-n-eq0.false c.attempt_length-hand.ensures c.marks_of.result c.marks_of.ensures,
      part_some c.args.state (raw_size (goal.at.fed_on-left-requires c).Start) c.args.run.now c.heard-end.result c.smaller-n.result c.attempt_length-hand.result c.heard-end.ensures c.smaller-n.ensures c.if-n-eq0.false c.attempt_length-hand.ensures,
      marks_far c.args.state (raw_size (goal.at.fed_on-left-requires c).Start) c.args.run.now c.heard-end.result c.smaller-n.result c.attempt_length-hand.result c.heard-end.ensures c.smaller-n.ensures c.if-n-eq0.false c.attempt_length-hand.ensures c.marks_of.result c.marks_of.ensures,
      λ some. ap (λ (k : ℕ). take k c.join.new.both) (c.smaller-joined.ensures ∙ ap (λ (k : ℕ). min joined_room (c.attempt_length-hand.result + k)) (sym long)) ∙ c.join.ensures (λ e. some (size ∙ e)),
      search rules,
    )

pub returns : goal.returns
returns c =
    ap (λ (x : Listening). record { state = x; used = c.fed_on-left.result.used }) c.with_marks.ensures
    ∙ fed_all c.args.state (raw_size (goal.at.returns c).Start) c.args.run.now c.heard-end.result c.smaller-n.result c.attempt_length-hand.result c.heard-end.ensures c.smaller-n.ensures c.if-n-eq0.false c.attempt_length-hand.ensures c.marks_of.result c.marks_of.ensures c.if-state-ge-NOTHING_DUE.false _ c.fed_on-left.ensures
