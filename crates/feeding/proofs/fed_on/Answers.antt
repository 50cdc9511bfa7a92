-- `feeding::fed_on` meets its contract. Assumes nothing.
use mathlib.Core.Path.{ap, ◌∙◌}
use mathlib.Core.List.{List}
use Prim.Native.Nat.{ℕ}
use native.Mathlib.Omega.{arith}
use lib.ListN.{length, take, replicate}
use Rattle.lists.specs.Starting.{starting}
use Rattle.lists.proofs.Filling.{put_whole}
use Rattle.listening.specs.Listening.{hand_room}
use Rattle.feeding.specs.Inner.{state_with}
use Rattle.feeding.proofs.BehindHand.{turns_start, turn_least, turn_bound, turn_some, turn_within, turn_decided, turn_open, turns_answered, turns_end}
use Rattle.feeding.proofs.fed_on.Goals as goal

pub loop-i-init : goal.loop-i-init
loop-i-init c = (turns_start c.args.first c.args.kept.now c.args.run.now c.args.hand.now c.requires.1 c.requires.3, c.requires.5)

pub returns-then-m-ge-NOTHING_DUE : goal.returns-then-m-ge-NOTHING_DUE
returns-then-m-ge-NOTHING_DUE c = ap (λ (x : List ℕ). record { state = state_with c.loop-i.m 0 x c.loop-i.kept; used = c.loop-i.i }) c.loop-i.invariant.1 ∙ turns_answered _ _ _ _ _ _ _ c.loop-i.invariant.0 c.loop-i-test.true c.if-m-ge-NOTHING_DUE.true

pub slice_bounds-bytes_at-count : goal.slice_bounds-bytes_at-count
slice_bounds-bytes_at-count c = omega (arith, c.loop-i-test.true)

pub slice_bounds-bytes_at-start : goal.slice_bounds-bytes_at-start
slice_bounds-bytes_at-start c = omega (arith, c.loop-i-test.true)

pub slice_bounds-bytes_at-end : goal.slice_bounds-bytes_at-end
slice_bounds-bytes_at-end c = omega (arith, c.loop-i-test.true)

pub turn-t-requires : goal.turn-t-requires
turn-t-requires c = (c.ebus_tables-tables.ensures, turn_least _ c.args.run.now c.args.hand.now c.loop-i.m _ c.loop-i.held c.loop-i.i c.requires.0 c.loop-i.invariant.0 c.loop-i-test.true c.args.both.now c.bytes_at-bytes.result.now c.requires.4 c.bytes_at-bytes.ensures, turn_bound _ c.args.run.now c.args.hand.now c.loop-i.m _ c.loop-i.held c.loop-i.i c.requires.0 c.loop-i.invariant.0 c.loop-i-test.true c.args.both.now c.bytes_at-bytes.result.now c.requires.4 c.bytes_at-bytes.ensures)

pub overflow_cast-result : goal.overflow_cast-result
overflow_cast-result c = omega (arith, (c.turn-t.ensures.ends c.if-t.true).1)

pub returns-then-t : goal.returns-then-t
returns-then-t c =
    let bytes = c.bytes_at-bytes.result.now in
    let ends = c.turn-t.ensures.ends in
    let raw-is = c.put.ensures ∙ ap (λ (l : List ℕ). starting (take (length l) bytes) l) c.loop-i.invariant.1 ∙ put_whole bytes (replicate hand_room 0) (ends c.if-t.true).1 in
    turn_open _ c.args.run.now c.args.hand.now c.loop-i.m _ c.loop-i.held c.loop-i.i c.requires.0 c.loop-i.invariant.0 c.loop-i-test.true c.args.both.now c.bytes_at-bytes.result.now c.requires.4 c.bytes_at-bytes.ensures (omega arith) c.turn-t.result _ c.turn-t.ensures.kept_after c.if-t.true ends _ (ap (λ (l : List ℕ). state_with c.turn-t.result.marks (length bytes) l c.turn-t.new.kept) raw-is)

pub overflow_sub-i : goal.overflow_sub-i
overflow_sub-i c = let some = turn_some _ c.args.run.now c.args.hand.now c.loop-i.m _ c.loop-i.held c.loop-i.i c.requires.0 c.loop-i.invariant.0 c.loop-i-test.true c.args.both.now c.bytes_at-bytes.result.now c.requires.4 c.bytes_at-bytes.ensures (omega arith) c.turn-t.result _ c.turn-t.ensures.kept_after in omega arith

pub overflow_add-i : goal.overflow_add-i
overflow_add-i c = let within = turn_within _ c.args.run.now c.args.hand.now c.loop-i.m _ c.loop-i.held c.loop-i.i c.requires.0 c.loop-i.invariant.0 c.loop-i-test.true c.args.both.now c.bytes_at-bytes.result.now c.requires.4 c.bytes_at-bytes.ensures (omega arith) c.turn-t.result _ c.turn-t.ensures.kept_after in omega (arith, c.loop-i-test.true, c.requires.3)

pub loop-i-smaller : goal.loop-i-smaller
loop-i-smaller c =
    let some = turn_some _ c.args.run.now c.args.hand.now c.loop-i.m _ c.loop-i.held c.loop-i.i c.requires.0 c.loop-i.invariant.0 c.loop-i-test.true c.args.both.now c.bytes_at-bytes.result.now c.requires.4 c.bytes_at-bytes.ensures (omega arith) c.turn-t.result _ c.turn-t.ensures.kept_after in
    let within = turn_within _ c.args.run.now c.args.hand.now c.loop-i.m _ c.loop-i.held c.loop-i.i c.requires.0 c.loop-i.invariant.0 c.loop-i-test.true c.args.both.now c.bytes_at-bytes.result.now c.requires.4 c.bytes_at-bytes.ensures (omega arith) c.turn-t.result _ c.turn-t.ensures.kept_after in
    omega (arith, c.loop-i-test.true)

pub loop-i-preserved : goal.loop-i-preserved
loop-i-preserved c = (turn_decided _ c.args.run.now c.args.hand.now c.loop-i.m _ c.loop-i.held c.loop-i.i c.requires.0 c.loop-i.invariant.0 c.loop-i-test.true c.args.both.now c.bytes_at-bytes.result.now c.requires.4 c.bytes_at-bytes.ensures (omega arith) c.turn-t.result _ c.turn-t.ensures.kept_after c.if-t.false, c.loop-i.invariant.1)

pub returns : goal.returns
returns c = ap (λ (x : List ℕ). record { state = state_with c.loop-i.m 0 x c.loop-i.kept; used = c.loop-i.i }) c.loop-i.invariant.1 ∙ turns_end _ _ _ _ _ _ _ c.loop-i.invariant.0 c.loop-i-test.false c.requires.2
