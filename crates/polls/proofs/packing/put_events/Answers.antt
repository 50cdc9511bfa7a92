-- `polls::packing::put_events` meets its contract. Assumes nothing.
use mathlib.Core.Path.{◌≡◌, refl}
use mathlib.Core.Bool.{true}
use mathlib.Core.List.{List}
use Prim.Native.Nat.{ℕ, ◌+◌, ◌-◌, ◌*◌, ◌^◌, ◌≤◌, ◌<◌}
use borrow.Rule.Slice.PartMut.{put_mid, mid_of}
use lib.ListN.{length, get_or, take, drop}
use native.Mathlib.Omega.{arith}
use Rattle.lists.specs.Starting.{starting}
use Rattle.queues.specs.Queues.{slots_right}
use Rattle.oldest.specs.Oldest.{wire_length}
use Rattle.polls.proofs.PackedEvents.{Packed, packed_none, data_small, room_here, packed_more, packed_all}
use Rattle.polls.proofs.packing.put_events.Goals as goal

pub loop-put-init : goal.loop-put-init
loop-put-init c = packed_none c.args.events c.args.slots.now c.args.out.now

-- the same place, said another way
moved : (events : ℕ) (slots old now : List ℕ) (put at to place : ℕ) → at ≡ 13 * put → Packed events slots old now put place to → Packed events slots old now put at to
moved events slots old now put at to place there w = record { so_far = w.so_far; place = there; reached = w.reached; long = w.long; holds = w.holds }

module _ (events : ℕ) (slots old now : List ℕ) (put at to : ℕ) (few : events ≤ 8) (whole : length slots ≡ 104) (right : slots_right events slots ≡ true)
    (room : wire_length events slots ≤ length old) (bytes : (i : ℕ) → get_or slots i 0 < 256) (w : Packed events slots old now put (13 * put) to) (more : put < events) (there : at ≡ 13 * put) where
  end_within : at + 1 + (4 + get_or slots (at + 1) 0) ≤ length slots
  end_within = omega (arith, data_small events slots old now put at to few whole right room bytes (moved events slots old now put at to (13 * put) there w) more)

  next_within : to + (4 + get_or slots (at + 1) 0) ≤ length now
  next_within = room_here events slots old now put at to few whole right room bytes (moved events slots old now put at to (13 * put) there w) more

  next_fits : length now < 2 ^ 64 → to + (4 + get_or slots (at + 1) 0) < 2 ^ 64
  next_fits low = omega (arith, next_within)

  one_more : (after : List ℕ)
      → after ≡ starting (take (length (mid_of to (length now - to) now)) (take (at + 1 + (4 + get_or slots (at + 1) 0) - (at + 1)) (drop (at + 1) slots))) (mid_of to (length now - to) now)
      → Packed events slots old (put_mid to (length now - to) now after) (put + 1) (13 * (put + 1)) (to + (4 + get_or slots (at + 1) 0))
  one_more after wrote =
      moved events slots old (put_mid to (length now - to) now after) (put + 1) (13 * (put + 1)) (to + (4 + get_or slots (at + 1) 0)) (at + 13) refl
      (packed_more events slots old now put at to few whole right room bytes (moved events slots old now put at to (13 * put) there w) more after wrote)

pub slice_bounds-put-end : goal.slice_bounds-put-end
slice_bounds-put-end c = end_within c.args.events c.args.slots.now c.args.out.now c.loop-put.out c.loop-put.put _ c.loop-put.to c.requires.0.few c.requires.0.long c.requires.0.right c.requires.1 (λ (i : ℕ). omega (arith, c.type_inv.slots i)) c.loop-put.invariant (omega arith) (omega arith)

pub slice_bounds-put-count-in-loop-put : goal.slice_bounds-put-count-in-loop-put
slice_bounds-put-count-in-loop-put c = omega (arith, room_here c.args.events c.args.slots.now c.args.out.now c.loop-put.out c.loop-put.put (13 * c.loop-put.put) c.loop-put.to c.requires.0.few c.requires.0.long c.requires.0.right c.requires.1 (λ (i : ℕ). omega (arith, c.type_inv.slots i)) c.loop-put.invariant (omega arith))

pub slice_bounds-put-start-in-loop-put : goal.slice_bounds-put-start-in-loop-put
slice_bounds-put-start-in-loop-put c = omega (arith, room_here c.args.events c.args.slots.now c.args.out.now c.loop-put.out c.loop-put.put (13 * c.loop-put.put) c.loop-put.to c.requires.0.few c.requires.0.long c.requires.0.right c.requires.1 (λ (i : ℕ). omega (arith, c.type_inv.slots i)) c.loop-put.invariant (omega arith))

pub overflow_add-to : goal.overflow_add-to
overflow_add-to c = record { fits = next_fits c.args.events c.args.slots.now c.args.out.now c.loop-put.out c.loop-put.put _ c.loop-put.to c.requires.0.few c.requires.0.long c.requires.0.right c.requires.1 (λ (i : ℕ). omega (arith, c.type_inv.slots i)) c.loop-put.invariant (omega arith) (omega arith) (omega (arith, c.loop-put.auto.out)) }

pub loop-put-preserved : goal.loop-put-preserved
loop-put-preserved c = one_more c.args.events c.args.slots.now c.args.out.now c.loop-put.out c.loop-put.put _ c.loop-put.to c.requires.0.few c.requires.0.long c.requires.0.right c.requires.1 (λ (i : ℕ). omega (arith, c.type_inv.slots i)) c.loop-put.invariant (omega arith) (omega arith) c.put.new.out c.put.ensures

pub returns : goal.returns
returns c = packed_all c.args.events c.args.slots.now c.args.out.now c.loop-put.out c.loop-put.put (13 * c.loop-put.put) c.loop-put.to c.requires.0.few c.requires.0.long c.requires.0.right c.requires.1 (λ (i : ℕ). omega (arith, c.type_inv.slots i)) c.loop-put.invariant (omega arith)
