-- `newevents::slots::put` meets its contract: the five bytes before the data, and the data behind them. Assumes nothing.
use mathlib.Core.Path.{◌≡◌, refl, ap, ◌∙◌}
use mathlib.Core.Bool.{Bool, true, false}
use mathlib.Core.List.{List, ◌++◌}
use native.Mathlib.Omega.{arith}
use Prim.Native.Nat.{ℕ, ◌+◌, ◌-◌, ◌*◌, ◌/◌, ◌%◌}
use borrow.Rule.Slice.PartMut.{put_mid}
use lib.ListN.{length, get_or, take, drop, length-drop}
use lib.Seq.{length-take-le}
use Rattle.std.proofs.lemmas.Slice.{drop-put_mid}
use Rattle.std.specs.Int.{from_bool}
use Rattle.lists.specs.Choice.{pick}
use Rattle.lists.specs.Starting.{starting}
use Rattle.events.specs.Events.{event_bytes}
use Rattle.queues.specs.Queues.{slot_bytes}
use Rattle.newevents.specs.Event.{event}
use Rattle.newevents.proofs.PutSlot.{put_two, filled_whole}
use Rattle.newevents.proofs.slots.put.Goals as goal

urgency : (urgent : Bool) → from_bool urgent ≡ pick urgent 1 0
urgency true = refl
urgency false = refl

pub returns : goal.returns
unfolding event_bytes
returns c =
    let a = c.args in
    let at = 13 * a.count in
    let head = c.copy_from_slice.new.self in
    let payload = c.put_bytes.new.out in
    let five : length head ≡ 5 = ap length c.copy_from_slice.ensures.after in
    let size = at + 5 + length a.payload.now - (at + 5) in
    let behind = take size (drop (at + 5) (put_mid at (at + 5 - at) a.slots.now head)) in
    let there : drop (at + 5) (put_mid at (at + 5 - at) a.slots.now head) ≡ drop (at + 5) a.slots.now = drop-put_mid at (at + 5 - at) a.slots.now head (at + 5) (omega arith) (omega arith) (omega arith) in
    let room : length behind ≡ size = ap (λ (l : List ℕ). length (take size l)) there ∙ length-take-le size (drop (at + 5) a.slots.now) (omega (arith, length-drop (at + 5) a.slots.now)) in
    let same : payload ≡ a.payload.now = filled_whole payload a.payload.now behind c.put_bytes.ensures (omega (arith, room)) in
    let urgent : c.from.result ≡ pick a.urgent 1 0 = c.from.ensures ∙ urgency a.urgent in
    let high : get_or c.to_be_bytes.result 0 0 ≡ a.identifier / 256 = ap (λ (l : List ℕ). get_or l 0 0) c.to_be_bytes.ensures ∙ omega (arith, c.ranges.identifier.fits) in
    let low : get_or c.to_be_bytes.result 1 0 ≡ a.identifier % 256 = ap (λ (l : List ℕ). get_or l 1 0) c.to_be_bytes.ensures in
    let bytes : head ++ payload ≡ slot_bytes (event a.urgent a.kind a.identifier a.payload.now) =
    simp (c.copy_from_slice.ensures.after, same, urgent, high, low) in
    put_two a.slots.now head payload at (at + 5) (at + 5 + length a.payload.now) (omega arith) (omega arith) (omega arith)
    ∙ ap (λ (l : List ℕ). take at a.slots.now ++ starting l (drop at a.slots.now)) bytes
