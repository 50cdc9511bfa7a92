-- What an accepted event does: `NewEvent`.
-- Assumes nothing.
use mathlib.Core.Path.{◌≡◌, refl, sym, ap, ap₂, ◌∙◌, subst}
use mathlib.Core.Bool.{Bool, true, false}
use mathlib.Core.List.{List, [], ◌∷◌, ◌++◌}
use Prim.Native.Nat.{ℕ, ◌+◌, ◌*◌, ◌≤◌, ◌<◌}
use native.Mathlib.Numerals.{add-one}
use native.Mathlib.Omega.{arith}
use lib.ListN.{length, get_or, take, drop, length-append, length-drop}
use lib.Seq.{length-take-le, drop_at}
use Rattle.lists.specs.Choice.{pick}
use Rattle.lists.specs.Starting.{starting}
use Rattle.lists.proofs.Filling.{length_starting}
use Rattle.lists.proofs.Position.{position_holds}
use Rattle.events.specs.Events.{event_bytes}
use Rattle.table.specs.Table.{Table, devices}
use Rattle.table.proofs.Meaning.{tested as table_tested}
use Rattle.queues.specs.Queues.{Queues, Queued, slot_bytes, queued_in, queued_from, slots_length, slots_of, last_of, count_of, device_of, slots_right, queue_right}
use Rattle.queues.proofs.SlotsRight.{slots_same, slots_more, slots_decide}
use Rattle.queues.proofs.Events.{events_same, events_more, event_read}
use Rattle.queues.proofs.Meaning.{Tested, tested, valid_from}
use Rattle.queues.proofs.Replaced.{last_sent, slots_right_lem, slots_long, own_queue, other_queue, tested_again}
use Rattle.newevents.specs.Event.{Adding, put_slot, queued_more, add_call, OneMore, NewEvent}
use Rattle.newevents.proofs.AddCases.{passed, add_done}

-- ---- one event more in the slots of one device

module _ (n : ℕ) (e : Queued) (slots : List ℕ) (room : n < 8) (few : length e.event.payload ≤ 8) (long : length slots ≡ slots_length) where
  front_long : length (take (13 * n) slots) ≡ 13 * n
  front_long = length-take-le (13 * n) slots (omega arith)

  there : drop (13 * n) (put_slot n e slots) ≡ starting (slot_bytes e) (drop (13 * n) slots)
  there = drop_at (take (13 * n) slots) (starting (slot_bytes e) (drop (13 * n) slots)) (13 * n) front_long

  pub put_length : length (put_slot n e slots) ≡ slots_length
  unfolding event_bytes
  put_length =
      length-append (take (13 * n) slots) (starting (slot_bytes e) (drop (13 * n) slots))
      ∙ omega (arith, front_long, length_starting (slot_bytes e) (drop (13 * n) slots) (omega (arith, length-drop (13 * n) slots)), length-drop (13 * n) slots)

  pub put_queued : queued_from (n + 1) (put_slot n e slots) ≡ queued_from n slots ++ e ∷ []
  put_queued =
      ap (λ (k : ℕ). queued_from k (put_slot n e slots)) (add-one n)
      ∙ events_more n (put_slot n e slots)
      ∙ ap₂ (λ (events : List Queued) (last : Queued). events ++ last ∷ [])
      (events_same n slots (starting (slot_bytes e) (drop (13 * n) slots)) (omega arith))
      (ap (λ (l : List ℕ). queued_in (take 13 l)) there ∙ event_read e (drop (length (slot_bytes e)) (drop (13 * n) slots)) few)

  low : (urgent : Bool) → pick urgent 1 0 < 2
  low true = omega arith
  low false = omega arith

  pub put_right : slots_right n slots ≡ true → slots_right (n + 1) (put_slot n e slots) ≡ true
  unfolding event_bytes
  put_right right =
      ap (λ (k : ℕ). slots_right k (put_slot n e slots)) (add-one n)
      ∙ slots_more n (put_slot n e slots) (slots_same n slots (starting (slot_bytes e) (drop (13 * n) slots)) (omega arith) ∙ right)
      (omega (arith, ap (λ (l : List ℕ). get_or l 0 0) there, low e.urgent))
      (omega (arith, ap (λ (l : List ℕ). get_or l 1 0) there, few))

-- ---- one event more in valid queues

module _ (t : Table) (q : Queues) (device : ℕ) (e : Queued) (g : Tested t q) (there : device < devices t) (room : count_of q device < 8) (few : length e.event.payload ≤ 8) where
  abbrev old : List ℕ
  old = slots_of q.slots device

  abbrev new : List ℕ
  new = put_slot (count_of q device) e old

  old_long : length old ≡ slots_length
  old_long = slots_long t q g device there

  new_long : length new ≡ slots_length
  new_long = put_length (count_of q device) e old room few old_long

  own_right : queue_right (last_of q device) (count_of q device + 1) new ≡ true
  own_right =
      sym (slots_decide (last_of q device) (count_of q device + 1) new (omega arith) (omega (arith, last_sent t q g device there))
      (sym (put_right (count_of q device) e old room few old_long (slots_right_lem t q g device there))))

  pub one_more : OneMore t device e q (queued_more q device e)
  unfolding queued_more
  one_more =
      record {
        valid_again = valid_from t (queued_more q device e)
            (tested_again t q g device there (count_of q device + 1) new new_long q.flags q.lasts (λ other apart. refl) own_right g.flags_long g.flags_right g.lasts_long);
        queued = own_queue t q g device there (count_of q device + 1) new new_long ∙ put_queued (count_of q device) e old room few old_long;
        others = other_queue t q g device there (count_of q device + 1) new new_long;
        flags_stay = refl;
        lasts_stay = refl;
      }

pub new_event : NewEvent
new_event t q id e done =
    let p = passed t q id e done in
    let g = tested t q p.valid_before in
    let after : (add_call t q id e).queues ≡ queued_more q (device_of t id) e = ap (λ (a : Adding). a.queues) (add_done t q id e p) in (
      p.there,
      position_holds id t.addresses (omega (arith, p.there, (table_tested t g.table_valid).addresses_long)),
      subst (OneMore t (device_of t id) e q) (sym after) (one_more t q (device_of t id) e g p.there p.room p.few),
    )
