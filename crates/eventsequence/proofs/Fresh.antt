-- Devices that are new: `FreshDevices`.
-- Assumes nothing.
use Rattle.std.specs.Prelude.{Result, Ok, Err}
use Rattle.refusal.specs.declared.Refusal.{Refusal}
use mathlib.Core.Path.{◌≡◌, refl, sym, ap, ◌∙◌, subst, subst₂}
use mathlib.Core.Bool.{true}
use mathlib.Core.List.{List, [], ◌∷◌}
use Prim.Native.Nat.{ℕ, ◌*◌, ◌<◌}
use native.Mathlib.Omega.{arith}
use lib.Dec.{eqb}
use lib.ListN.{length, get_or, replicate, length-append, length-replicate, get_or-replicate}
use borrow.Author.Tests.{ltb-true}
use Rattle.lists.specs.Tests.{all, different}
use Rattle.lists.proofs.All.{all_from}
use Rattle.lists.proofs.Cases.{pick_cases, both_second}
use Rattle.table.specs.Table.{Table, devices, valid}
use Rattle.events.specs.Events.{is_id}
use Rattle.eventrequests.specs.declared.EventRequest.{EventRequest}
use Rattle.queues.specs.Queues.{Queues, Queued, slots_length, slots_of, queued_from, queue, flag_right, slots_right, queue_right, device_right, valid_queues}
use Rattle.queues.proofs.Below.{below_from}
use Rattle.queues.proofs.SlotsRight.{slots_decide}
use Rattle.queues.proofs.Meaning.{valid_from}
use Rattle.newevents.specs.Event.{add_call}
use Rattle.polls.specs.Poll.{Heard, silence, nothing, packet, PollTurn}
use Rattle.polls.specs.Calls.{poll_call}
use Rattle.eventsequence.specs.Calls.{AnyCall, add, poll, scan, State, stepped, Ledger, opening, enter_new, names_packet, packet_dropped, enter_confirmed, packet_sent, enter_heard, enter_polls, enter, ledger}
use Rattle.eventsequence.specs.Fresh.{fresh_queues, fresh, Fresh, FreshDevices}
use Rattle.eventsequence.proofs.Kept.{events_kept}

-- ---- the flag stays as long as nothing is dropped

abbrev Unturned : ℕ → Ledger → Type 0
Unturned flag l = l.dropped ≡ [] → l.flag ≡ flag

module _ {flag : ℕ} (id : ℕ) where
  new_unturned : (added : Result (Unit {0}) Refusal) (e : Queued) (l : Ledger) → Unturned flag l → Unturned flag (enter_new added e l)
  new_unturned (Ok tt) e l u = u
  new_unturned (Err why) e l u = u

  -- a packet that is dropped has events
  confirmed_unturned : (request : EventRequest) (l : Ledger) → Unturned flag l → Unturned flag (enter_confirmed id request l)
  confirmed_unturned request l u =
      pick_cases (Unturned flag) (names_packet id request l) (packet_dropped l) l
      (λ n none. let some = ltb-true 0 (length l.packet) (both_second (eqb request.flag l.flag) _ (both_second (eqb request.confirmed id) _ n)) in
      absurd (omega (arith, length-append l.dropped l.packet, ap length none)))
      (λ n. u)

  heard_unturned : (heard : Heard) (l : Ledger) → Unturned flag l → Unturned flag (enter_heard id heard l)
  heard_unturned silence l u = u
  heard_unturned (nothing dominant sender) l u = u
  heard_unturned (packet dominant sender sent queued events) l u = pick_cases (Unturned flag) (eqb sender id) (packet_sent events l) l (λ own. u) (λ other. u)

  polls_unturned : (turns : List PollTurn) (l : Ledger) → Unturned flag l → Unturned flag (enter_polls id turns l)
  unfolding enter_polls
  polls_unturned [] l u = u
  polls_unturned (turn ∷ turns) l u =
      polls_unturned turns (enter_heard id turn.heard (enter_confirmed id turn.request l))
      (heard_unturned turn.heard (enter_confirmed id turn.request l) (confirmed_unturned turn.request l u))

  call_unturned : (call : AnyCall) (s : State) (l : Ledger) → Unturned flag l → Unturned flag (enter id call s l)
  call_unturned (add to e) s l u =
      pick_cases (Unturned flag) (eqb to id) (enter_new (add_call s.table s.queues to e).added e l) l
      (λ own. new_unturned (add_call s.table s.queues to e).added e l u) (λ other. u)
  call_unturned (poll read buffer) s l u = polls_unturned (poll_call read buffer s.table s.queues).turns l u
  call_unturned (scan call) s l u = u

  all_unturned : (calls : List AnyCall) (s : State) (l : Ledger) → Unturned flag l → Unturned flag (ledger id calls s l)
  unfolding ledger
  all_unturned [] s l u = u
  all_unturned (call ∷ calls) s l u = all_unturned calls (stepped call s) (enter id call s l) (call_unturned call s l u)

-- ---- new devices

module _ (t : Table) (slots : List ℕ) (right : valid t ≡ true) (ids : all is_id t.addresses ≡ true) (differ : different t.addresses ≡ true) (long : length slots ≡ slots_length * devices t) where
  abbrev q : Queues
  q = fresh_queues (devices t) slots

  zero_at : (device : ℕ) → device < devices t → ◌≡◌ {A = ℕ} (get_or (replicate (devices t) 0) device 0) 0
  zero_at device there = get_or-replicate (devices t) device 0 0 there

  none_queued : (device : ℕ) → device < devices t → queue q device ≡ []
  unfolding queued_from
  none_queued device there = ap (λ (n : ℕ). queued_from n (slots_of slots device)) (zero_at device there)

  each_right : (device : ℕ) → device < devices t → device_right q.lasts q.counts slots device ≡ true
  unfolding slots_right
  each_right device there =
      subst₂ (λ (last count : ℕ). queue_right last count (slots_of slots device) ≡ true) (sym (zero_at device there)) (sym (zero_at device there))
      (sym (slots_decide 0 0 (slots_of slots device) (omega arith) (omega arith) refl))

  fresh_valid : valid_queues t q ≡ true
  fresh_valid =
      valid_from t q
      (record {
        table_valid = right;
        ids_right = ids;
        ids_differ = differ;
        flags_long = length-replicate (devices t) _;
        lasts_long = length-replicate (devices t) _;
        counts_long = length-replicate (devices t) _;
        slots_long = long;
        flags_right = all_from flag_right q.flags (λ i h. ap flag_right (get_or-replicate (devices t) i _ 0 (subst (λ (n : ℕ). i < n) (length-replicate (devices t) _) h)));
        queues_right = below_from (device_right q.lasts q.counts slots) (devices t) each_right;
      })

  is_fresh : Fresh t slots
  is_fresh =
      record {
        valid_first = fresh_valid;
        empty = none_queued;
        first_flag = λ calls device there request dominant flag queued events heard none.
            let id = get_or t.addresses device 0 in
            let l = ledger id calls (fresh t slots) (opening q device) in
            (((events_kept (fresh t slots) fresh_valid calls).kept device there).sends request dominant flag queued events heard).flag_due
            ∙ confirmed_unturned _ request l (all_unturned id calls (fresh t slots) (opening q device) (λ e. zero_at device there)) none;
      }

pub fresh_devices : FreshDevices
fresh_devices t slots right ids differ long = is_fresh t slots right ids differ long
