-- Rule D16: `EventsKept`.
-- Assumes nothing.
use mathlib.Core.Path.{◌≡◌, refl, sym, ap, ◌∙◌, subst}
use mathlib.Core.Bool.{true}
use mathlib.Core.List.{List, ◌++◌}
use Prim.Native.Nat.{ℕ, ◌≤◌, ◌<◌}
use native.Mathlib.Omega.{arith}
use lib.ListN.{length, get_or, length-take}
use Rattle.lists.proofs.All.{all_at}
use Rattle.lists.proofs.Cases.{pick_cases}
use Rattle.events.specs.Events.{is_id}
use Rattle.table.specs.Table.{Table, devices}
use Rattle.eventrequests.specs.declared.EventRequest.{EventRequest}
use Rattle.queues.specs.Queues.{Queues, Queued, queue, valid_queues}
use Rattle.queues.proofs.Meaning.{Tested, tested, ids_long}
use Rattle.queues.proofs.Replaced.{last_sent}
use Rattle.polls.specs.Poll.{after_confirming}
use Rattle.sequence.specs.Calls.{history, since_start}
use Rattle.sequence.specs.Sequence.{Holds}
use Rattle.sequence.proofs.Demand3.{demand3}
use Rattle.eventsequence.specs.Calls.{AnyCall, State, after_all, scans_of, Ledger, opening, names_packet, packet_dropped, enter_confirmed, ledger}
use Rattle.eventsequence.specs.Sequence.{Kept, AllKept, EventsKept}
use Rattle.eventsequence.proofs.ScansKeep.{SameDevices, same_at_first, after_scans}
use Rattle.eventsequence.proofs.MarksUnseen.{add_same, poll_same}
use Rattle.eventsequence.proofs.Follows.{FollowsIn, follows_first}
use Rattle.eventsequence.proofs.NewEvents.{room_decides}
use Rattle.eventsequence.proofs.Confirming.{confirming_valid, confirming_follows}
use Rattle.eventsequence.proofs.Sending.{packet_fill}
use Rattle.eventsequence.proofs.Packets.{packet_of}
use Rattle.eventsequence.proofs.ReadBack.{packet_read, packet_walk}
use Rattle.eventsequence.proofs.Answering.{answered}
use Rattle.eventsequence.proofs.Told.{refused_next, told_next}
use Rattle.eventsequence.proofs.Steps.{all_valid, table_alone, queues_alone, all_follow}

-- a confirmation queues nothing
confirmed_queued : (id : ℕ) (request : EventRequest) (l : Ledger) → (enter_confirmed id request l).queued ≡ l.queued
confirmed_queued id request l = pick_cases (λ (x : Ledger). x.queued ≡ l.queued) (names_packet id request l) (packet_dropped l) l (λ n. refl) (λ n. refl)

right_id : (t : Table) (q : Queues) → valid_queues t q ≡ true → (device : ℕ) → device < devices t → is_id (get_or t.addresses device 0) ≡ true
right_id t q v device there = let g = tested t q v in all_at is_id t.addresses g.ids_right device (omega (arith, ids_long t q g))

-- a device whose ledger follows its queue sends what is due
follows_kept : (device : ℕ) (before now : State) (l : Ledger) → valid_queues now.table now.queues ≡ true → device < devices now.table
    → FollowsIn (queue before.queues device) device now.queues l → Kept device before now l
follows_kept device before now l v there f =
    record {
      in_order = f.in_order;
      packet_first = f.packet_first;
      packet_long = f.packet_long;
      flag_stands = f.flag_stands;
      confirms = λ request.
          ap (λ (events : List Queued). queue before.queues device ++ events) (sym (confirmed_queued (get_or now.table.addresses device 0) request l))
          ∙ (confirming_follows request now.table now.queues v device there f).in_order;
      sends = λ request dominant flag queued events heard.
          let p =
          packet_of request now.table (after_confirming request now.table now.queues) (confirming_valid request now.table now.queues v)
          device there dominant flag queued events heard in
          let c = confirming_follows request now.table now.queues v device there f in
          let fill = packet_fill request now.table (after_confirming request now.table now.queues) dominant (get_or now.table.addresses device 0) flag queued events heard in
          let long : length events ≤ queued = omega (arith, p.count, ap length p.oldest, length-take (length events) (queue (after_confirming request now.table now.queues) device)) in
          record {
            flag_due = p.flag_is ∙ c.flag_stands;
            count = p.count;
            oldest = p.oldest;
            some = p.some;
            fits = p.fits;
            full = p.full;
            fill_due = fill.0;
            read = packet_read dominant (get_or now.table.addresses device 0) flag queued events (omega (arith, fill.1)) (right_id now.table now.queues v device there) long;
            walk = packet_walk dominant (get_or now.table.addresses device 0) flag queued events;
          };
      accepts = λ e few. room_decides now.table now.queues v device there e few;
    }

module _ (before : State) (v : valid_queues before.table before.queues ≡ true) (calls : List AnyCall) where
  g : Tested before.table before.queues
  g = tested before.table before.queues v

  first : SameDevices before.table before.table
  first = same_at_first before.table g.table_valid

  same : SameDevices before.table (after_all calls before).table
  same = subst (SameDevices before.table) (sym (table_alone calls before)) (after_scans before.table (scans_of calls) before.table first)

  device_kept : (device : ℕ) → device < devices before.table
      → Kept device before (after_all calls before) (ledger (get_or before.table.addresses device 0) calls before (opening before.queues device))
  device_kept device there =
      follows_kept device before (after_all calls before) (ledger (get_or before.table.addresses device 0) calls before (opening before.queues device))
      (all_valid calls before v) (subst (λ (x : Table). device < devices x) (sym same.columns_stay) there)
      (all_follow before.table device there calls before first v
      (follows_first before.queues device (last_sent before.table before.queues g device there)))

  all_kept : AllKept before calls
  all_kept =
      record {
        valid_again = all_valid calls before v;
        table_is = table_alone calls before;
        demand_3 = λ somebody.
            subst (λ (now : Table). Holds before.table now (history (scans_of calls) before.table) (since_start 0 (history (scans_of calls) before.table))) (sym (table_alone calls before))
            (demand3 before.table g.table_valid somebody (scans_of calls));
        queues_are = queues_alone before.table calls before.table before.queues first v;
        adds_alike = λ id e. add_same before.table (after_all calls before).table g.table_valid same (after_all calls before).queues id e;
        polls_alike = λ read buffer. poll_same before.table (after_all calls before).table g.table_valid same (after_all calls before).queues read buffer;
        refused = refused_next (after_all calls before) (all_valid calls before v);
        told = told_next (after_all calls before) (all_valid calls before v);
        answered = λ request. answered request (after_all calls before) (all_valid calls before v);
        kept = device_kept;
      }

pub events_kept : EventsKept
events_kept before v calls = all_kept before v calls
