-- A packet that is heard from a device: it has that device's flag, says how many events it has queued, and lists the oldest of them,
-- at least one.
-- Assumes nothing.
use mathlib.Core.Path.{◌≡◌, refl, sym, ap, subst, subst₃}
use mathlib.Core.Bool.{true}
use mathlib.Core.List.{List}
use Prim.Native.Nat.{ℕ, suc, ◌≤◌, ◌<◌}
use native.Mathlib.Omega.{arith}
use lib.Dec.{leb}
use lib.ListN.{length, get_or, take}
use lib.Seq.{length-take-le}
use Rattle.lists.proofs.Cases.{both_second}
use Rattle.table.specs.Table.{Table, devices}
use Rattle.eventrequests.specs.declared.EventRequest.{EventRequest}
use Rattle.queues.proofs.Events.{queued_length}
use Rattle.queues.specs.Queues.{Queues, Queued, count_of, flag_of, slots_of, queue, valid_queues}
use Rattle.polls.specs.Poll.{Heard, packet, oldest_fits, how_many_fit, poll_heard}
use Rattle.eventsequence.specs.Sequence.{on_wire}
use Rattle.eventsequence.proofs.Sending.{answering, sending, heard_cases, sender_is}
use Rattle.eventsequence.proofs.Fitting.{as_many_fit}
use Rattle.eventsequence.proofs.Winner.{winner_contends}

pub record PacketOf (most : ℕ) (q : Queues) (device flag queued : ℕ) (events : List Queued) : Type 0 where
  pub flag_is : flag ≡ flag_of q device
  pub count : queued ≡ length (queue q device)
  pub oldest : events ≡ take (length events) (queue q device)
  pub some : 0 < length events
  pub fits : on_wire events ≤ most
  pub full : length events < length (queue q device) → most < on_wire (take (suc (length events)) (queue q device))

module _ (request : EventRequest) (t : Table) (q : Queues) (v : valid_queues t q ≡ true) where
  -- of whoever answers
  answer_of : answering request t q < devices t → (count_of q (answering request t q) ≡ 0 → ⊥)
      → PacketOf request.most q (answering request t q) (flag_of q (answering request t q)) (count_of q (answering request t q)) (sending request t q)
  answer_of inside some =
      let place = answering request t q in
      let events = queue q place in
      let long : length events ≡ count_of q place = queued_length (count_of q place) (slots_of q.slots place) in
      let n = how_many_fit request.most events in
      let f = as_many_fit request.most events in
      let many : length (take n events) ≡ n = length-take-le n events f.few in
      record {
        flag_is = refl;
        count = sym long;
        oldest = ap (λ (k : ℕ). take k events) (sym many);
        some = omega (arith, f.some (both_second (leb request.minimum (get_or t.addresses place 0)) (oldest_fits request.most events) (winner_contends request t q v inside)) (omega arith));
        fits = f.within;
        full = subst (λ (k : ℕ). k < length events → request.most < on_wire (take (suc k) events)) (sym many) f.full;
      }

  -- of the device whose id is heard
  pub packet_of : (device : ℕ) → device < devices t → (dominant flag queued : ℕ) (events : List Queued)
      → poll_heard request t q ≡ packet dominant (get_or t.addresses device 0) flag queued events → PacketOf request.most q device flag queued events
  packet_of device there dominant flag queued events =
      heard_cases request t q (λ (h : Heard). h ≡ packet dominant (get_or t.addresses device 0) flag queued events → PacketOf request.most q device flag queued events)
      (λ e. cc)
      (λ d i e. cc)
      (λ inside some e.
      let sender : get_or t.addresses (answering request t q) 0 ≡ get_or t.addresses device 0 = cc in
      let same_flag : flag_of q (answering request t q) ≡ flag = cc in
      let same_count : count_of q (answering request t q) ≡ queued = cc in
      let same_events : sending request t q ≡ events = cc in
      let a = answer_of inside some in
      subst (λ (d : ℕ). PacketOf request.most q d flag queued events) (sender_is request t q v device there inside sender)
      (subst₃ (λ (f n : ℕ) (l : List Queued). PacketOf request.most q (answering request t q) f n l) same_flag same_count same_events a))
