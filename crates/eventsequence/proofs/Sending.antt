-- What a poll hears, way by way, and the queues after it: a packet changes nothing but how many events its sender's last packet had.
-- Assumes nothing.
use mathlib.Core.Path.{◌≡◌, refl, sym, ap, ◌∙◌, subst}
use mathlib.Core.Bool.{true}
use mathlib.Core.List.{List, [], ◌∷◌}
use mathlib.Core.Logic.{⊎_elim}
use Prim.Native.Nat.{ℕ, zero, suc, ◌≤◌, ◌<◌}
use native.Mathlib.Omega.{arith}
use lib.Dec.{ltb, eqb}
use lib.ListN.{length, get_or, take, set, length-set, length-take}
use lib.Seq.{get_or-set_same, get_or-set_other}
use borrow.Author.Tests.{ltb-true, eqb-false}
use Rattle.lists.proofs.Cases.{same_or_not, pick_cases}
use Rattle.table.specs.Table.{Table, devices}
use Rattle.eventrequests.specs.declared.EventRequest.{EventRequest}
use Rattle.queues.proofs.Events.{queued_length}
use Rattle.queues.specs.Queues.{Queues, Queued, count_of, flag_of, slots_of, queue, queue_right, device_right, valid_queues}
use Rattle.queues.proofs.Below.{below_from}
use Rattle.queues.proofs.SlotsRight.{slots_decide}
use Rattle.queues.proofs.Meaning.{Tested, tested, valid_from}
use Rattle.queues.proofs.Replaced.{queue_right_lem, count_few, slots_right_lem}
use Rattle.arbitration.specs.Contest.{dominant_windows, contending, decided}
use Rattle.arbitration.proofs.Contenders.{decided_le}
use Rattle.polls.specs.Poll.{Heard, silence, nothing, packet, poll_windows, poll_keys, poll_contest, how_many_fit, with_last, sent_by, queues_after, poll_heard}
use Rattle.eventsequence.specs.Calls.{Ledger, enter_heard}
use Rattle.eventsequence.proofs.Places.{one_device}
use Rattle.eventsequence.proofs.Follows.{FollowsIn, follows_on, follows_sent, follows_unsent}

-- ---- the ways

module _ (request : EventRequest) (t : Table) (q : Queues) where
  -- who would answer, and what that device would send
  abbrev pub answering : ℕ
  answering = (poll_contest request t q).place

  abbrev pub sending : List Queued
  sending = take (how_many_fit request.most (queue q answering)) (queue q answering)

  abbrev pub answer : Heard
  answer = packet (poll_contest request t q).dominant (get_or t.addresses answering 0) (flag_of q answering) (count_of q answering) sending

  pub heard_cases : (P : Heard → Type 0) → P silence → ((dominant id : ℕ) → P (nothing dominant id)) → (answering < devices t → (count_of q answering ≡ 0 → ⊥) → P answer)
      → P (poll_heard request t q)
  unfolding poll_heard sent_by
  heard_cases P nobody none some =
      pick_cases P (ltb answering (devices t)) (sent_by request t q (poll_contest request t q).dominant answering) silence
      (λ there. pick_cases P (eqb (count_of q answering) 0) (nothing (poll_contest request t q).dominant (get_or t.addresses answering 0)) answer
      (λ e. none (poll_contest request t q).dominant (get_or t.addresses answering 0))
      (λ e. some (ltb-true answering (devices t) there) (eqb-false (count_of q answering) 0 e)))
      (λ e. nobody)

  -- before whatever is heard stands an FF for each window that was dominant; of 12 windows, no more
  abbrev pub dominants : ℕ
  dominants = dominant_windows poll_windows (contending poll_windows (poll_keys request t.addresses q))

  FillIs : Heard → Type 0
  FillIs silence = Unit {0}
  FillIs (nothing dominant id) = (dominant ≡ dominants) × (dominant ≤ poll_windows)
  FillIs (packet dominant id flag queued events) = (dominant ≡ dominants) × (dominant ≤ poll_windows)

  heard_fill : FillIs (poll_heard request t q)
  unfolding poll_heard sent_by decided FillIs
  heard_fill =
      let low = decided_le poll_windows (poll_keys request t.addresses q) in
      pick_cases FillIs (ltb answering (devices t)) (sent_by request t q (poll_contest request t q).dominant answering) silence
      (λ there. pick_cases FillIs (eqb (count_of q answering) 0) (nothing (poll_contest request t q).dominant (get_or t.addresses answering 0)) answer
      (λ e. (refl, low)) (λ e. (refl, low)))
      (λ e. tt)

  pub packet_fill : (dominant id flag queued : ℕ) (events : List Queued) → poll_heard request t q ≡ packet dominant id flag queued events
      → (dominant ≡ dominants) × (dominant ≤ poll_windows)
  unfolding FillIs
  packet_fill dominant id flag queued events e = subst FillIs e heard_fill

  pub nothing_fill : (dominant id : ℕ) → poll_heard request t q ≡ nothing dominant id → (dominant ≡ dominants) × (dominant ≤ poll_windows)
  unfolding FillIs
  nothing_fill dominant id e = subst FillIs e heard_fill

-- ---- the queues after it

-- the queues stay valid where the last packet of a device had no more events than it has queued
module _ (t : Table) (q : Queues) (g : Tested t q) (device : ℕ) (there : device < devices t) (many : ℕ) (sent : many ≤ count_of q device) where
  each_right : (other : ℕ) → other < devices t → device_right (set q.lasts device many) q.counts q.slots other ≡ true
  each_right other h =
      ⊎_elim
      (λ same. subst (λ (d : ℕ). device_right (set q.lasts device many) q.counts q.slots d ≡ true) (sym same)
      (ap (λ (last : ℕ). queue_right last (count_of q device) (slots_of q.slots device)) (get_or-set_same q.lasts device many 0 (omega (arith, g.lasts_long)))
      ∙ sym (slots_decide many (count_of q device) (slots_of q.slots device) (count_few t q g device there) sent (sym (slots_right_lem t q g device there)))))
      (λ apart. ap (λ (last : ℕ). queue_right last (count_of q other) (slots_of q.slots other)) (get_or-set_other q.lasts device other many 0 apart)
      ∙ queue_right_lem t q g other h)
      (same_or_not other device)

  pub last_valid : valid_queues t (with_last device many q) ≡ true
  last_valid =
      valid_from t (with_last device many q)
      (record {
        table_valid = g.table_valid;
        ids_right = g.ids_right;
        ids_differ = g.ids_differ;
        flags_long = g.flags_long;
        lasts_long = length-set q.lasts device many ∙ g.lasts_long;
        counts_long = g.counts_long;
        slots_long = g.slots_long;
        flags_right = g.flags_right;
        queues_right = below_from (device_right (set q.lasts device many) q.counts q.slots) (devices t) each_right;
      })

-- of so many events, those that are listed are a beginning
pub listed_first : (n : ℕ) (events : List Queued) → take n events ≡ take (length (take n events)) events
listed_first zero events = refl
listed_first (suc n) [] = refl
listed_first (suc n) (e ∷ events) = ap (λ (l : List Queued). e ∷ l) (listed_first n events)

-- where a packet lists so many events of the device at a place, every ledger follows
module _ (q : Queues) (place n id dominant sender flag queued : ℕ) where
  abbrev listed : List Queued
  listed = take n (queue q place)

  abbrev heard : Heard
  heard = packet dominant sender flag queued listed

  own_follows : {old : List Queued} {l : Ledger} → place < length q.lasts → sender ≡ id → FollowsIn old place q l → FollowsIn old place (with_last place (length listed) q) (enter_heard id heard l)
  own_follows inside own f =
      follows_on (follows_sent f id dominant sender flag queued listed own (listed_first n (queue q place))) refl (get_or-set_same q.lasts place (length listed) 0 inside) refl

  other_follows : {old : List Queued} {l : Ledger} (device : ℕ) → (device ≡ place → ⊥) → (sender ≡ id → ⊥) → FollowsIn old device q l
      → FollowsIn old device (with_last place (length listed) q) (enter_heard id heard l)
  other_follows device apart other f =
      follows_on (follows_unsent f id dominant sender flag queued listed other) refl (get_or-set_other q.lasts place device (length listed) 0 apart) refl

-- ---- one poll behind its confirmation

module _ (request : EventRequest) (t : Table) (q : Queues) (v : valid_queues t q ≡ true) where
  g : Tested t q
  g = tested t q v

  abbrev place : ℕ
  place = answering request t q

  few_listed : length (sending request t q) ≤ count_of q place
  few_listed =
      let n = how_many_fit request.most (queue q place) in
      omega (arith, length-take n (queue q place), queued_length (count_of q place) (slots_of q.slots place))

  pub sending_valid : valid_queues t (queues_after place (poll_heard request t q) q) ≡ true
  sending_valid =
      heard_cases request t q (λ (h : Heard). valid_queues t (queues_after place h q) ≡ true) v (λ dominant id. v)
      (λ inside some. last_valid t q g place inside (length (sending request t q)) few_listed)

  module _ (device : ℕ) (there : device < devices t) where
    abbrev id : ℕ
    id = get_or t.addresses device 0

    -- the one whose id is heard answered
    pub sender_is : place < devices t → get_or t.addresses place 0 ≡ id → place ≡ device
    sender_is inside same = one_device t q g place device inside there same

    pub sending_follows : {old : List Queued} {l : Ledger} → FollowsIn old device q l
        → FollowsIn old device (queues_after place (poll_heard request t q) q) (enter_heard id (poll_heard request t q) l)
    sending_follows {old} {l} f =
        heard_cases request t q (λ (h : Heard). FollowsIn old device (queues_after place h q) (enter_heard id h l)) f (λ dominant sender. f)
        (λ inside some. ⊎_elim
        (λ same. subst (λ (d : ℕ). FollowsIn old d q l → FollowsIn old d (queues_after place (answer request t q) q) (enter_heard id (answer request t q) l)) (sym same)
        (own_follows q place (how_many_fit request.most (queue q place)) id (poll_contest request t q).dominant (get_or t.addresses place 0) (flag_of q place) (count_of q place)
        (omega (arith, g.lasts_long)) (ap (λ (i : ℕ). get_or t.addresses i 0) (sym same))) f)
        (λ apart. other_follows q place (how_many_fit request.most (queue q place)) id (poll_contest request t q).dominant (get_or t.addresses place 0) (flag_of q place) (count_of q place)
        device apart (λ same. apart (sym (sender_is inside same))) f)
        (same_or_not device place))
