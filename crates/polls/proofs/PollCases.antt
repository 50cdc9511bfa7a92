-- The ways of a contest behind its confirmation: nobody contends, the winner has nothing queued, or it sends a packet.
-- Assumes nothing.
use Rattle.std.specs.Prelude.{Ok}
use mathlib.Core.Path.{◌≡◌, refl, sym, ap, ap₂, ◌∙◌}
use mathlib.Core.Bool.{Bool, true}
use mathlib.Core.List.{List, ◌∷◌}
use mathlib.Mathlib.Logic.Function.Defs.{id as itself}
use Prim.Native.Nat.{ℕ, zero, suc, ◌≤◌, ◌<◌}
use native.Mathlib.Omega.{arith}
use lib.ListN.{length, get_or, take, drop, set}
use borrow.Author.Tests.{lt-ltb, le-ltb, eq-eqb, ne_eqb}
use Rattle.lists.specs.Choice.{pick}
use Rattle.lists.specs.Starting.{starting}
use Rattle.arbitration.specs.Contest.{decided, contending}
use Rattle.arbitration.specs.declared.Decided.{Decided}
use Rattle.arbitration.proofs.Contenders.{dominant_le}
use Rattle.table.specs.Table.{Table, devices}
use Rattle.table.proofs.Meaning.{tested as table_tested}
use Rattle.eventrequests.specs.declared.EventRequest.{EventRequest}
use Rattle.queues.specs.Queues.{Queues, Queued, count_of, flag_of, queue, queued_in, queued_from, slots_of, valid_queues}
use Rattle.queues.proofs.Meaning.{tested, ids_long as tested_long}
use Rattle.queues.proofs.Events.{queued_length}
use Rattle.queues.proofs.Replaced.{count_few, slots_right_lem, slots_long}
use Rattle.confirmation.specs.Confirmation.{confirmed}
use Rattle.polls.specs.Poll.{Heard, silence, nothing, packet, poll, poll_windows, poll_keys, poll_contest, poll_heard, heard_of, sent_by, how_many_fit, queues_after}
use Rattle.polls.specs.Calls.{heard_bytes, polled_as, polling, GivesPoll}
use Rattle.polls.specs.Inner.{RightSlots, RightQueues, queues_of, GivesHeard}
use Rattle.polls.specs.declared.Polled.{Polled}
use Rattle.polls.specs.declared.Polled.TheVariants.{Packet, Nothing, Silent}
use Rattle.polls.proofs.EventSlots.{fit_few}
use Rattle.polls.proofs.PackedEvents.{slots_fewer}

-- ---- what valid queues give

module _ (t : Table) (q : Queues) (v : valid_queues t q ≡ true) where
  pub ids_long : length t.addresses ≡ devices t
  ids_long = tested_long t q (tested t q v)

  pub few_ids : length t.addresses ≤ 247
  few_ids = omega (arith, ids_long, (table_tested t (tested t q v).table_valid).few)

  pub own_slots : (device : ℕ) → device < length t.addresses → RightSlots (count_of q device) (slots_of q.slots device)
  own_slots device there =
      let g = tested t q v in
      let inside : device < devices t = omega (arith, ids_long) in
      record { few = count_few t q g device inside; long = slots_long t q g device inside; right = slots_right_lem t q g device inside }

  pub right_queues : RightQueues (length t.addresses) q.counts q.slots
  right_queues =
      let g = tested t q v in
      record { counts_long = g.counts_long ∙ sym ids_long; slots_long = omega (arith, g.slots_long, ids_long); each = own_slots }

-- ---- the contest

-- flags and last packets do not matter to it
pub contest_is : (request : EventRequest) (t : Table) (q : Queues) → decided poll_windows (poll_keys request t.addresses (queues_of q.counts q.slots)) ≡ poll_contest request t q
unfolding poll_keys
contest_is request t q = refl

pub few_dominant : (keys : List ℕ) → (decided poll_windows keys).dominant ≤ poll_windows
unfolding decided
few_dominant keys = dominant_le poll_windows (contending poll_windows keys)

-- ---- so many of the oldest

pub oldest_are : (k n : ℕ) (slots : List ℕ) → k ≤ n → take k (queued_from n slots) ≡ queued_from k slots
unfolding queued_from
oldest_are zero n slots h = refl
oldest_are (suc k) zero slots h = absurd (omega arith)
oldest_are (suc k) (suc n) slots h = ap (λ (l : List Queued). queued_in (take 13 slots) ∷ l) (oldest_are k n (drop 13 slots) (omega arith))

-- ---- what is heard

module _ (request : EventRequest) (t : Table) (q : Queues) (v : valid_queues t q ≡ true) (won : Decided) (is_won : won ≡ poll_contest request t q) (old : List ℕ) where
  heard_is : heard_of request t q won ≡ poll_heard request t q
  unfolding poll_heard
  heard_is = ap (heard_of request t q) is_won

  -- an answer that is given by what is heard
  gives : (heard : Heard) (r : Polled) (buffer lasts : List ℕ) → heard ≡ poll_heard request t q → r ≡ polled_as heard → buffer ≡ starting (heard_bytes heard) old
      → lasts ≡ (queues_after won.place heard q).lasts → GivesHeard request t q old r buffer lasts
  gives heard r buffer lasts is_heard answered written remembered =
      record {
        result = answered ∙ ap polled_as is_heard;
        buffer_is = written ∙ ap (λ (h : Heard). starting (heard_bytes h) old) is_heard;
        lasts_are = remembered ∙ ap₂ (λ (place : ℕ) (h : Heard). (queues_after place h q).lasts) (ap (λ (d : Decided). d.place) is_won) is_heard;
      }

  pub gives_silence : length t.addresses ≤ won.place → GivesHeard request t q old Silent old q.lasts
  unfolding heard_bytes
  gives_silence nobody =
      gives silence Silent old q.lasts
      (sym (ap (λ (b : Bool). pick b (sent_by request t q won.dominant won.place) silence) (le-ltb won.place (devices t) (omega (arith, ids_long t q v)))) ∙ heard_is)
      refl refl refl

  module _ (there : won.place < length t.addresses) where
    sent_is : sent_by request t q won.dominant won.place ≡ poll_heard request t q
    sent_is =
        sym (ap (λ (b : Bool). pick b (sent_by request t q won.dominant won.place) silence) (lt-ltb won.place (devices t) (omega (arith, ids_long t q v))))
        ∙ heard_is

    abbrev id : ℕ
    id = get_or t.addresses won.place 0

    abbrev own : List Queued
    own = queue q won.place

    pub gives_nothing : count_of q won.place ≡ 0 → (size : ℕ) (buffer : List ℕ) → size ≡ length (heard_bytes (nothing won.dominant id))
        → buffer ≡ starting (heard_bytes (nothing won.dominant id)) old → GivesHeard request t q old (Nothing won.dominant size id) buffer q.lasts
    unfolding sent_by
    gives_nothing none size buffer long written =
        gives (nothing won.dominant id) (Nothing won.dominant size id) buffer q.lasts
        (sym (ap (λ (b : Bool). pick b (nothing won.dominant id) (packet won.dominant id (flag_of q won.place) (count_of q won.place) (take (how_many_fit request.most own) own))) (eq-eqb (count_of q won.place) 0 none)) ∙ sent_is)
        (ap (λ (n : ℕ). Nothing won.dominant n id) long) written refl

    -- the events that the winner sends, by how many the code found to fit
    module _ (events : ℕ) (fit : events ≡ how_many_fit request.most own) where
      pub no_more : events ≤ count_of q won.place
      no_more = omega (arith, fit, fit_few request.most own, queued_length (count_of q won.place) (slots_of q.slots won.place))

      pub sent_slots : RightSlots events (slots_of q.slots won.place)
      sent_slots =
          let g = own_slots t q v won.place there in
          record { few = omega (arith, no_more, g.few); long = g.long; right = slots_fewer events (count_of q won.place) (slots_of q.slots won.place) no_more g.right }

      abbrev sent : List Queued
      sent = queued_from events (slots_of q.slots won.place)

      sent_events : take (how_many_fit request.most own) own ≡ sent
      sent_events = ap (λ (k : ℕ). take k own) (sym fit) ∙ oldest_are events (count_of q won.place) (slots_of q.slots won.place) no_more

      pub gives_packet : (count_of q won.place ≡ 0 → ⊥) → (size : ℕ) (buffer : List ℕ)
          → size ≡ length (heard_bytes (packet won.dominant id (flag_of q won.place) (count_of q won.place) sent))
          → buffer ≡ starting (heard_bytes (packet won.dominant id (flag_of q won.place) (count_of q won.place) sent)) old
          → GivesHeard request t q old (Packet won.dominant size id (flag_of q won.place) events) buffer (set q.lasts won.place events)
      unfolding sent_by
      gives_packet some size buffer long written =
          let told = packet won.dominant id (flag_of q won.place) (count_of q won.place) in
          let many : events ≡ length sent = sym (queued_length events (slots_of q.slots won.place)) in
          gives (told sent) (Packet won.dominant size id (flag_of q won.place) events) buffer (set q.lasts won.place events)
          (ap told (sym sent_events)
          ∙ sym (ap (λ (b : Bool). pick b (nothing won.dominant id) (told (take (how_many_fit request.most own) own))) (ne_eqb (count_of q won.place) 0 some))
          ∙ sent_is)
          (ap₂ (λ (n k : ℕ). Packet won.dominant n id (flag_of q won.place) k) long many) written
          (ap (set q.lasts won.place) many)

-- ---- behind its confirmation

module _ (request : EventRequest) (t : Table) (q after : Queues) (is_after : after ≡ confirmed t.addresses request.confirmed request.flag q) (old : List ℕ) where
  -- the columns that the contest does not change are those that confirmation left
  contest_keeps : (place : ℕ) (heard : Heard) (k : Queues)
      → ((queues_after place heard k).flags ≡ k.flags) × ((queues_after place heard k).counts ≡ k.counts) × ((queues_after place heard k).slots ≡ k.slots)
  contest_keeps place silence k = (refl, refl, refl)
  contest_keeps place (nothing dominant _) k = (refl, refl, refl)
  contest_keeps place (packet dominant _ flag queued events) k = (refl, refl, refl)

  pub gives_poll : (r : Polled) (buffer lasts : List ℕ) → GivesHeard request t after old r buffer lasts
      → GivesPoll itself (polling request old t q) (Ok r) buffer after.flags lasts after.counts after.slots
  unfolding polling poll
  gives_poll r buffer lasts heard =
      let same = contest_keeps (poll_contest request t after).place (poll_heard request t after) after in
      let moved : queues_after (poll_contest request t after).place (poll_heard request t after) after ≡ (poll request t q).queues =
      ap (λ (k : Queues). queues_after (poll_contest request t k).place (poll_heard request t k) k) is_after in
      record {
        result = ap Ok (heard.result ∙ ap (λ (k : Queues). polled_as (poll_heard request t k)) is_after);
        buffer_is = heard.buffer_is ∙ ap (λ (k : Queues). starting (heard_bytes (poll_heard request t k)) old) is_after;
        flags_are = sym same.0 ∙ ap (λ (k : Queues). k.flags) moved;
        lasts_are = heard.lasts_are ∙ ap (λ (k : Queues). k.lasts) moved;
        counts_are = sym same.1 ∙ ap (λ (k : Queues). k.counts) moved;
        slots_are = sym same.2 ∙ ap (λ (k : Queues). k.slots) moved;
      }
