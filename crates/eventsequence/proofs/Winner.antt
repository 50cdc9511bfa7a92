-- Who answers a poll: of the devices that contend, the one with the smallest key. All of them have different keys, as their ids
-- differ. Where nobody contends, nobody answers.
-- Assumes nothing.
use mathlib.Core.Path.{◌≡◌, refl, sym, ap, ◌∙◌}
use mathlib.Core.Bool.{Bool, true, false}
use mathlib.Core.List.{List, [], ◌∷◌}
use mathlib.Core.Logic.{⊎_elim}
use Prim.Native.Nat.{ℕ, ◌+◌, ◌*◌, ◌^◌, ◌≤◌, ◌<◌}
use native.Mathlib.Omega.{arith}
use lib.ListN.{length, get_or}
use Rattle.lists.specs.Choice.{pick}
use Rattle.lists.proofs.Cases.{by_test, le_or_lt}
use Rattle.lists.proofs.All.{all_at}
use Rattle.arbitration.specs.Smallest.{Smallest, zero_bits}
use Rattle.arbitration.specs.declared.Decided.{Decided}
use Rattle.arbitration.proofs.SmallestWins.{contest_law, nobody_law, some_smallest}
use Rattle.table.specs.Table.{Table, devices}
use Rattle.events.specs.Events.{is_id}
use Rattle.events.proofs.Ids.{id_most}
use Rattle.eventrequests.specs.declared.EventRequest.{EventRequest}
use Rattle.queues.specs.Queues.{Queues, Queued, queue, valid_queues}
use Rattle.queues.proofs.Meaning.{Tested, tested}
use Rattle.oldest.specs.Oldest.{some_urgent, marker_of}
use Rattle.polls.specs.Poll.{contends, poll_windows, poll_key, poll_keys, poll_contest}
use Rattle.polls.proofs.PollKeys.{each_length, each_at}
use Rattle.eventsequence.proofs.Places.{ids_long, one_device}

-- ---- the key of one device

-- a marker has four bits, and is small where something is queued
marked_low : (b : Bool) → pick b 0 1 ≤ 1
marked_low true = omega arith
marked_low false = omega arith

marker_low : (events : List Queued) → marker_of events ≤ 15
unfolding marker_of
marker_low [] = omega arith
marker_low (e ∷ es) = omega (arith, marked_low (some_urgent (e ∷ es)))

-- a device with nothing queued has a smaller key only than others with nothing queued
pub only_the_idle : (id other : ℕ) (events : List Queued) → other ≤ 247 → marker_of [] * 256 + id < marker_of events * 256 + other → events ≡ []
unfolding marker_of
only_the_idle id other [] low less = refl
only_the_idle id other (e ∷ es) low less = absurd (omega (arith, marked_low (some_urgent (e ∷ es))))

module _ (request : EventRequest) (id : ℕ) (events : List Queued) where
  key_in : contends request id events ≡ true → poll_key request id events ≡ marker_of events * 256 + id
  unfolding poll_key
  key_in c = ap (λ (b : Bool). pick b (marker_of events * 2 ^ 8 + id) (2 ^ poll_windows)) c

  -- a key that fits the windows is that of a device that contends
  key_contends : poll_key request id events < 2 ^ poll_windows → contends request id events ≡ true
  unfolding poll_key
  key_contends fits =
      by_test (contends request id events) (λ c. c)
      (λ c. let out : poll_key request id events ≡ 2 ^ poll_windows = ap (λ (b : Bool). pick b (marker_of events * 2 ^ 8 + id) (2 ^ poll_windows)) c in
      absurd (omega arith))

-- ---- the contest

module _ (request : EventRequest) (t : Table) (q : Queues) where
  abbrev pub contending : ℕ → Bool
  contending device = contends request (get_or t.addresses device 0) (queue q device)

  abbrev pub key : ℕ → ℕ
  key device = marker_of (queue q device) * 256 + get_or t.addresses device 0

  abbrev keys : List ℕ
  keys = poll_keys request t.addresses q

  pub record Wins (device dominant : ℕ) : Type 0 where
    pub there : device < devices t
    pub in_contest : contending device ≡ true
    pub smallest : (other : ℕ) → other < devices t → contending other ≡ true → (other ≡ device → ⊥) → key device < key other
    pub windows : dominant ≡ zero_bits 12 (key device)

  pub data Decides (d : Decided) : Type 0 where
    none_wins : devices t ≤ d.place → ((device : ℕ) → device < devices t → contending device ≡ false) → Decides d
    one_wins : Wins d.place d.dominant → Decides d

  module _ (v : valid_queues t q ≡ true) where
    g : Tested t q
    g = tested t q v

    keys_length : length keys ≡ devices t
    unfolding poll_keys
    keys_length = each_length _ 0 (length t.addresses) ∙ ids_long t q g

    key_at : (device : ℕ) → device < devices t → get_or keys device 0 ≡ poll_key request (get_or t.addresses device 0) (queue q device)
    unfolding poll_keys
    key_at device there =
        let same : 0 + device ≡ device = omega arith in
        each_at _ 0 (length t.addresses) device (omega (arith, ids_long t q g))
        ∙ ap (λ (d : ℕ). poll_key request (get_or t.addresses d 0) (queue q d)) same

    pub id_low : (device : ℕ) → device < devices t → get_or t.addresses device 0 ≤ 247
    id_low device there = id_most _ (all_at is_id t.addresses g.ids_right device (omega (arith, ids_long t q g)))

    own_key : (device : ℕ) → device < devices t → contending device ≡ true → get_or keys device 0 ≡ key device
    own_key device there c = key_at device there ∙ key_in request (get_or t.addresses device 0) (queue q device) c

    -- no two have the same key
    keys_differ : (i j : ℕ) → i < devices t → j < devices t → key i ≡ key j → i ≡ j
    keys_differ i j hi hj same =
        let low = id_low i hi in
        let low' = id_low j hj in
        one_device t q g i j hi hj (omega arith)

    nobody_contends : ((device : ℕ) → device < length keys → 2 ^ 12 ≤ get_or keys device 0) → Decides (poll_contest request t q)
    nobody_contends above =
        none_wins (omega (arith, ap (λ (d : Decided). d.place) (nobody_law 12 keys above), keys_length))
        (λ device there. by_test (contending device)
        (λ c. absurd (omega (arith, above device (omega (arith, keys_length)), own_key device there c, marker_low (queue q device), id_low device there)))
        (λ c. c))

    smallest_wins : (m : ℕ) → Smallest m keys → m < 2 ^ 12 → Decides (poll_contest request t q)
    smallest_wins m s fits =
        let won = contest_law 12 keys m s fits in
        let place = (poll_contest request t q).place in
        let place_is = ap (λ (d : Decided). d.place) won.decides in
        let there : place < devices t = omega (arith, place_is, won.inside, keys_length) in
        let m_is : get_or keys place 0 ≡ m = ap (λ (i : ℕ). get_or keys i 0) place_is ∙ won.there in
        let c = key_contends request (get_or t.addresses place 0) (queue q place) (omega (arith, key_at place there, m_is)) in
        let own : key place ≡ m = sym (own_key place there c) ∙ m_is in
        one_wins (record {
          there = there;
          in_contest = c;
          smallest = λ other h co apart. ⊎_elim
              (λ le. absurd (apart (keys_differ other place h there (omega (arith, s.least other (omega (arith, keys_length)), own_key other h co)))))
              (λ less. less)
              (le_or_lt (key other) (key place));
          windows = ap (λ (d : Decided). d.dominant) won.decides ∙ ap (zero_bits 12) (sym own);
        })

    pub decides : Decides (poll_contest request t q)
    decides =
        ⊎_elim (λ none. nobody_contends (λ device h. absurd (omega (arith, keys_length))))
        (λ some. let found = some_smallest keys (omega (arith, keys_length)) in
        ⊎_elim (λ over. nobody_contends (λ device h. let least = found.1.least device h in omega arith))
        (λ fits. smallest_wins found.0 found.1 fits)
        (le_or_lt (2 ^ 12) found.0))
        (le_or_lt (devices t) 0)

    -- so whoever answers contends
    pub winner_contends : (poll_contest request t q).place < devices t → contending (poll_contest request t q).place ≡ true
    winner_contends there = by_way decides
      where
        by_way : Decides (poll_contest request t q) → contending (poll_contest request t q).place ≡ true
        by_way (none_wins over none) = absurd (omega arith)
        by_way (one_wins w) = w.in_contest
