-- The oldest events one behind the other, as their slots hold them: a slot is its first byte and then the event on the wire.
-- Assumes nothing.
use mathlib.Core.Path.{◌≡◌, refl, sym, ap, ap₂, ◌∙◌}
use mathlib.Core.Bool.{true, ◌&&◌}
use mathlib.Core.List.{List, [], ◌∷◌, ◌++◌, map, append_assoc, append-nil}
use Prim.Native.Nat.{ℕ, zero, suc, ◌+◌, ◌-◌, ◌*◌, ◌/◌, ◌%◌, ◌≤◌, ◌<◌}
use native.Mathlib.Omega.{arith}
use borrow.Rule.Slice.PartMut.{put_mid, mid_of}
use lib.Dec.{leb, ltb}
use lib.ListN.{length, get_or, take, drop, length-drop, length-append}
use lib.Seq.{get_or-drop, get_or-take, drop-drop, take-take, length-take-le}
use Rattle.lists.specs.Starting.{starting}
use Rattle.lists.proofs.Cases.{both, both_first, both_second}
use Rattle.lists.proofs.Behind.{rest_long, put_after}
use Rattle.lists.proofs.Filling.{drop_next, put_whole, length_starting}
use Rattle.events.specs.Events.{event_bytes, events_bytes}
use Rattle.queues.specs.Queues.{Queued, queued_in, queued_from, slots_right, most_data, slot_length}
use Rattle.queues.proofs.Events.{events_more}
use Rattle.queues.proofs.SlotsOf.{part_of}
use Rattle.oldest.specs.Oldest.{wire_length}
use Rattle.oldest.proofs.OldestLaws.{right_dropped}
use Rattle.oldest.proofs.WireLength.{data_long}
use Rattle.polls.specs.Poll.{event_of}
use Rattle.polls.proofs.EventSlots.{data_few, rest_right, size_is}

-- ---- one event

module _ (slots : List ℕ) (enough : 13 ≤ length slots) (few : get_or slots 1 0 ≤ 8) (low : get_or slots 4 0 < 256) where
  slot_at : (k : ℕ) → k < 13 → get_or (take 13 slots) k 0 ≡ get_or slots k 0
  slot_at k h = get_or-take 13 slots k 0 h

  data_is : (queued_in (take 13 slots)).event.payload ≡ take (get_or slots 1 0) (drop 5 slots)
  data_is =
      ap₂ take (slot_at 1 (omega arith)) (part_of slots 5 8 enough)
      ∙ take-take (get_or slots 1 0) 8 (drop 5 slots) few

  high : get_or (take 13 slots) 3 0 * 256 + get_or (take 13 slots) 4 0 ≡ get_or slots 3 0 * 256 + get_or slots 4 0
  high = ap₂ (λ (x y : ℕ). x * 256 + y) (slot_at 3 (omega arith)) (slot_at 4 (omega arith))

  pub event_bytes_lem : event_bytes (event_of (queued_in (take 13 slots))) ≡ take (4 + get_or slots 1 0) (drop 1 slots)
  unfolding event_bytes
  event_bytes_lem =
      let d = get_or slots 1 0 in
      let whole : drop 1 slots ≡ d ∷ get_or slots 2 0 ∷ get_or slots 3 0 ∷ get_or slots 4 0 ∷ drop 5 slots =
      drop_next slots 1 (omega arith)
      ∙ ap (λ (l : List ℕ). d ∷ l) (drop_next slots 2 (omega arith)
      ∙ ap (λ (l : List ℕ). get_or slots 2 0 ∷ l) (drop_next slots 3 (omega arith)
      ∙ ap (λ (l : List ℕ). get_or slots 3 0 ∷ l) (drop_next slots 4 (omega arith)))) in
      let four : suc (suc (suc (suc d))) ≡ 4 + d = omega arith in
      let first : (get_or slots 3 0 * 256 + get_or slots 4 0) / 256 ≡ get_or slots 3 0 = omega arith in
      let second : (get_or slots 3 0 * 256 + get_or slots 4 0) % 256 ≡ get_or slots 4 0 = omega arith in
      ap₂ (λ (n : ℕ) (k : ℕ). n ∷ k ∷ (get_or (take 13 slots) 3 0 * 256 + get_or (take 13 slots) 4 0) / 256 ∷ (get_or (take 13 slots) 3 0 * 256 + get_or (take 13 slots) 4 0) % 256 ∷ (queued_in (take 13 slots)).event.payload)
      (data_long slots enough few) (slot_at 2 (omega arith))
      ∙ ap₂ (λ (n : ℕ) (bytes : List ℕ). d ∷ get_or slots 2 0 ∷ n / 256 ∷ n % 256 ∷ bytes) high data_is
      ∙ ap₂ (λ (x y : ℕ). d ∷ get_or slots 2 0 ∷ x ∷ y ∷ take d (drop 5 slots)) first second
      ∙ ap (λ (k : ℕ). take k (d ∷ get_or slots 2 0 ∷ get_or slots 3 0 ∷ get_or slots 4 0 ∷ drop 5 slots)) four
      ∙ ap (take (4 + d)) (sym whole)

-- ---- some events

-- one more behind others
bytes_more : (events : List Queued) (e : Queued) → events_bytes (map event_of (events ++ e ∷ [])) ≡ events_bytes (map event_of events) ++ event_bytes (event_of e)
unfolding events_bytes
bytes_more [] e = append-nil (event_bytes (event_of e))
bytes_more (x ∷ xs) e =
    ap (λ (l : List ℕ). event_bytes (event_of x) ++ l) (bytes_more xs e)
    ∙ sym (append_assoc (event_bytes (event_of x)) (events_bytes (map event_of xs)) (event_bytes (event_of e)))

pub bytes_length : (n : ℕ) (slots : List ℕ) → slots_right n slots ≡ true → 13 * n ≤ length slots → length (events_bytes (map event_of (queued_from n slots))) ≡ wire_length n slots
unfolding events_bytes queued_from wire_length
bytes_length zero slots right enough = refl
bytes_length (suc n) slots right enough =
    length-append (event_bytes (event_of (queued_in (take 13 slots)))) (events_bytes (map event_of (queued_from n (drop 13 slots))))
    ∙ ap₂ (λ (x y : ℕ). x + y) (size_is slots (omega arith) (data_few (suc n) slots (omega arith) right))
    (bytes_length n (drop 13 slots) (rest_right n slots right) (omega (arith, length-drop 13 slots)))

length_more : (n : ℕ) (slots : List ℕ) → wire_length (suc n) slots ≡ wire_length n slots + (4 + get_or (drop (13 * n) slots) 1 0)
unfolding wire_length
length_more zero slots = omega arith
length_more (suc n) slots =
    let place : 13 * suc n ≡ 13 + 13 * n = omega arith in
    let here : get_or (drop (13 * n) (drop 13 slots)) 1 0 ≡ get_or (drop (13 * suc n) slots) 1 0 =
    ap (λ (l : List ℕ). get_or l 1 0) (drop-drop (13 * n) 13 slots ∙ ap (λ (k : ℕ). drop k slots) (sym place)) in
    omega (arith, length_more n (drop 13 slots), here)

length_least : (k n : ℕ) (slots : List ℕ) → k ≤ n → wire_length k slots ≤ wire_length n slots
unfolding wire_length
length_least zero n slots h = omega arith
length_least (suc k) zero slots h = absurd (omega arith)
length_least (suc k) (suc n) slots h = let rest = length_least k n (drop 13 slots) (omega arith) in omega arith

-- an event has at most 12 bytes
pub length_most : (n : ℕ) (slots : List ℕ) → slots_right n slots ≡ true → wire_length n slots ≤ 12 * n
unfolding wire_length
length_most zero slots right = omega arith
length_most (suc n) slots right =
    omega (arith, data_few (suc n) slots (omega arith) right, length_most n (drop 13 slots) (rest_right n slots right))

-- fewer slots of right ones are right
pub slots_fewer : (k n : ℕ) (slots : List ℕ) → k ≤ n → slots_right n slots ≡ true → slots_right k slots ≡ true
unfolding slots_right
slots_fewer zero n slots h right = refl
slots_fewer (suc k) zero slots h right = absurd (omega arith)
slots_fewer (suc k) (suc n) slots h right =
    let low = both_first (ltb (get_or slots 0 0) 2) (leb (get_or slots 1 0) most_data && slots_right n (drop slot_length slots)) right in
    let rest = both_second (ltb (get_or slots 0 0) 2) (leb (get_or slots 1 0) most_data && slots_right n (drop slot_length slots)) right in
    both low (both (both_first (leb (get_or slots 1 0) most_data) (slots_right n (drop slot_length slots)) rest)
    (slots_fewer k n (drop 13 slots) (omega arith) (both_second (leb (get_or slots 1 0) most_data) (slots_right n (drop slot_length slots)) rest)))

-- ---- a walk over the slots: so many events stand in the output, up to this place of it

pub record Packed (events : ℕ) (slots old now : List ℕ) (put at to : ℕ) : Type 0 where
  pub so_far : put ≤ events
  pub place : at ≡ 13 * put
  pub reached : to ≡ wire_length put slots
  pub long : length now ≡ length old
  pub holds : now ≡ starting (events_bytes (map event_of (queued_from put slots))) old

pub packed_none : (events : ℕ) (slots old : List ℕ) → Packed events slots old old 0 0 0
unfolding events_bytes queued_from wire_length
packed_none events slots old = record { so_far = omega arith; place = refl; reached = refl; long = refl; holds = refl }

module _ (events : ℕ) (slots old now : List ℕ) (put at to : ℕ) (few : events ≤ 8) (whole : length slots ≡ 104) (right : slots_right events slots ≡ true)
    (room : wire_length events slots ≤ length old) (bytes : (i : ℕ) → get_or slots i 0 < 256) (w : Packed events slots old now put at to) where
  module _ (more : put < events) where
    all_left : put + (events - put) ≡ events
    all_left = omega arith

    here_right : slots_right (events - put) (drop (13 * put) slots) ≡ true
    here_right = right_dropped put (events - put) slots (ap (λ (k : ℕ). slots_right k slots) all_left ∙ right)

    same_place : drop (13 * put) slots ≡ drop at slots
    same_place = ap (λ (k : ℕ). drop k slots) (sym w.place)

    size_here : get_or (drop (13 * put) slots) 1 0 ≡ get_or slots (at + 1) 0
    size_here = ap (λ (l : List ℕ). get_or l 1 0) same_place ∙ get_or-drop at slots 1 0

    pub data_small : get_or slots (at + 1) 0 ≤ 8
    data_small = omega (arith, data_few (events - put) (drop (13 * put) slots) (omega arith) here_right, size_here)

    length_next : wire_length (put + 1) slots ≡ wire_length put slots + (4 + get_or slots (at + 1) 0)
    length_next =
        let next : put + 1 ≡ suc put = omega arith in
        ap (λ (k : ℕ). wire_length k slots) next ∙ length_more put slots ∙ ap (λ (k : ℕ). wire_length put slots + (4 + k)) size_here

    pub room_here : to + (4 + get_or slots (at + 1) 0) ≤ length now
    room_here = omega (arith, length_next, length_least (put + 1) events slots (omega arith), w.reached, w.long)

    -- the bytes of the next event, as a part of the slots
    part_bytes : event_bytes (event_of (queued_in (take 13 (drop (13 * put) slots)))) ≡ take (at + 1 + (4 + get_or slots (at + 1) 0) - (at + 1)) (drop (at + 1) slots)
    part_bytes =
        let low : get_or (drop (13 * put) slots) 4 0 < 256 = omega (arith, get_or-drop (13 * put) slots 4 0, bytes (13 * put + 4)) in
        let enough : 13 ≤ length (drop (13 * put) slots) = omega (arith, length-drop (13 * put) slots) in
        let count : 4 + get_or (drop (13 * put) slots) 1 0 ≡ at + 1 + (4 + get_or slots (at + 1) 0) - (at + 1) = omega (arith, size_here) in
        event_bytes_lem (drop (13 * put) slots) enough (omega (arith, size_here, data_small)) low
        ∙ ap₂ (λ (k : ℕ) (l : List ℕ). take k (drop 1 l)) count same_place
        ∙ ap (take (at + 1 + (4 + get_or slots (at + 1) 0) - (at + 1))) (drop-drop 1 at slots)

    pub packed_more : (after : List ℕ)
        → after ≡ starting (take (length (mid_of to (length now - to) now)) (take (at + 1 + (4 + get_or slots (at + 1) 0) - (at + 1)) (drop (at + 1) slots))) (mid_of to (length now - to) now)
        → Packed events slots old (put_mid to (length now - to) now after) (put + 1) (at + 13) (to + (4 + get_or slots (at + 1) 0))
    packed_more after wrote =
        let part = take (at + 1 + (4 + get_or slots (at + 1) 0) - (at + 1)) (drop (at + 1) slots) in
        let before = events_bytes (map event_of (queued_from put slots)) in
        let mid = mid_of to (length now - to) now in
        let part_long : length part ≡ 4 + get_or slots (at + 1) 0 =
        length-take-le (at + 1 + (4 + get_or slots (at + 1) 0) - (at + 1)) (drop (at + 1) slots) (omega (arith, length-drop (at + 1) slots, data_small, w.place)) ∙ omega arith in
        let first_right : slots_right put slots ≡ true = slots_fewer put events slots (omega arith) right in
        let before_long : length before ≡ to = bytes_length put slots first_right (omega arith) ∙ sym w.reached in
        let all_put : after ≡ starting part mid = wrote ∙ put_whole part mid (omega (arith, rest_long now to (omega (arith, room_here)), room_here)) in
        let both : put_mid to (length now - to) now after ≡ starting (before ++ part) old = put_after before part old now after to before_long w.holds all_put in
        let next : events_bytes (map event_of (queued_from (put + 1) slots)) ≡ before ++ part =
        ap (λ (k : ℕ). events_bytes (map event_of (queued_from k slots))) (omega arith)
        ∙ ap (λ (l : List Queued). events_bytes (map event_of l)) (events_more put slots)
        ∙ bytes_more (queued_from put slots) (queued_in (take 13 (drop (13 * put) slots)))
        ∙ ap (λ (l : List ℕ). before ++ l) part_bytes in
        let fits : length (before ++ part) ≤ length old = omega (arith, length-append before part, room_here, w.long) in
        record {
          so_far = omega arith;
          place = omega (arith, w.place);
          reached = omega (arith, length_next, w.reached);
          long = ap length both ∙ length_starting (before ++ part) old fits;
          holds = both ∙ ap (λ (l : List ℕ). starting l old) (sym next);
        }

  pub packed_all : events ≤ put → now ≡ starting (events_bytes (map event_of (queued_from events slots))) old
  packed_all end =
      let all : put ≡ events = omega (arith, w.so_far) in
      w.holds ∙ ap (λ (k : ℕ). starting (events_bytes (map event_of (queued_from k slots))) old) all
