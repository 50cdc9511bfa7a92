-- Events as their slots hold them: how many bytes they have on the wire, how many fit, and which bytes they are.
-- Assumes nothing.
use mathlib.Core.Path.{◌≡◌, refl, sym, ap, ap₂, ◌∙◌}
use mathlib.Core.Bool.{Bool, true, ◌&&◌}
use mathlib.Core.List.{List, [], ◌∷◌}
use Prim.Native.Nat.{ℕ, zero, suc, ◌+◌, ◌-◌, ◌*◌, ◌≤◌, ◌<◌}
use native.Mathlib.Nat.{add-zero}
use native.Mathlib.Omega.{arith}
use lib.Dec.{leb, ltb}
use lib.ListN.{length, get_or, take, drop, length-drop}
use lib.Seq.{get_or-drop, drop-drop}
use borrow.Author.Tests.{le-leb, lt-leb, leb-true}
use Rattle.lists.specs.Choice.{pick}
use Rattle.lists.proofs.Cases.{pick_cases, both_first, both_second}
use Rattle.events.specs.Events.{event_bytes}
use Rattle.queues.specs.Queues.{Queued, queued_in, queued_from, slots_right, most_data, slot_length}
use Rattle.oldest.specs.Oldest.{wire_length}
use Rattle.oldest.proofs.WireLength.{data_long}
use Rattle.polls.specs.Poll.{event_size, oldest_fits, how_many_fit}

-- ---- the first of some slots that are right

pub data_few : (n : ℕ) (slots : List ℕ) → 0 < n → slots_right n slots ≡ true → get_or slots 1 0 ≤ 8
unfolding slots_right
data_few zero slots some right = absurd (omega arith)
data_few (suc n) slots some right =
    leb-true (get_or slots 1 0) most_data
    (both_first (leb (get_or slots 1 0) most_data) (slots_right n (drop slot_length slots))
    (both_second (ltb (get_or slots 0 0) 2) (leb (get_or slots 1 0) most_data && slots_right n (drop slot_length slots)) right))

pub rest_right : (n : ℕ) (slots : List ℕ) → slots_right (suc n) slots ≡ true → slots_right n (drop 13 slots) ≡ true
unfolding slots_right
rest_right n slots right =
    both_second (leb (get_or slots 1 0) most_data) (slots_right n (drop slot_length slots))
    (both_second (ltb (get_or slots 0 0) 2) (leb (get_or slots 1 0) most_data && slots_right n (drop slot_length slots)) right)

-- an event has four bytes and its data on the wire
pub size_is : (slots : List ℕ) → 13 ≤ length slots → get_or slots 1 0 ≤ 8 → event_size (queued_in (take 13 slots)) ≡ 4 + get_or slots 1 0
unfolding event_bytes
size_is slots enough few = omega (arith, data_long slots enough few)

-- ---- whether the oldest fits, and how many do

pub none_fits : (most : ℕ) (slots : List ℕ) → oldest_fits most (queued_from 0 slots) ≡ true
unfolding oldest_fits queued_from
none_fits most slots = refl

pub first_fits : (n most : ℕ) (slots : List ℕ) → 0 < n → slots_right n slots ≡ true → 13 ≤ length slots → oldest_fits most (queued_from n slots) ≡ leb (wire_length 1 slots) most
unfolding oldest_fits queued_from wire_length
first_fits zero most slots some right enough = absurd (omega arith)
first_fits (suc n) most slots some right enough =
    let same : event_size (queued_in (take 13 slots)) ≡ 4 + get_or slots 1 0 + 0 = omega (arith, size_is slots enough (data_few (suc n) slots some right)) in
    ap (λ (k : ℕ). leb k most) same

module _ (n room : ℕ) (slots : List ℕ) (right : slots_right (suc n) slots ≡ true) (enough : 13 ≤ length slots) where
  first_size : event_size (queued_in (take 13 slots)) ≡ 4 + get_or slots 1 0
  first_size = size_is slots enough (data_few (suc n) slots (omega arith) right)

  pub fit_stops : room < 4 + get_or slots 1 0 → how_many_fit room (queued_from (suc n) slots) ≡ 0
  unfolding how_many_fit queued_from
  fit_stops over =
      ap (λ (b : Bool). pick b (suc (how_many_fit (room - event_size (queued_in (take 13 slots))) (queued_from n (drop 13 slots)))) 0)
      (lt-leb (event_size (queued_in (take 13 slots))) room (omega (arith, first_size)))

  pub fit_more : 4 + get_or slots 1 0 ≤ room → how_many_fit room (queued_from (suc n) slots) ≡ suc (how_many_fit (room - (4 + get_or slots 1 0)) (queued_from n (drop 13 slots)))
  unfolding how_many_fit queued_from
  fit_more fits =
      ap (λ (b : Bool). pick b (suc (how_many_fit (room - event_size (queued_in (take 13 slots))) (queued_from n (drop 13 slots)))) 0)
      (le-leb (event_size (queued_in (take 13 slots))) room (omega (arith, first_size)))
      ∙ ap (λ (k : ℕ). suc (how_many_fit (room - k) (queued_from n (drop 13 slots)))) first_size

pub fit_none : (room : ℕ) (slots : List ℕ) → how_many_fit room (queued_from 0 slots) ≡ 0
unfolding how_many_fit queued_from
fit_none room slots = refl

-- no more fit than are queued
pub fit_few : (room : ℕ) (events : List Queued) → how_many_fit room events ≤ length events
unfolding how_many_fit
fit_few room [] = omega arith
fit_few room (e ∷ es) =
    let rest = fit_few (room - event_size e) es in
    pick_cases (λ (k : ℕ). k ≤ suc (length es)) (leb (event_size e) room) (suc (how_many_fit (room - event_size e) es)) 0 (λ h. omega arith) (λ h. omega arith)

-- a walk over the slots: so many fit before this place, and with what is left of the room the rest decides
pub record Fitting (count most : ℕ) (slots : List ℕ) (room fit at : ℕ) : Type 0 where
  pub so_far : fit ≤ count
  pub place : at ≡ 13 * fit
  pub left : room ≤ most
  pub right : slots_right (count - fit) (drop at slots) ≡ true
  pub decides : how_many_fit most (queued_from count slots) ≡ fit + how_many_fit room (queued_from (count - fit) (drop at slots))

pub fitting_none : (count most : ℕ) (slots : List ℕ) → slots_right count slots ≡ true → Fitting count most slots most 0 0
fitting_none count most slots right =
    let all : count ≡ count - 0 = omega arith in
    let none : how_many_fit most (queued_from (count - 0) slots) ≡ 0 + how_many_fit most (queued_from (count - 0) slots) = omega arith in
    record {
      so_far = omega arith;
      place = refl;
      left = omega arith;
      right = ap (λ (k : ℕ). slots_right k slots) (sym all) ∙ right;
      decides = ap (λ (k : ℕ). how_many_fit most (queued_from k slots)) all ∙ none;
    }

module _ (count most : ℕ) (slots : List ℕ) (room fit at : ℕ) (few : count ≤ 8) (long : length slots ≡ 104) (w : Fitting count most slots room fit at) where
  second_byte : get_or (drop at slots) 1 0 ≡ get_or slots (at + 1) 0
  second_byte = get_or-drop at slots 1 0

  module _ (more : fit < count) where
    one_more : count - fit ≡ suc (count - (fit + 1))
    one_more = omega arith

    here_right : slots_right (suc (count - (fit + 1))) (drop at slots) ≡ true
    here_right = ap (λ (k : ℕ). slots_right k (drop at slots)) (sym one_more) ∙ w.right

    here_long : 13 ≤ length (drop at slots)
    here_long = omega (arith, length-drop at slots, w.place)

    pub fitting_stops : room < 4 + get_or slots (at + 1) 0 → how_many_fit most (queued_from count slots) ≡ fit
    fitting_stops over =
        w.decides
        ∙ ap (λ (k : ℕ). fit + how_many_fit room (queued_from k (drop at slots))) one_more
        ∙ ap (λ (k : ℕ). fit + k) (fit_stops (count - (fit + 1)) room (drop at slots) here_right here_long (omega (arith, second_byte, over)))
        ∙ add-zero fit

    pub fitting_more : 4 + get_or slots (at + 1) 0 ≤ room → Fitting count most slots (room - (4 + get_or slots (at + 1) 0)) (fit + 1) (at + 13)
    fitting_more fits =
        let size : 4 + get_or (drop at slots) 1 0 ≡ 4 + get_or slots (at + 1) 0 = ap (λ (k : ℕ). 4 + k) second_byte in
        let further : drop 13 (drop at slots) ≡ drop (at + 13) slots = drop-drop 13 at slots in
        let rest = how_many_fit (room - (4 + get_or slots (at + 1) 0)) (queued_from (count - (fit + 1)) (drop (at + 13) slots)) in
        let moved : fit + suc rest ≡ fit + 1 + rest = omega arith in
        record {
          so_far = omega arith;
          place = omega (arith, w.place);
          left = omega (arith, w.left);
          right = ap (slots_right (count - (fit + 1))) (sym further) ∙ rest_right (count - (fit + 1)) (drop at slots) here_right;
          decides = w.decides
              ∙ ap (λ (k : ℕ). fit + how_many_fit room (queued_from k (drop at slots))) one_more
              ∙ ap (λ (k : ℕ). fit + k) (fit_more (count - (fit + 1)) room (drop at slots) here_right here_long (omega (arith, second_byte, fits)))
              ∙ ap₂ (λ (k : ℕ) (l : List ℕ). fit + suc (how_many_fit (room - k) (queued_from (count - (fit + 1)) l))) size further
              ∙ moved;
        }

  pub fitting_all : count ≤ fit → how_many_fit most (queued_from count slots) ≡ fit
  fitting_all end =
      let none : count - fit ≡ 0 = omega arith in
      w.decides ∙ ap (λ (k : ℕ). fit + how_many_fit room (queued_from k (drop at slots))) none ∙ ap (λ (k : ℕ). fit + k) (fit_none room (drop at slots)) ∙ add-zero fit
