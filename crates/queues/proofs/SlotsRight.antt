-- Laws of slots that are right, one slot after another, and of a queue's tests.
-- Assumes nothing.
use mathlib.Core.Path.{◌≡◌, refl, sym, ap, ap₂, ◌∙◌}
use mathlib.Core.Bool.{Bool, true, false, ◌&&◌}
use mathlib.Core.List.{List, ◌++◌}
use Prim.Native.Nat.{ℕ, zero, suc, ◌+◌, ◌*◌, ◌/◌, ◌≤◌, ◌<◌}
use native.Mathlib.Omega.{arith}
use lib.Dec.{leb, ltb}
use lib.ListN.{length, get_or, take, drop, length-drop, take-append-drop, get_or-append, length-append}
use lib.Seq.{drop-drop, drop-append-le, length-take-le, drop_at}
use borrow.Author.Tests.{lt-ltb, le-ltb, le-leb, lt-leb, leb-true}
use Rattle.lists.proofs.Cases.{by_test, true_not_false, both, both_first, both_second, test_passes}
use Rattle.queues.specs.Queues.{slots_right, queue_right, slot_length, most_data, most_queued}

-- the slots behind one more than n
pub further : (n : ℕ) (slots : List ℕ) → drop (13 * suc n) slots ≡ drop (13 * n) (drop 13 slots)
further n slots =
    let place : 13 * suc n ≡ 13 + 13 * n = omega arith in
    ap (λ (k : ℕ). drop k slots) place ∙ sym (drop-drop (13 * n) 13 slots)

-- so many slots at the start of a list decide, whatever stands behind them
pub slots_front : (n : ℕ) (front rest : List ℕ) → 13 * n ≤ length front → slots_right n (front ++ rest) ≡ slots_right n front
unfolding slots_right
slots_front zero front rest long = refl
slots_front (suc n) front rest long =
    let first : get_or (front ++ rest) 0 0 ≡ get_or front 0 0 = get_or-append front rest 0 0 (omega arith) in
    let second : get_or (front ++ rest) 1 0 ≡ get_or front 1 0 = get_or-append front rest 0 1 (omega arith) in
    let behind : slots_right n (drop 13 (front ++ rest)) ≡ slots_right n (drop 13 front) =
    ap (slots_right n) (drop-append-le 13 front rest (omega arith)) ∙ slots_front n (drop 13 front) rest (omega (arith, length-drop 13 front)) in
    ap₂ (λ (x y : ℕ). ltb x 2 && (leb y most_data && slots_right n (drop 13 (front ++ rest)))) first second
    ∙ ap (λ (b : Bool). ltb (get_or front 0 0) 2 && (leb (get_or front 1 0) most_data && b)) behind

-- so many whole slots at the start of a list, as a list of their own
pub queued_only : (n : ℕ) (slots : List ℕ) → 13 * n ≤ length slots → slots_right (length (take (13 * n) slots) / 13) (take (13 * n) slots) ≡ slots_right n slots
queued_only n slots h =
    let long : length (take (13 * n) slots) ≡ 13 * n = length-take-le (13 * n) slots h in
    let count : length (take (13 * n) slots) / 13 ≡ n = omega arith in
    ap (λ (k : ℕ). slots_right k (take (13 * n) slots)) count
    ∙ sym (slots_front n (take (13 * n) slots) (drop (13 * n) slots) (omega arith))
    ∙ ap (slots_right n) (take-append-drop (13 * n) slots)

-- the first slot of a list of slots, and the rest
module _ (slots slot rest : List ℕ) (next : slots ≡ slot ++ rest) (whole : length slot ≡ slot_length) where
  first_and_rest : slots_right (length slots / 13) slots ≡ (ltb (get_or slot 0 0) 2 && (leb (get_or slot 1 0) most_data && slots_right (length rest / 13) rest))
  unfolding slots_right
  first_and_rest =
      let one_more : length slots / 13 ≡ suc (length rest / 13) = omega (arith, ap length next, length-append slot rest) in
      let first : get_or (slot ++ rest) 0 0 ≡ get_or slot 0 0 = get_or-append slot rest 0 0 (omega arith) in
      let second : get_or (slot ++ rest) 1 0 ≡ get_or slot 1 0 = get_or-append slot rest 0 1 (omega arith) in
      ap₂ slots_right one_more next
      ∙ ap₂ (λ (x y : ℕ). ltb x 2 && (leb y most_data && slots_right (length rest / 13) (drop 13 (slot ++ rest)))) first second
      ∙ ap (λ (l : List ℕ). ltb (get_or slot 0 0) 2 && (leb (get_or slot 1 0) most_data && slots_right (length rest / 13) l)) (drop_at slot rest 13 whole)

  pub urgency_wrong : 1 < get_or slot 0 0 → slots_right (length slots / 13) slots ≡ false
  urgency_wrong h =
      first_and_rest
      ∙ ap (λ (b : Bool). b && (leb (get_or slot 1 0) most_data && slots_right (length rest / 13) rest)) (le-ltb (get_or slot 0 0) 2 (omega arith))

  pub data_wrong : most_data < get_or slot 1 0 → slots_right (length slots / 13) slots ≡ false
  data_wrong h =
      first_and_rest
      ∙ ap (λ (b : Bool). ltb (get_or slot 0 0) 2 && (b && slots_right (length rest / 13) rest)) (lt-leb (get_or slot 1 0) most_data h)
      ∙ by_test (ltb (get_or slot 0 0) 2) (λ t. ap (λ (b : Bool). b && false) t) (λ f. ap (λ (b : Bool). b && false) f)

  pub slot_passes : get_or slot 0 0 ≤ 1 → get_or slot 1 0 ≤ most_data → slots_right (length rest / 13) rest ≡ slots_right (length slots / 13) slots
  slot_passes low few =
      test_passes (lt-ltb (get_or slot 0 0) 2 (omega arith)) (test_passes (le-leb (get_or slot 1 0) most_data few) refl) ∙ sym first_and_rest

module _ (last count : ℕ) (slots : List ℕ) where
  not_right : (queue_right last count slots ≡ true → ⊥) → false ≡ queue_right last count slots
  not_right fails = by_test (queue_right last count slots) (λ t. absurd (fails t)) sym

  pub too_many : most_queued < count → false ≡ queue_right last count slots
  unfolding queue_right
  too_many h = not_right (λ t. true_not_false (both_first (leb count most_queued) (leb last count && slots_right count slots) t) (lt-leb count most_queued h))

  pub last_over : count < last → false ≡ queue_right last count slots
  unfolding queue_right
  last_over h =
      not_right (λ t. true_not_false
      (both_first (leb last count) (slots_right count slots) (both_second (leb count most_queued) (leb last count && slots_right count slots) t)) (lt-leb last count h))

  pub slots_decide : {r : Bool} → count ≤ most_queued → last ≤ count → r ≡ slots_right count slots → r ≡ queue_right last count slots
  unfolding queue_right
  slots_decide few sent e = test_passes (le-leb count most_queued few) (test_passes (le-leb last count sent) e)

  -- what a right queue has
  pub queue_few : queue_right last count slots ≡ true → count ≤ most_queued
  unfolding queue_right
  queue_few t = leb-true count most_queued (both_first (leb count most_queued) (leb last count && slots_right count slots) t)

  pub queue_sent : queue_right last count slots ≡ true → last ≤ count
  unfolding queue_right
  queue_sent t = leb-true last count (both_first (leb last count) (slots_right count slots) (both_second (leb count most_queued) (leb last count && slots_right count slots) t))

  pub queue_slots : queue_right last count slots ≡ true → slots_right count slots ≡ true
  unfolding queue_right
  queue_slots t = both_second (leb last count) (slots_right count slots) (both_second (leb count most_queued) (leb last count && slots_right count slots) t)

-- ---- the first slots of a list

pub slots_same : (n : ℕ) (slots rest : List ℕ) → 13 * n ≤ length slots → slots_right n (take (13 * n) slots ++ rest) ≡ slots_right n slots
slots_same n slots rest h =
    let long : length (take (13 * n) slots) ≡ 13 * n = length-take-le (13 * n) slots h in
    slots_front n (take (13 * n) slots) rest (omega arith)
    ∙ sym (slots_front n (take (13 * n) slots) (drop (13 * n) slots) (omega arith))
    ∙ ap (slots_right n) (take-append-drop (13 * n) slots)

-- one slot more
pub slots_more : (n : ℕ) (slots : List ℕ) → slots_right n slots ≡ true → get_or (drop (13 * n) slots) 0 0 < 2 → get_or (drop (13 * n) slots) 1 0 ≤ most_data → slots_right (suc n) slots ≡ true
unfolding slots_right
slots_more zero slots right low few = both (lt-ltb (get_or slots 0 0) 2 low) (both (le-leb (get_or slots 1 0) most_data few) refl)
slots_more (suc n) slots right low few =
    let place : drop (13 * suc n) slots ≡ drop (13 * n) (drop 13 slots) = further n slots in
    let rest = both_second (ltb (get_or slots 0 0) 2) (leb (get_or slots 1 0) most_data && slots_right n (drop slot_length slots)) right in
    both (both_first (ltb (get_or slots 0 0) 2) (leb (get_or slots 1 0) most_data && slots_right n (drop slot_length slots)) right)
    (both (both_first (leb (get_or slots 1 0) most_data) (slots_right n (drop slot_length slots)) rest)
    (slots_more n (drop 13 slots) (both_second (leb (get_or slots 1 0) most_data) (slots_right n (drop slot_length slots)) rest)
    (omega (arith, ap (λ (l : List ℕ). get_or l 0 0) place, low)) (omega (arith, ap (λ (l : List ℕ). get_or l 1 0) place, few))))
