-- Laws of hex digits: which characters are digits and what they stand for, where the first stands that is none, and the numbers that
-- pairs of digits spell.
-- Assumes nothing.
use mathlib.Core.Path.{◌≡◌, sym, ap, ◌∙◌, subst}
use mathlib.Core.Bool.{Bool, true, false, not, ◌&&◌}
use mathlib.Core.List.{List, [], ◌∷◌}
use Prim.Native.Nat.{ℕ, zero, suc, ◌+◌, ◌-◌, ◌*◌, ◌≤◌, ◌<◌}
use native.Mathlib.Numerals.{add-one}
use native.Mathlib.Nat.{add-zero, zero-add, add_assoc}
use native.Mathlib.Omega.{arith}
use lib.Dec.{leb}
use lib.ListN.{length, get_or, take, drop, drop_of_length-le, length-drop}
use lib.Seq.{drop-cons, get_or-take, get_or-drop, length-take-le}
use borrow.Author.Tests.{le-leb, lt-leb, leb-true, leb-false, le-ltb, ne_eqb, not-false}
use Rattle.lists.specs.Choice.{pick}
use Rattle.lists.specs.Tests.{all}
use Rattle.lists.proofs.Cases.{by_test, true_not_false}
use Rattle.lists.proofs.Filling.{drop_next}
use Rattle.lists.proofs.All.{all_at, all_from}
use Rattle.railbus.specs.Hex.{is_digit, digit_value, spelled_from, spelled}
use Rattle.railbus.specs.Reading.{due, no_digit_from}

-- ---- one character

module _ (c : ℕ) where
  pub below_digits : c < 0x30 → is_digit c ≡ false
  unfolding is_digit
  below_digits h = simp (lt-leb 0x30 c h, lt-leb 0x41 c (omega arith))

  pub decimal : 0x30 ≤ c → c ≤ 0x39 → is_digit c ≡ true
  unfolding is_digit
  decimal h k = simp (le-leb 0x30 c h, le-leb c 0x39 k)

  pub between_digits : 0x39 < c → c < 0x41 → is_digit c ≡ false
  unfolding is_digit
  between_digits h k = simp (le-leb 0x30 c (omega arith), lt-leb c 0x39 h, lt-leb 0x41 c k)

  pub letter_digit : 0x41 ≤ c → is_digit c ≡ leb c 0x46
  unfolding is_digit
  letter_digit h = simp (le-leb 0x30 c (omega arith), lt-leb c 0x39 (omega arith), le-leb 0x41 c h)

  module _ (is : is_digit c ≡ true) where
    pub digit_least : 0x30 ≤ c
    digit_least = by_test (leb 0x30 c) (λ t. leb-true 0x30 c t) (λ t. true_not_false is (below_digits (leb-false 0x30 c t)))

    pub digit_most : c ≤ 0x46
    digit_most = by_test (leb c 0x46) (λ t. leb-true c 0x46 t) (λ t. true_not_false is (letter_digit (omega (arith, leb-false c 0x46 t)) ∙ t))

    pub hex_least : 0x39 < c → 0x41 ≤ c
    hex_least h = by_test (leb 0x41 c) (λ t. leb-true 0x41 c t) (λ t. true_not_false is (between_digits h (leb-false 0x41 c t)))

-- ---- the first that is no digit where one is due

-- a walk over the characters up to i
module _ (input : List ℕ) (i : ℕ) (walked : no_digit_from 0 input ≡ no_digit_from i (drop i input)) where
  pub walk_on : i < length input → (due i && not (is_digit (get_or input i 0))) ≡ false → no_digit_from 0 input ≡ no_digit_from (i + 1) (drop (i + 1) input)
  unfolding no_digit_from
  walk_on h right =
      walked
      ∙ ap (no_digit_from i) (drop-cons input i 0 h)
      ∙ ap (λ (b : Bool). pick b i (no_digit_from (suc i) (drop (suc i) input))) right
      ∙ sym (ap (λ (n : ℕ). no_digit_from n (drop n input)) (add-one i))

  pub walk_ends : i < length input → (due i && not (is_digit (get_or input i 0))) ≡ true → no_digit_from 0 input ≡ i
  unfolding no_digit_from
  walk_ends h amiss =
      walked
      ∙ ap (no_digit_from i) (drop-cons input i 0 h)
      ∙ ap (λ (b : Bool). pick b i (no_digit_from (suc i) (drop (suc i) input))) amiss

  pub walk_over : length input ≤ i → no_digit_from 0 input ≡ i
  unfolding no_digit_from
  walk_over h = walked ∙ ap (no_digit_from i) (drop_of_length-le input h)

-- where there is none, a digit stands wherever one is due
module _ (at c : ℕ) (cs : List ℕ) (right : at + suc (length cs) ≤ no_digit_from at (c ∷ cs)) where
  head_right : (due at && not (is_digit c)) ≡ false
  unfolding no_digit_from
  head_right =
      by_test (due at && not (is_digit c))
      (λ amiss. let short = subst (λ (b : Bool). at + suc (length cs) ≤ pick b at (no_digit_from (suc at) cs)) amiss right in let z : ⊥ = omega arith in absurd z)
      (λ e. e)

  rest_right : suc at + length cs ≤ no_digit_from (suc at) cs
  unfolding no_digit_from
  rest_right =
      let more = subst (λ (b : Bool). at + suc (length cs) ≤ pick b at (no_digit_from (suc at) cs)) head_right right in
      omega arith

  head_digit : due at ≡ true → is_digit c ≡ true
  head_digit is = not-false (is_digit c) (sym (ap (λ (b : Bool). b && not (is_digit c)) is) ∙ head_right)

right_from : (at : ℕ) (cs : List ℕ) → at + length cs ≤ no_digit_from at cs → (i : ℕ) → i < length cs → due (at + i) ≡ true → is_digit (get_or cs i 0) ≡ true
right_from at [] right i h is = let z : ⊥ = omega arith in absurd z
right_from at (c ∷ cs) right zero h is = head_digit at c cs right (ap (λ (n : ℕ). due n) (sym (add-zero at)) ∙ is)
right_from at (c ∷ cs) right (suc i) h is =
    let e : suc at + i ≡ at + suc i = omega arith in
    right_from (suc at) cs (rest_right at c cs right) i (omega arith) (ap (λ (n : ℕ). due n) e ∙ is)

-- ---- a part of the input that is digits

module _ (input : List ℕ) (at n : ℕ) (within : at + n ≤ length input) where
  part_length : length (take n (drop at input)) ≡ n
  part_length = length-take-le n (drop at input) (omega (arith, length-drop at input))

  part_at : (i : ℕ) → i < n → get_or (take n (drop at input)) i 0 ≡ get_or input (at + i) 0
  part_at i h = get_or-take n (drop at input) i 0 h ∙ get_or-drop at input i 0

  pub digits_at : all is_digit (take n (drop at input)) ≡ true → (i : ℕ) → i < n → is_digit (get_or input (at + i) 0) ≡ true
  digits_at each i h =
      ap is_digit (sym (part_at i h)) ∙ all_at is_digit (take n (drop at input)) each i (omega (arith, part_length))

  pub digits_from : ((i : ℕ) → i < n → is_digit (get_or input (at + i) 0) ≡ true) → all is_digit (take n (drop at input)) ≡ true
  digits_from each =
      all_from is_digit (take n (drop at input)) (λ i h. let k : i < n = omega (arith, part_length) in ap is_digit (part_at i k) ∙ each i k)

  -- the digits of an input where none is wrong
  pub digits_due : length input ≤ no_digit_from 0 input → ((i : ℕ) → i < n → due (at + i) ≡ true) → all is_digit (take n (drop at input)) ≡ true
  digits_due right is =
      let whole : 0 + length input ≤ no_digit_from 0 input = omega arith in
      digits_from (λ i h. right_from 0 input whole (at + i) (omega arith) (ap (λ (n : ℕ). due n) (zero-add (at + i)) ∙ is i h))

-- two of more digits
pub digits_two : (input : List ℕ) (at n place : ℕ) → at + n ≤ length input → at ≤ place → place + 2 ≤ at + n → all is_digit (take n (drop at input)) ≡ true
    → all is_digit (take 2 (drop place input)) ≡ true
digits_two input at n place within from to each = digits_from input place 2 (omega arith) digit_in
  where
    digit_in : (i : ℕ) → i < 2 → is_digit (get_or input (place + i) 0) ≡ true
    digit_in i h =
        let e : place + i ≡ at + (place - at + i) = omega arith in
        ap (λ (m : ℕ). is_digit (get_or input m 0)) e ∙ digits_at input at n within each (place - at + i) (omega arith)

-- a digit is due from the register on
pub due_behind_lem : (place : ℕ) → 4 < place → due place ≡ true
due_behind_lem place h = simp (le-ltb place 2 (omega arith), ne_eqb place 4 (λ e. let z : ⊥ = omega arith in z))

-- two digits, where both are due
pub pair_due : (input : List ℕ) (at : ℕ) → length input ≤ no_digit_from 0 input → at + 2 ≤ length input → due at ≡ true → due (at + 1) ≡ true
    → all is_digit (take 2 (drop at input)) ≡ true
pair_due input at right within first second = digits_due input at 2 within right due_both
  where
    due_both : (i : ℕ) → i < 2 → due (at + i) ≡ true
    due_both zero h = ap (λ (n : ℕ). due n) (add-zero at) ∙ first
    due_both (suc zero) h = second
    due_both (suc (suc i)) h = let z : ⊥ = omega arith in absurd z

-- ---- what digits spell

module _ (input : List ℕ) (at : ℕ) (within : at + 2 ≤ length input) where
  two : drop at input ≡ get_or input at 0 ∷ get_or input (at + 1) 0 ∷ drop (at + 2) input
  two =
      drop_next input at (omega arith)
      ∙ ap (λ (l : List ℕ). get_or input at 0 ∷ l)
      (drop_next input (at + 1) (omega arith) ∙ ap (λ (n : ℕ). get_or input (at + 1) 0 ∷ drop n input) (add_assoc at 1 1))

  module _ (each : all is_digit (take 2 (drop at input)) ≡ true) where
    pub first_digit : is_digit (get_or input at 0) ≡ true
    first_digit = ap (λ (n : ℕ). is_digit (get_or input n 0)) (sym (add-zero at)) ∙ digits_at input at 2 within each 0 (omega arith)

    pub second_digit : is_digit (get_or input (at + 1) 0) ≡ true
    second_digit = digits_at input at 2 within each 1 (omega arith)

  pub spelled_pair : spelled (take 2 (drop at input)) ≡ digit_value (get_or input at 0) * 16 + digit_value (get_or input (at + 1) 0)
  unfolding spelled_from
  spelled_pair = ap (λ (l : List ℕ). spelled (take 2 l)) two ∙ omega arith

  -- a pair behind others, and more behind it
  pub spelled_more : (v n : ℕ) → spelled_from v (take (suc (suc n)) (drop at input)) ≡ spelled_from (v * 256 + spelled (take 2 (drop at input))) (take n (drop (at + 2) input))
  unfolding spelled_from
  spelled_more v n =
      let a = digit_value (get_or input at 0) in
      let b = digit_value (get_or input (at + 1) 0) in
      let sum : (v * 16 + a) * 16 + b ≡ v * 256 + (a * 16 + b) = omega arith in
      ap (λ (l : List ℕ). spelled_from v (take (suc (suc n)) l)) two
      ∙ ap (λ (w : ℕ). spelled_from w (take n (drop (at + 2) input))) (sum ∙ ap (λ (w : ℕ). v * 256 + w) (sym spelled_pair))

abbrev pair_at : List ℕ → ℕ → ℕ
pair_at input at = spelled (take 2 (drop at input))

pub spelled_word : (input : List ℕ) (at : ℕ) → at + 8 ≤ length input
    → spelled (take 8 (drop at input))
    ≡ (spelled (take 2 (drop at input)) * 256 + spelled (take 2 (drop (at + 2) input))) * 65536
    + (spelled (take 2 (drop (at + 4) input)) * 256 + spelled (take 2 (drop (at + 6) input)))
unfolding spelled_from
spelled_word input at within =
    let a = pair_at input at in
    let b = pair_at input (at + 2) in
    let p = pair_at input (at + 4) in
    let q = pair_at input (at + 6) in
    spelled_more input at (omega arith) 0 6
    ∙ spelled_more input (at + 2) (omega arith) (0 * 256 + a) 4
    ∙ ap (λ (n : ℕ). spelled_from ((0 * 256 + a) * 256 + b) (take 4 (drop n input))) (add_assoc at 2 2)
    ∙ spelled_more input (at + 4) (omega arith) ((0 * 256 + a) * 256 + b) 2
    ∙ ap (λ (n : ℕ). spelled_from (((0 * 256 + a) * 256 + b) * 256 + p) (take 2 (drop n input))) (add_assoc at 4 2)
    ∙ spelled_more input (at + 6) (omega arith) (((0 * 256 + a) * 256 + b) * 256 + p) 0
    ∙ omega arith
