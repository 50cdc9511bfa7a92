-- A number and its digits are read off each other: one digit, and any number of them.
-- Assumes nothing.
use mathlib.Core.Path.{◌≡◌, refl, sym, ap, ap₂, ◌∙◌, subst}
use mathlib.Core.Bool.{true}
use mathlib.Core.List.{List, [], ◌∷◌}
use Prim.Native.Nat.{ℕ, zero, suc, ◌+◌, ◌-◌, ◌*◌, ◌/◌, ◌%◌, ◌^◌, ◌≤◌, ◌<◌}
use native.Mathlib.Nat.{one-le-pow, pow-succ', mod-lt, mod-eq_of_lt, add-mul, mul_assoc, add_assoc, zero-add}
use native.Mathlib.Omega.{arith}
use lib.Arith.{digits_lt, digits_div, mod-mul}
use lib.Dec.{leb, ltb}
use lib.ListN.{length}
use borrow.Author.Tests.{le-leb, lt-leb, leb-true, leb-false, lt-ltb, le-ltb, ltb-true, ltb-false}
use Rattle.lists.specs.Tests.{all}
use Rattle.lists.proofs.Cases.{by_test, both, both_first, both_second}
use Rattle.railbus.specs.Hex.{is_digit, digit_value, digit, digits, spelled_from, spelled}
use Rattle.railbus.proofs.Digits.{decimal, letter_digit, digit_least, digit_most, hex_least}

-- ---- one digit

-- the digit for a number, below ten and from ten on
module _ (v : ℕ) where
  pub low_digit : v < 10 → 0x30 + v ≡ digit v
  unfolding digit
  low_digit few = simp (lt-ltb v 10 few)

  pub high_digit : 10 ≤ v → 0x37 + v ≡ digit v
  unfolding digit
  high_digit many = simp (le-ltb v 10 many)

-- what a digit stands for, up to '9' and above it
module _ (c : ℕ) where
  low_value : c ≤ 0x39 → digit_value c ≡ c - 0x30
  unfolding digit_value
  low_value most = simp (le-leb c 0x39 most)

  high_value : 0x39 < c → digit_value c ≡ c - 0x37
  unfolding digit_value
  high_value more = simp (lt-leb c 0x39 more)

-- the digit for a number is a digit, and stands for it
pub digit_is : (v : ℕ) → v < 16 → (is_digit (digit v) ≡ true) × (digit_value (digit v) ≡ v)
digit_is v small = by_test (ltb v 10) (λ t. low (ltb-true v 10 t)) (λ t. high (ltb-false v 10 t))
  where
    low : v < 10 → (is_digit (digit v) ≡ true) × (digit_value (digit v) ≡ v)
    low few = (
      ap is_digit (sym (low_digit v few)) ∙ decimal (0x30 + v) (omega arith) (omega arith),
      ap digit_value (sym (low_digit v few)) ∙ low_value (0x30 + v) (omega arith) ∙ omega arith,
    )

    high : 10 ≤ v → (is_digit (digit v) ≡ true) × (digit_value (digit v) ≡ v)
    high many = (
      ap is_digit (sym (high_digit v many)) ∙ letter_digit (0x37 + v) (omega arith) ∙ le-leb (0x37 + v) 0x46 (omega arith),
      ap digit_value (sym (high_digit v many)) ∙ high_value (0x37 + v) (omega arith) ∙ omega arith,
    )

-- .. and the other way round
pub value_is : (c : ℕ) → is_digit c ≡ true → (digit_value c < 16) × (digit (digit_value c) ≡ c)
value_is c is = by_test (leb c 0x39) (λ t. low (leb-true c 0x39 t)) (λ t. high (leb-false c 0x39 t))
  where
    low : c ≤ 0x39 → (digit_value c < 16) × (digit (digit_value c) ≡ c)
    low most =
        let least = digit_least c is in
        (omega (arith, low_value c most), ap digit (low_value c most) ∙ sym (low_digit (c - 0x30) (omega arith)) ∙ omega arith)

    high : 0x39 < c → (digit_value c < 16) × (digit (digit_value c) ≡ c)
    high more =
        let least = hex_least c is more in
        let most = digit_most c is in
        (omega (arith, high_value c more), ap digit (high_value c more) ∙ sym (high_digit (c - 0x37) (omega arith)) ∙ omega arith)

-- ---- n digits

pub digits_all : (n v : ℕ) → all is_digit (digits n v) ≡ true
unfolding all digits
digits_all zero v = refl
digits_all (suc n) v = both (digit_is (v / 16 ^ n % 16) (mod-lt (v / 16 ^ n) (omega arith))).0 (digits_all n v)

power : (n : ℕ) → 0 < 16 ^ n
power n = one-le-pow n 16 (omega arith)

-- they spell the number, but for what is above them
spelled_on : (u n v : ℕ) → spelled_from u (digits n v) ≡ u * 16 ^ n + v % 16 ^ n
unfolding digits spelled_from
spelled_on u zero v = omega arith
spelled_on u (suc n) v =
    let m = 16 ^ n in
    let d = v / m % 16 in
    ap (λ (x : ℕ). spelled_from (u * 16 + x) (digits n v)) (digit_is d (mod-lt (v / m) (omega arith))).1
    ∙ spelled_on (u * 16 + d) n v
    ∙ ap (λ (x : ℕ). x + v % m) (add-mul (u * 16) d m ∙ ap (λ (x : ℕ). x + d * m) (mul_assoc u 16 m))
    ∙ add_assoc (u * (16 * m)) (d * m) (v % m)
    ∙ ap (λ (x : ℕ). u * (16 * m) + x) (sym (mod-mul v (omega arith) (power n)))
    ∙ ap (λ (x : ℕ). u * x + v % x) (sym (pow-succ' 16 n))

pub spelled_digits : (n v : ℕ) → v < 16 ^ n → spelled (digits n v) ≡ v
spelled_digits n v small = spelled_on 0 n v ∙ omega (arith, mod-eq_of_lt small)

-- what is spelled behind a number is that number above what is spelled
spelled_behind : (u : ℕ) (cs : List ℕ) → spelled_from u cs ≡ u * 16 ^ length cs + spelled cs
unfolding spelled_from
spelled_behind u [] = omega arith
spelled_behind u (c ∷ cs) =
    let m = 16 ^ length cs in
    let d = digit_value c in
    spelled_behind (u * 16 + d) cs
    ∙ ap (λ (x : ℕ). x + spelled cs) (add-mul (u * 16) d m ∙ ap (λ (x : ℕ). x + d * m) (mul_assoc u 16 m))
    ∙ add_assoc (u * (16 * m)) (d * m) (spelled cs)
    ∙ ap₂ (λ (x y : ℕ). u * x + y) (sym (pow-succ' 16 (length cs))) (sym (spelled_behind d cs) ∙ ap (λ (x : ℕ). spelled_from x cs) (sym (zero-add d)))

pub spelled_lt : (cs : List ℕ) → all is_digit cs ≡ true → spelled cs < 16 ^ length cs
unfolding all spelled_from
spelled_lt [] each = omega arith
spelled_lt (c ∷ cs) each =
    let m = 16 ^ length cs in
    let d = digit_value c in
    let is = value_is c (both_first (is_digit c) (all is_digit cs) each) in
    let rest = spelled_lt cs (both_second (is_digit c) (all is_digit cs) each) in
    subst (λ (x : ℕ). spelled_from (0 + d) cs < x) (sym (pow-succ' 16 (length cs)))
    (subst (λ (x : ℕ). x < 16 * m) (sym (ap (λ (x : ℕ). spelled_from x cs) (zero-add d) ∙ spelled_behind d cs)) (digits_lt is.0 rest))

-- digits are those of what they spell, whatever is above it
pub digits_spelled : (u : ℕ) (cs : List ℕ) → all is_digit cs ≡ true → digits (length cs) (spelled_from u cs) ≡ cs
unfolding all digits spelled_from
digits_spelled u [] each = refl
digits_spelled u (c ∷ cs) each =
    let m = 16 ^ length cs in
    let d = digit_value c in
    let v = spelled_from (u * 16 + d) cs in
    let is = value_is c (both_first (is_digit c) (all is_digit cs) each) in
    let rest = both_second (is_digit c) (all is_digit cs) each in
    let high : v / m ≡ u * 16 + d = ap (λ (x : ℕ). x / m) (spelled_behind (u * 16 + d) cs) ∙ digits_div (u * 16 + d) (spelled_lt cs rest) in
    let low : v / m % 16 ≡ d = omega (arith, is.0) in
    ap₂ ◌∷◌ (ap digit low ∙ is.1) (digits_spelled (u * 16 + d) cs rest)
