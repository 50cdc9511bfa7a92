-- A message and its letter are read off each other; what the letter says of the length holds of the data.
-- Assumes nothing.
use mathlib.Core.Path.{◌≡◌, refl, sym, ap, ◌∙◌, subst}
use mathlib.Core.Bool.{Bool, true, false, ◌||◌}
use mathlib.Core.List.{List, [], ◌∷◌}
use Prim.Native.Nat.{ℕ, ◌+◌, ◌^◌, ◌≤◌, ◌<◌}
use native.Mathlib.Omega.{arith}
use lib.Dec.{eqb}
use lib.ListN.{length}
use borrow.Author.Tests.{eqb-true}
use Rattle.lists.specs.Choice.{pick}
use Rattle.lists.specs.Tests.{all}
use Rattle.lists.proofs.Cases.{true_not_false, pick_cases}
use Rattle.railbus.specs.Hex.{is_digit, digits, spelled}
use Rattle.railbus.specs.Layout.{short_letter, long_letter, letter_of, is_short, is_long, length_for, data_digits, DataRight}
use Rattle.railbus.specs.Reading.{short_for, long_for, message_for}
use Rattle.railbus.specs.declared.Short.{Short}
use Rattle.railbus.specs.declared.Short.TheVariants.{ReadRequest, Sync, NotAcknowledge}
use Rattle.railbus.specs.declared.Long.{Long}
use Rattle.railbus.specs.declared.Long.TheVariants.{WriteRequest, ReadAcknowledge, WriteAcknowledge, Special}
use Rattle.railbus.specs.declared.Message.{Message}
use Rattle.railbus.specs.declared.Message.TheVariants.{Bare, With}
use Rattle.railbus.proofs.Spelling.{spelled_digits, spelled_lt, digits_spelled}

-- ---- the letter of a message

short_is : (s : Short) → (is_short (short_letter s) ≡ true) × (short_for (short_letter s) ≡ s)
short_is ReadRequest = (refl, refl)
short_is Sync = (refl, refl)
short_is NotAcknowledge = (refl, refl)

long_is : (l : Long) → (is_short (long_letter l) ≡ false) × (is_long (long_letter l) ≡ true) × (long_for (long_letter l) ≡ l)
long_is WriteRequest = (refl, refl, refl)
long_is ReadAcknowledge = (refl, refl, refl)
long_is WriteAcknowledge = (refl, refl, refl)
long_is Special = (refl, refl, refl)

pub letter_taken : (m : Message) → (is_short (letter_of m) || is_long (letter_of m)) ≡ true
letter_taken (Bare s) = simp (short_is s).0
letter_taken (With l v) = simp ((long_is l).0, (long_is l).1)

pub letter_lt : (m : Message) → letter_of m < 256
letter_lt (Bare ReadRequest) = omega arith
letter_lt (Bare Sync) = omega arith
letter_lt (Bare NotAcknowledge) = omega arith
letter_lt (With WriteRequest v) = omega arith
letter_lt (With ReadAcknowledge v) = omega arith
letter_lt (With WriteAcknowledge v) = omega arith
letter_lt (With Special v) = omega arith

pub letter_length : (m : Message) → length (data_digits m) + 9 ≡ length_for (letter_of m)
unfolding digits
letter_length (Bare s) = ap (λ (t : Bool). pick t 9 17) (sym (short_is s).0)
letter_length (With l v) = ap (λ (t : Bool). pick t 9 17) (sym (long_is l).0)

pub message_back : (m : Message) → DataRight m → message_for (letter_of m) (spelled (data_digits m)) ≡ m
message_back (Bare s) right = simp ((short_is s).0, (short_is s).1)
message_back (With l v) right = simp ((long_is l).0, (long_is l).2, spelled_digits 8 v right)

-- ---- the message of a letter

pub letter_least : (letter : ℕ) → 9 ≤ length_for letter
letter_least letter = pick_cases (λ (n : ℕ). 9 ≤ n) (is_short letter) 9 17 (λ t. omega arith) (λ t. omega arith)

short_letter_lem : (letter : ℕ) → is_short letter ≡ true → short_letter (short_for letter) ≡ letter
short_letter_lem letter is = by (eqb letter 0x52) refl (eqb letter 0x53) refl (eqb letter 0x4E) refl is
  where
    by : (a : Bool) → eqb letter 0x52 ≡ a → (b : Bool) → eqb letter 0x53 ≡ b → (c : Bool) → eqb letter 0x4E ≡ c → (a || (b || c)) ≡ true
        → short_letter (pick a ReadRequest (pick b Sync NotAcknowledge)) ≡ letter
    by true a b is_b c is_c is = sym (eqb-true letter 0x52 a)
    by false a true b c is_c is = sym (eqb-true letter 0x53 b)
    by false a false b true c is = sym (eqb-true letter 0x4E c)
    by false a false b false c is = true_not_false is refl

long_letter_lem : (letter : ℕ) → is_long letter ≡ true → long_letter (long_for letter) ≡ letter
long_letter_lem letter is = by (eqb letter 0x57) refl (eqb letter 0x4B) refl (eqb letter 0x49) refl (eqb letter 0x6E) refl is
  where
    by : (a : Bool) → eqb letter 0x57 ≡ a → (b : Bool) → eqb letter 0x4B ≡ b → (c : Bool) → eqb letter 0x49 ≡ c → (d : Bool) → eqb letter 0x6E ≡ d
        → (a || (b || (c || d))) ≡ true → long_letter (pick a WriteRequest (pick b ReadAcknowledge (pick c WriteAcknowledge Special))) ≡ letter
    by true a b is_b c is_c d is_d is = sym (eqb-true letter 0x57 a)
    by false a true b c is_c d is_d is = sym (eqb-true letter 0x4B b)
    by false a false b true c d is_d is = sym (eqb-true letter 0x49 c)
    by false a false b false c true d is = sym (eqb-true letter 0x6E d)
    by false a false b false c false d is = true_not_false is refl

pub letter_back : (letter v : ℕ) → (is_short letter || is_long letter) ≡ true → letter_of (message_for letter v) ≡ letter
letter_back letter v takes = by (is_short letter) refl takes
  where
    by : (t : Bool) → is_short letter ≡ t → (t || is_long letter) ≡ true → letter_of (pick t (Bare (short_for letter)) (With (long_for letter) v)) ≡ letter
    by true is takes = short_letter_lem letter is
    by false is takes = long_letter_lem letter takes

-- data of the letter's length are the digits of the number that they spell, and that fits
pub data_back : (letter : ℕ) (cs : List ℕ) → length cs + 9 ≡ length_for letter → all is_digit cs ≡ true
    → (data_digits (message_for letter (spelled cs)) ≡ cs) × DataRight (message_for letter (spelled cs))
data_back letter cs long each = by (is_short letter) long
  where
    none : (l : List ℕ) → length l ≡ 0 → [] ≡ l
    none [] e = refl
    none (x ∷ xs) e = let z : ⊥ = omega arith in absurd z

    by : (t : Bool) → length cs + 9 ≡ pick t 9 17
        → (data_digits (pick t (Bare (short_for letter)) (With (long_for letter) (spelled cs))) ≡ cs) × DataRight (pick t (Bare (short_for letter)) (With (long_for letter) (spelled cs)))
    by true long = (none cs (omega arith), tt)
    by false long =
        let eight : 8 ≡ length cs = omega arith in (
          ap (λ (n : ℕ). digits n (spelled cs)) eight ∙ digits_spelled 0 cs each,
          subst (λ (n : ℕ). spelled cs < 16 ^ n) (sym eight) (spelled_lt cs each),
        )
