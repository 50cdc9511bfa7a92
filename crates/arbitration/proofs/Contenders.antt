-- Who contends: before the first window, the keys that fit the windows.
-- Assumes nothing.
use mathlib.Core.Path.{◌≡◌, refl, sym, ap, ◌∙◌}
use mathlib.Core.Bool.{Bool, true, false}
use mathlib.Core.List.{List, [], ◌∷◌}
use Prim.Native.Nat.{ℕ, zero, suc, ◌+◌, ◌*◌, ◌/◌, ◌^◌, ◌≤◌, ◌<◌}
use native.Mathlib.Nat.{div-eq_of_lt, div-lt_iff_lt-mul}
use native.Mathlib.Omega.{arith}
use lib.Dec.{ltb}
use lib.ListN.{length, get_or}
use lib.Pow.{pow_pos, pow_mono}
use borrow.Author.Tests.{ltb-true, ltb-false, lt-ltb, eq-eqb, ne_eqb}
use Rattle.lists.specs.Choice.{pick}
use Rattle.lists.specs.Tests.{any, keep, position}
use Rattle.arbitration.specs.Contest.{zero_in, dominant, after, remaining, dominant_windows, winner, fits, contending, decided}
use Rattle.arbitration.specs.Prefix.{starts, within, decided_within}
use Rattle.arbitration.specs.Smallest.{zero_bits}
use Rattle.lists.proofs.Cases.{by_test, true_not_false, either_first}
use Rattle.lists.proofs.Tests.{keep_cong, keep_all, keep_none, any_here}
use Rattle.lists.proofs.Position.{position_nowhere}
use Rattle.arbitration.proofs.OneWindow.{same_decided}

-- a key that fits the windows has no bits above them
pub fits_is : (w key : ℕ) → starts w 0 key ≡ fits w key
fits_is w key =
    by_test (ltb key (2 ^ w))
    (λ e. eq-eqb (key / 2 ^ w) 0 (div-eq_of_lt (ltb-true key (2 ^ w) e)) ∙ sym e)
    (λ e. ne_eqb (key / 2 ^ w) 0 (λ none. let below : key < 1 * 2 ^ w = (div-lt_iff_lt-mul (pow_pos w)).0 (omega (arith, none)) in omega (arith, ltb-false key (2 ^ w) e)) ∙ sym e)

pub contending_is : (w : ℕ) (keys : List ℕ) → within w 0 keys ≡ contending w keys
contending_is w keys = keep_cong (fits_is w) keys

-- the contest from the first window on is the contest of all that contend
pub from_the_first : (w : ℕ) (keys : List ℕ) → decided_within w 0 0 keys ≡ decided w keys
unfolding decided_within decided
from_the_first w keys =
    let same = ap (winner w) (contending_is w keys) in
    same_decided (ap (λ (k : ℕ). position k keys) same) same (omega (arith, ap (dominant_windows w) (contending_is w keys)))

-- where every key fits, all contend
pub all_contend : (w : ℕ) (keys : List ℕ) → ((i : ℕ) → i < length keys → get_or keys i 0 < 2 ^ w) → contending w keys ≡ keys
all_contend w keys below = keep_all (fits w) keys (λ i h. lt-ltb (get_or keys i 0) (2 ^ w) (below i h))

-- .. and somebody does, unless there is no key. There may be more windows than the keys have bits.
pub all_fit : (w bits : ℕ) (keys : List ℕ) → bits ≤ w → ((i : ℕ) → i < length keys → get_or keys i 0 < 2 ^ bits) → ltb 0 (length keys) ≡ any (fits w) keys
unfolding any
all_fit w bits [] longer below = refl
all_fit w bits (key ∷ keys) longer below =
    let first : key < 2 ^ bits = below 0 (omega arith) in
    lt-ltb 0 (suc (length keys)) (omega arith) ∙ either_first _ (lt-ltb key (2 ^ w) (omega (arith, first, pow_mono longer)))

-- a window counts for at most one
at_most_one : (b : Bool) (n w : ℕ) → n ≤ w → pick b 1 0 + n ≤ suc w
at_most_one true n w h = omega arith
at_most_one false n w h = omega arith

-- at most every window is dominant
pub dominant_le : (w : ℕ) (keys : List ℕ) → dominant_windows w keys ≤ w
unfolding dominant_windows
dominant_le zero keys = omega arith
dominant_le (suc w) keys = at_most_one (dominant w keys) (dominant_windows w (after w keys)) w (dominant_le w (after w keys))

-- .. and at most every bit of a key is 0
pub zeros_le : (w key : ℕ) → zero_bits w key ≤ w
unfolding zero_bits
zeros_le zero key = omega arith
zeros_le (suc w) key = at_most_one (zero_in w key) (zero_bits w key) w (zeros_le w key)

pub decided_le : (w : ℕ) (keys : List ℕ) → (decided w keys).dominant ≤ w
unfolding decided
decided_le w keys = dominant_le w (contending w keys)

-- ---- where nobody contends

nobody_remains : (w : ℕ) → remaining w [] ≡ []
unfolding remaining any keep
nobody_remains zero = refl
nobody_remains (suc w) = nobody_remains w

nobody_dominant : (w : ℕ) → dominant_windows w [] ≡ 0
unfolding dominant_windows any keep
nobody_dominant zero = refl
nobody_dominant (suc w) = omega (arith, nobody_dominant w)

-- a key of 0 would contend
pub nobody_decided : (w : ℕ) (keys : List ℕ) → any (fits w) keys ≡ false → record { place = length keys; key = 0; dominant = 0 } ≡ decided w keys
unfolding decided winner
nobody_decided w keys none =
    let nobody : contending w keys ≡ [] = keep_none (fits w) keys none in
    let key_is : winner w (contending w keys) ≡ 0 = ap (winner w) nobody ∙ ap (λ (l : List ℕ). get_or l 0 0) (nobody_remains w) in
    let nowhere : position 0 keys ≡ length keys = position_nowhere 0 keys (λ i h zero_there. true_not_false (any_here (fits w) keys i h (lt-ltb (get_or keys i 0) (2 ^ w) (omega (arith, zero_there, pow_pos w)))) none) in
    same_decided (sym (ap (λ (k : ℕ). position k keys) key_is ∙ nowhere)) (sym key_is) (sym (ap (dominant_windows w) nobody ∙ nobody_dominant w))
