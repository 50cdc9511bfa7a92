-- The contest's law, over the number of windows: where the smallest key fits them, those that remain are exactly the ones
-- equal to it, and the dominant windows are its zero bits.
-- Assumes nothing.
use mathlib.Core.Path.{◌≡◌, refl, sym, ap, ◌∙◌, subst}
use mathlib.Core.Bool.{Bool, true, false}
use mathlib.Core.List.{List, [], ◌∷◌}
use Prim.Native.Nat.{ℕ, zero, suc, ◌+◌, ◌*◌, ◌/◌, ◌%◌, ◌^◌, ◌≤◌, ◌<◌}
use native.Mathlib.Nat.{div-one, div-eq_of_lt, le_of_lt}
use native.Mathlib.Omega.{arith}
use lib.Dec.{leb, eqb}
use lib.ListN.{length, get_or}
use lib.Pow.{shr_mono, pow_mono}
use borrow.Author.Tests.{leb-true, leb-false, eqb-true, eqb-false, eq-eqb, ne_eqb, le-ltb}
use Rattle.lists.specs.Choice.{pick}
use Rattle.lists.specs.Tests.{any, keep, position}
use Rattle.arbitration.specs.Contest.{zero_in, remaining, dominant_windows, winner, fits, contending, decided}
use Rattle.arbitration.specs.Prefix.{starts, within, decided_within}
use Rattle.arbitration.specs.Smallest.{Smallest, zero_bits, ContestLaw, NobodyLaw}
use Rattle.arbitration.specs.declared.Decided.{Decided}
use Rattle.lists.proofs.Cases.{by_test}
use Rattle.lists.proofs.Tests.{any_here, any_nowhere, keep_cong, keep_first}
use Rattle.lists.proofs.Position.{position_is}
use Rattle.arbitration.proofs.OneWindow.{above, remaining_zero, remaining_one, count_zero, count_one, same_decided}
use Rattle.arbitration.proofs.Contenders.{contending_is, from_the_first, nobody_decided}

-- m is at most each key that starts with p
Least : List ℕ → ℕ → ℕ → ℕ → Type 0
Least keys m w p = (j : ℕ) → j < length keys → get_or keys j 0 / 2 ^ w ≡ p → m ≤ get_or keys j 0

-- what the law says of the keys that start with p
Says : List ℕ → ℕ → ℕ → ℕ → Type 0
Says keys m w p = (remaining w (within w p keys) ≡ within 0 m keys) × (dominant_windows w (within w p keys) ≡ zero_bits w m)

module _ (keys : List ℕ) (m at : ℕ) (inside : at < length keys) (there : get_or keys at 0 ≡ m) where
  -- what starts with p and one bit more starts with p
  narrower : (w p bit : ℕ) → bit < 2 → Least keys m (suc w) p → Least keys m w (p * 2 + bit)
  unfolding Least
  narrower w p bit hb least j h e =
      let q : get_or keys j 0 / 2 ^ w ≡ p * 2 + bit = e in
      least j h (above w (get_or keys j 0) ∙ omega arith)

  zero_step : (w p : ℕ) → m / 2 ^ suc w ≡ p → zero_in w m ≡ true → (m / 2 ^ w ≡ p * 2 → Says keys m w (p * 2)) → Says keys m (suc w) p
  unfolding Says zero_bits
  zero_step w p here z law =
      let bit : m / 2 ^ w % 2 ≡ 0 = eqb-true (m / 2 ^ w % 2) 0 z in
      let half : m / 2 ^ w / 2 ≡ p = sym (above w m) ∙ here in
      let next : m / 2 ^ w ≡ p * 2 = omega arith in
      let found : any (starts w (p * 2)) keys ≡ true = any_here (starts w (p * 2)) keys at inside (eq-eqb (get_or keys at 0 / 2 ^ w) (p * 2) (ap (λ (k : ℕ). k / 2 ^ w) there ∙ next)) in (
        remaining_zero w p keys found ∙ (law next).0,
        count_zero w p keys found ∙ ap (λ (n : ℕ). 1 + n) (law next).1 ∙ ap (λ (b : Bool). pick b 1 0 + zero_bits w m) (sym z),
      )

  one_step : (w p : ℕ) → m / 2 ^ suc w ≡ p → zero_in w m ≡ false → Least keys m (suc w) p → (m / 2 ^ w ≡ p * 2 + 1 → Says keys m w (p * 2 + 1)) → Says keys m (suc w) p
  unfolding Says Least zero_bits
  one_step w p here z least law =
      let bit : m / 2 ^ w % 2 ≡ 0 → ⊥ = eqb-false (m / 2 ^ w % 2) 0 z in
      let half : m / 2 ^ w / 2 ≡ p = sym (above w m) ∙ here in
      let next : m / 2 ^ w ≡ p * 2 + 1 = omega arith in
      let none : any (starts w (p * 2)) keys ≡ false =
      any_nowhere (starts w (p * 2)) keys (λ j hj. ne_eqb (get_or keys j 0 / 2 ^ w) (p * 2) (λ e.
      let q : get_or keys j 0 / 2 ^ w ≡ p * 2 = e in
      let lower : m ≤ get_or keys j 0 = least j hj (above w (get_or keys j 0) ∙ omega arith) in
      omega (arith, shr_mono w lower))) in (
        remaining_one w p keys none ∙ (law next).0,
        count_one w p keys none ∙ ap (λ (n : ℕ). 0 + n) (law next).1 ∙ ap (λ (b : Bool). pick b 1 0 + zero_bits w m) (sym z),
      )

  law : (w p : ℕ) → m / 2 ^ w ≡ p → Least keys m w p → Says keys m w p
  unfolding Says Least remaining dominant_windows zero_bits
  law zero p here least = (ap (λ (x : ℕ). within 0 x keys) (sym here ∙ div-one m), refl)
  law (suc w) p here least =
      by_test (zero_in w m)
      (λ z. zero_step w p here z (λ next. law w (p * 2) next (λ j h e. narrower w p 0 (omega arith) least j h (e ∙ omega arith))))
      (λ z. one_step w p here z least (λ next. law w (p * 2 + 1) next (narrower w p 1 (omega arith) least)))

-- equal to m, either way round
same_test : (m key : ℕ) → starts 0 m key ≡ eqb m key
same_test m key =
    ap (λ (x : ℕ). eqb x m) (div-one key)
    ∙ by_test (eqb key m) (λ e. e ∙ sym (eq-eqb m key (sym (eqb-true key m e)))) (λ e. e ∙ sym (ne_eqb m key (λ h. eqb-false key m e (sym h))))

pub contest_law : ContestLaw
unfolding Least Says winner decided
contest_law w keys m s below =
    let got = law keys m s.place s.inside s.there w 0 (div-eq_of_lt below) (λ j h e. s.least j h) in
    let those = ap (remaining w) (sym (contending_is w keys)) ∙ got.0 ∙ keep_cong (same_test m) keys in
    let found = any_here (eqb m) keys s.place s.inside (eq-eqb m (get_or keys s.place 0) (sym s.there)) in
    let key_is : winner w (contending w keys) ≡ m = ap (λ (l : List ℕ). get_or l 0 0) those ∙ sym (eqb-true m (get_or (keep (eqb m) keys) 0 0) (keep_first (eqb m) keys found)) in
    let place_is = position_is m keys s.place s.inside s.there in
    record {
      those = those;
      decides = same_decided (ap (λ (k : ℕ). position k keys) key_is) key_is (ap (dominant_windows w) (sym (contending_is w keys)) ∙ got.1);
      inside = place_is.0;
      there = place_is.1;
    }

pub nobody_law : NobodyLaw
nobody_law w keys above = sym (nobody_decided w keys (any_nowhere (fits w) keys (λ i h. le-ltb (get_or keys i 0) (2 ^ w) (above i h))))

-- one key more: the smaller of it and the smallest of the others
join : (key : ℕ) (keys : List ℕ) (m : ℕ) → Smallest m keys → (l : ℕ) × Smallest l (key ∷ keys)
join key keys m s = by_test (leb key m) (λ e. first_case (leb-true key m e)) (λ e. rest_case (le_of_lt (leb-false key m e)))
  where
    first_case : key ≤ m → (l : ℕ) × Smallest l (key ∷ keys)
    first_case h = (key, record { place = 0; inside = omega arith; there = refl; least = each })
      where
        each : (i : ℕ) → i < length (key ∷ keys) → key ≤ get_or (key ∷ keys) i 0
        each zero lt = omega arith
        each (suc i) lt = omega (arith, s.least i (omega arith))

    rest_case : m ≤ key → (l : ℕ) × Smallest l (key ∷ keys)
    rest_case h = (m, record { place = suc s.place; inside = omega (arith, s.inside); there = s.there; least = each })
      where
        each : (i : ℕ) → i < length (key ∷ keys) → m ≤ get_or (key ∷ keys) i 0
        each zero lt = h
        each (suc i) lt = s.least i (omega arith)

only : (key i : ℕ) → i < length (key ∷ []) → key ≤ get_or (key ∷ []) i 0
only key zero h = omega arith
only key (suc i) h = let z : ⊥ = omega arith in absurd z

-- some key is the smallest, unless there is none
pub some_smallest : (keys : List ℕ) → 0 < length keys → (m : ℕ) × Smallest m keys
some_smallest [] h = let z : ⊥ = omega arith in absurd z
some_smallest (key ∷ []) h = (key, record { place = 0; inside = omega arith; there = refl; least = only key })
some_smallest (key ∷ (next ∷ keys)) h = let below = some_smallest (next ∷ keys) (omega arith) in join key (next ∷ keys) below.0 below.1

-- ---- more windows than a key has bits: in each of those above, it has a 0

zeros_above : (m w e : ℕ) → m < 2 ^ w → zero_bits (w + e) m ≡ e + zero_bits w m
unfolding zero_bits
zeros_above m w zero h = let same : w + 0 ≡ w = omega arith in omega (arith, ap (λ (n : ℕ). zero_bits n m) same)
zeros_above m w (suc e) h =
    let longer : w ≤ w + e = omega arith in
    let fitting : m < 2 ^ (w + e) = omega (arith, pow_mono longer) in
    let none : m / 2 ^ (w + e) ≡ 0 = div-eq_of_lt fitting in
    let bit : m / 2 ^ (w + e) % 2 ≡ 0 = omega arith in
    let one : ◌≡◌ {A = ℕ} (pick (zero_in (w + e) m) 1 0) 1 = ap (λ (b : Bool). pick b 1 0) (eq-eqb (m / 2 ^ (w + e) % 2) 0 bit) in
    let more : w + suc e ≡ suc (w + e) = omega arith in
    omega (arith, ap (λ (n : ℕ). zero_bits n m) more, one, zeros_above m w e h)

-- so those windows are dominant, and the contest is that over the windows below
pub decided_above : (w e windows : ℕ) (keys : List ℕ) → windows ≡ w + e → 0 < length keys → ((i : ℕ) → i < length keys → get_or keys i 0 < 2 ^ w)
    → decided_within w 0 e keys ≡ decided windows keys
unfolding decided_within decided
decided_above w e windows keys more somebody below =
    let found = some_smallest keys somebody in
    let m = found.0 in
    let s = found.1 in
    let fitting : m < 2 ^ w = subst (λ (k : ℕ). k < 2 ^ w) s.there (below s.place s.inside) in
    let longer : w ≤ w + e = omega arith in
    let wide : m < 2 ^ (w + e) = omega (arith, fitting, pow_mono longer) in
    let low = from_the_first w keys ∙ (contest_law w keys m s fitting).decides in
    let high = (contest_law (w + e) keys m s wide).decides in
    let zeros = zeros_above m w e fitting in
    subst (λ (n : ℕ). decided_within w 0 e keys ≡ decided n keys) (sym more)
    (same_decided (ap (λ (d : Decided). d.place) low ∙ sym (ap (λ (d : Decided). d.place) high)) (ap (λ (d : Decided). d.key) low ∙ sym (ap (λ (d : Decided). d.key) high))
    (omega (arith, ap (λ (d : Decided). d.dominant) low, ap (λ (d : Decided). d.dominant) high, zeros)))
