-- One window: the keys that start with a prefix either go on with a 0 behind it, where any key has one there, or all
-- have a 1. What that decides, one window after another, is what `over_windows` gives.
-- Assumes nothing.
use mathlib.Core.Path.{◌≡◌, sym, ap, ◌∙◌, subst}
use mathlib.Core.Bool.{Bool, true, false, ◌&&◌}
use mathlib.Core.List.{List}
use Prim.Native.Nat.{ℕ, suc, ◌+◌, ◌*◌, ◌/◌, ◌%◌, ◌^◌, ◌≤◌, ◌<◌}
use native.Mathlib.Nat.{div-one, pow-suc, mul-le-mul_left}
use native.Mathlib.Numerals.{add-one}
use native.Mathlib.Omega.{arith}
use lib.Dec.{eqb}
use lib.ListN.{get_or}
use lib.Pow.{shr-shr, pow_pos}
use borrow.Author.Tests.{eqb-true, eqb-false, eq-eqb, ne_eqb}
use Rattle.lists.specs.Choice.{pick}
use Rattle.lists.specs.Tests.{any, keep, position}
use Rattle.arbitration.specs.Contest.{zero_in, dominant, after, remaining, dominant_windows, winner}
use Rattle.arbitration.specs.Prefix.{starts, within, decided_within}
use Rattle.arbitration.specs.declared.Decided.{Decided}
use Rattle.lists.proofs.Cases.{by_test}
use Rattle.lists.proofs.Tests.{and_then, any_keep, keep_keep, any_cong, keep_cong, keep_agree, any_agree, keep_first}

-- the bits above one window more
pub above : (w key : ℕ) → key / 2 ^ suc w ≡ key / 2 ^ w / 2
above w key = ap (λ (e : ℕ). key / 2 ^ e) (sym (add-one w)) ∙ sym (shr-shr key w 1)

-- of a number x: x / 2 is p and its low bit 0, exactly where x is p * 2
low_zero : (x p : ℕ) → (eqb (x / 2) p && eqb (x % 2) 0) ≡ eqb x (p * 2)
low_zero x p =
    by_test (eqb (x / 2) p)
    (λ e. let h : x / 2 ≡ p = eqb-true (x / 2) p e in
    ap (λ (b : Bool). b && eqb (x % 2) 0) e
    ∙ by_test (eqb (x % 2) 0) (λ z. let l : x % 2 ≡ 0 = eqb-true (x % 2) 0 z in z ∙ sym (eq-eqb x (p * 2) (omega arith)))
    (λ z. z ∙ sym (ne_eqb x (p * 2) (λ same. eqb-false (x % 2) 0 z (omega arith)))))
    (λ e. ap (λ (b : Bool). b && eqb (x % 2) 0) e ∙ sym (ne_eqb x (p * 2) (λ same. eqb-false (x / 2) p e (omega arith))))

low_one : (x p : ℕ) → (eqb (x / 2) p && eqb (x % 2) 0) ≡ false → eqb (x / 2) p ≡ eqb x (p * 2 + 1)
low_one x p none =
    let other : x ≡ p * 2 → ⊥ = eqb-false x (p * 2) (sym (low_zero x p) ∙ none) in
    by_test (eqb (x / 2) p)
    (λ e. let h : x / 2 ≡ p = eqb-true (x / 2) p e in e ∙ sym (eq-eqb x (p * 2 + 1) (omega arith)))
    (λ e. e ∙ sym (ne_eqb x (p * 2 + 1) (λ same. eqb-false (x / 2) p e (omega arith))))

-- the same of a key and a window
starts_zero : (w p key : ℕ) → and_then (starts (suc w) p) (zero_in w) key ≡ starts w (p * 2) key
starts_zero w p key = ap (λ (x : ℕ). eqb x p && zero_in w key) (above w key) ∙ low_zero (key / 2 ^ w) p

starts_one : (w p key : ℕ) → starts w (p * 2) key ≡ false → starts (suc w) p key ≡ starts w (p * 2 + 1) key
starts_one w p key none =
    ap (λ (x : ℕ). eqb x p) (above w key) ∙ low_one (key / 2 ^ w) p (low_zero (key / 2 ^ w) p ∙ none)

module _ (w p : ℕ) (keys : List ℕ) where
  pub dominant_is : dominant w (within (suc w) p keys) ≡ any (starts w (p * 2)) keys
  dominant_is = any_keep (zero_in w) (starts (suc w) p) keys ∙ any_cong (starts_zero w p) keys

  pub after_zero : any (starts w (p * 2)) keys ≡ true → after w (within (suc w) p keys) ≡ within w (p * 2) keys
  after_zero yes_case =
      ap (λ (b : Bool). pick b (keep (zero_in w) (within (suc w) p keys)) (within (suc w) p keys)) (dominant_is ∙ yes_case)
      ∙ keep_keep (zero_in w) (starts (suc w) p) keys ∙ keep_cong (starts_zero w p) keys

  pub after_one : any (starts w (p * 2)) keys ≡ false → after w (within (suc w) p keys) ≡ within w (p * 2 + 1) keys
  after_one no_case =
      ap (λ (b : Bool). pick b (keep (zero_in w) (within (suc w) p keys)) (within (suc w) p keys)) (dominant_is ∙ no_case)
      ∙ keep_agree (starts (suc w) p) (starts w (p * 2 + 1)) (starts w (p * 2)) (starts_one w p) keys no_case

  -- who remains and how many windows are dominant, by one window
  pub remaining_zero : any (starts w (p * 2)) keys ≡ true → remaining (suc w) (within (suc w) p keys) ≡ remaining w (within w (p * 2) keys)
  unfolding remaining
  remaining_zero yes_case = ap (remaining w) (after_zero yes_case)

  pub remaining_one : any (starts w (p * 2)) keys ≡ false → remaining (suc w) (within (suc w) p keys) ≡ remaining w (within w (p * 2 + 1) keys)
  unfolding remaining
  remaining_one no_case = ap (remaining w) (after_one no_case)

  pub count_zero : any (starts w (p * 2)) keys ≡ true → dominant_windows (suc w) (within (suc w) p keys) ≡ 1 + dominant_windows w (within w (p * 2) keys)
  unfolding dominant_windows
  count_zero yes_case =
      ap (λ (b : Bool). pick b 1 0 + dominant_windows w (after w (within (suc w) p keys))) (dominant_is ∙ yes_case)
      ∙ ap (λ (l : List ℕ). 1 + dominant_windows w l) (after_zero yes_case)

  pub count_one : any (starts w (p * 2)) keys ≡ false → dominant_windows (suc w) (within (suc w) p keys) ≡ 0 + dominant_windows w (within w (p * 2 + 1) keys)
  unfolding dominant_windows
  count_one no_case =
      ap (λ (b : Bool). pick b 1 0 + dominant_windows w (after w (within (suc w) p keys))) (dominant_is ∙ no_case)
      ∙ ap (λ (l : List ℕ). 0 + dominant_windows w l) (after_one no_case)

  -- somebody is still in the contest after the window
  pub some_one : any (starts w (p * 2)) keys ≡ false → any (starts (suc w) p) keys ≡ any (starts w (p * 2 + 1)) keys
  some_one no_case = any_agree (starts (suc w) p) (starts w (p * 2 + 1)) (starts w (p * 2)) (starts_one w p) keys no_case

-- ---- what is decided of the keys that start with a prefix

-- equal parts decide the same
pub same_decided : {place_a place_b key_a key_b dominant_a dominant_b : ℕ} → place_a ≡ place_b → key_a ≡ key_b → dominant_a ≡ dominant_b
    → ◌≡◌ {A = Decided} (record { place = place_a; key = key_a; dominant = dominant_a }) (record { place = place_b; key = key_b; dominant = dominant_b })
same_decided p k d = cc

-- with no window to come, those in the contest are equal to the prefix
last_winner : (p : ℕ) (keys : List ℕ) → any (starts 0 p) keys ≡ true → p ≡ winner 0 (within 0 p keys)
unfolding winner remaining
last_winner p keys h =
    sym (sym (div-one (get_or (within 0 p keys) 0 0)) ∙ eqb-true (get_or (within 0 p keys) 0 0 / 2 ^ 0) p (keep_first (starts 0 p) keys h))

pub decides_last : (keys : List ℕ) (windows p before place : ℕ) → windows ≡ 0 → any (starts windows p) keys ≡ true → place ≡ position p keys
    → record { place = place; key = p; dominant = before } ≡ decided_within windows p before keys
unfolding decided_within dominant_windows
decides_last keys windows p before place none somebody there =
    let wins : p ≡ winner 0 (within 0 p keys) = last_winner p keys (subst (λ (n : ℕ). any (starts n p) keys ≡ true) none somebody) in
    subst (λ (n : ℕ). record { place = place; key = p; dominant = before } ≡ decided_within n p before keys) (sym none)
    (same_decided (there ∙ ap (λ (k : ℕ). position k keys) wins) wins (omega arith))

module _ (keys : List ℕ) (w windows p before : ℕ) (one_more : windows ≡ suc w) where
  pub decides_zero : any (starts w (p * 2)) keys ≡ true → decided_within w (p * 2) (before + 1) keys ≡ decided_within windows p before keys
  unfolding decided_within winner
  decides_zero found =
      let same = ap (λ (l : List ℕ). get_or l 0 0) (sym (remaining_zero w p keys found)) in
      subst (λ (n : ℕ). decided_within w (p * 2) (before + 1) keys ≡ decided_within n p before keys) (sym one_more)
      (same_decided (ap (λ (k : ℕ). position k keys) same) same (omega (arith, count_zero w p keys found)))

  pub decides_one : any (starts w (p * 2)) keys ≡ false → decided_within w (p * 2 + 1) before keys ≡ decided_within windows p before keys
  unfolding decided_within winner
  decides_one none =
      let same = ap (λ (l : List ℕ). get_or l 0 0) (sym (remaining_one w p keys none)) in
      subst (λ (n : ℕ). decided_within w (p * 2 + 1) before keys ≡ decided_within n p before keys) (sym one_more)
      (same_decided (ap (λ (k : ℕ). position k keys) same) same (omega (arith, count_one w p keys none)))

  -- where nobody has a 0, somebody has a 1
  pub goes_on : any (starts windows p) keys ≡ true → any (starts w (p * 2)) keys ≡ false → any (starts w (p * 2 + 1)) keys ≡ true
  goes_on somebody none = sym (some_one w p keys none) ∙ subst (λ (n : ℕ). any (starts n p) keys ≡ true) one_more somebody

  -- room for a prefix with the windows still to come behind it: it carries to both ways of going on
  pub room_on : (p + 1) * 2 ^ windows ≤ 2 ^ 32 → (p * 2 + 1 + 1) * 2 ^ w ≤ 2 ^ 32
  room_on h =
      let whole : (p + 1) * (2 ^ w * 2) ≤ 2 ^ 32 = subst (λ (x : ℕ). (p + 1) * x ≤ 2 ^ 32) (ap (λ (n : ℕ). 2 ^ n) one_more ∙ pow-suc 2 w) h in
      omega arith

pub prefix_fits : (w p : ℕ) → (p + 1) * 2 ^ w ≤ 2 ^ 32 → p < 2 ^ 32
prefix_fits w p h = omega (arith, mul-le-mul_left (p + 1) (pow_pos w))
