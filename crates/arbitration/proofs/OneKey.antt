-- One key alone in the contest: it remains to the last window, and the dominant windows are those in which it has a 0. The
-- only key that passes a test stands where the first one does.
-- Assumes nothing.
use mathlib.Core.Path.{◌≡◌, refl, sym, ap, ◌∙◌, subst}
use mathlib.Core.Bool.{Bool, true, false, ◌||◌}
use mathlib.Core.List.{List, [], ◌∷◌}
use Prim.Native.Nat.{ℕ, zero, suc, ◌+◌, ◌≤◌, ◌<◌}
use native.Mathlib.Nat.{div-one}
use native.Mathlib.Omega.{arith}
use lib.Dec.{eqb, ltb}
use lib.ListN.{length, get_or}
use Rattle.std.proofs.lemmas.List.Recursion.{is_position_or_len}
use Rattle.std.proofs.lemmas.List.Sums.{prefix_len-le-length}
use Rattle.std.specs.Prelude.{cond, Some, None, not}
use Rattle.std.specs.List.{position as first_place, position_or_len}
use Rattle.std.specs.Option.{unwrap_or}
use borrow.Author.Tests.{eq-eqb, ne_eqb, ltb-false}
use Rattle.lists.specs.Choice.{pick}
use Rattle.lists.specs.Tests.{any, keep, how_many, position}
use Rattle.lists.proofs.Cases.{by_test, true_not_false, either_second}
use Rattle.lists.proofs.Counting.{some_counted, keep_one}
use Rattle.arbitration.specs.Contest.{zero_in, after, remaining, dominant_windows, winner}
use Rattle.arbitration.specs.Prefix.{starts, within, first_with, decided_within}
use Rattle.arbitration.proofs.OneWindow.{same_decided}

-- ---- the windows over one key

-- the key is dominant by itself where it has a 0, and stays either way
own_dominant : (w key : ℕ) → any (zero_in w) (key ∷ []) ≡ zero_in w key
unfolding any
own_dominant w key = by_test (zero_in w key) (λ e. ap (λ (b : Bool). b || false) e ∙ sym e) (λ e. either_second false e ∙ sym e)

after_alone : (w key : ℕ) → after w (key ∷ []) ≡ key ∷ []
unfolding keep
after_alone w key = by_test (zero_in w key) (go true) (go false)
  where
    go : (b : Bool) → zero_in w key ≡ b → after w (key ∷ []) ≡ key ∷ []
    go true e = ap (λ (b : Bool). pick b (keep (zero_in w) (key ∷ [])) (key ∷ [])) (own_dominant w key ∙ e) ∙ ap (λ (b : Bool). pick b (key ∷ []) []) e
    go false e = ap (λ (b : Bool). pick b (keep (zero_in w) (key ∷ [])) (key ∷ [])) (own_dominant w key ∙ e)

alone_remains : (w key : ℕ) → remaining w (key ∷ []) ≡ key ∷ []
unfolding remaining
alone_remains zero key = refl
alone_remains (suc w) key = ap (remaining w) (after_alone w key) ∙ alone_remains w key

-- its windows, one by one
pub no_window : (windows key before : ℕ) → windows ≡ 0 → before ≡ before + dominant_windows windows (key ∷ [])
unfolding dominant_windows
no_window windows key before none = subst (λ (n : ℕ). before ≡ before + dominant_windows n (key ∷ [])) (sym none) (omega arith)

module _ (w windows key before : ℕ) (one_more : windows ≡ suc w) where
  one_window : (b : Bool) → zero_in w key ≡ b → dominant_windows windows (key ∷ []) ≡ pick b 1 0 + dominant_windows w (key ∷ [])
  unfolding dominant_windows
  one_window b e =
      ap (λ (n : ℕ). dominant_windows n (key ∷ [])) one_more
      ∙ ap (λ (x : Bool). pick x 1 0 + dominant_windows w (after w (key ∷ []))) (own_dominant w key ∙ e)
      ∙ ap (λ (l : List ℕ). pick b 1 0 + dominant_windows w l) (after_alone w key)

  pub window_zero : zero_in w key ≡ true → before + 1 + dominant_windows w (key ∷ []) ≡ before + dominant_windows windows (key ∷ [])
  window_zero e = omega (arith, one_window true e)

  pub window_one : zero_in w key ≡ false → before + dominant_windows w (key ∷ []) ≡ before + dominant_windows windows (key ∷ [])
  window_one e = omega (arith, one_window false e)

-- ---- the first key that passes a test

-- as the library finds it
pub first_is : (f : ℕ → Bool) (xs : List ℕ) → first_with f xs ≡ unwrap_or (first_place f xs) (length xs)
unfolding first_with
first_is f xs =
    let place = position_or_len f xs in
    let found : first_with f xs ≡ place = is_position_or_len (first_with f) f refl (λ x rest. one (f x) (first_with f rest)) xs in
    let most : place ≤ length xs = prefix_len-le-length (λ x. not (f x)) xs in
    found ∙ by_test (ltb place (length xs))
    (λ e. sym (ap (λ (b : Bool). unwrap_or (cond b (Some place) None) (length xs)) e))
    (λ e. let end : place ≡ length xs = omega (arith, most, ltb-false place (length xs) e) in
    end ∙ sym (ap (λ (b : Bool). unwrap_or (cond b (Some place) None) (length xs)) e))
  where
    one : (b : Bool) (n : ℕ) → pick b 0 (suc n) ≡ cond b 0 (1 + n)
    one true n = refl
    one false n = omega arith

-- it passes
pub first_passes : (f : ℕ → Bool) (xs : List ℕ) → any f xs ≡ true → (first_with f xs < length xs) × (f (get_or xs (first_with f xs) 0) ≡ true)
unfolding any first_with
first_passes f [] some = true_not_false some refl
first_passes f (x ∷ xs) some =
    by_test (f x)
    (λ e. subst (λ (b : Bool). (pick b 0 (suc (first_with f xs)) < suc (length xs)) × (f (get_or (x ∷ xs) (pick b 0 (suc (first_with f xs))) 0) ≡ true)) (sym e) (omega arith, e))
    (λ e. let rest = first_passes f xs (sym (either_second _ e) ∙ some) in
    subst (λ (b : Bool). (pick b 0 (suc (first_with f xs)) < suc (length xs)) × (f (get_or (x ∷ xs) (pick b 0 (suc (first_with f xs))) 0) ≡ true)) (sym e) (omega (arith, rest.0), rest.1))

pub only_inside : (f : ℕ → Bool) (xs : List ℕ) (place : ℕ) → how_many f xs ≡ 1 → place ≡ first_with f xs → place < length xs
only_inside f xs place one there = omega (arith, there, (first_passes f xs (some_counted f xs (omega (arith, one)))).0)

-- .. and no equal one stands before it
pub first_stands : (f : ℕ → Bool) (xs : List ℕ) → any f xs ≡ true → position (get_or xs (first_with f xs) 0) xs ≡ first_with f xs
unfolding any first_with position
first_stands f [] some = refl
first_stands f (x ∷ xs) some =
    by_test (f x)
    (λ e. subst (λ (n : ℕ). position (get_or (x ∷ xs) n 0) (x ∷ xs) ≡ n) (sym (ap (λ (b : Bool). pick b 0 (suc (first_with f xs))) e))
    (ap (λ (b : Bool). pick b 0 (suc (position x xs))) (eq-eqb x x refl)))
    (λ e. let rest : any f xs ≡ true = sym (either_second _ e) ∙ some in
    let key = get_or xs (first_with f xs) 0 in
    subst (λ (n : ℕ). position (get_or (x ∷ xs) n 0) (x ∷ xs) ≡ n) (sym (ap (λ (b : Bool). pick b 0 (suc (first_with f xs))) e))
    (ap (λ (b : Bool). pick b 0 (suc (position key xs))) (ne_eqb x key (λ same. true_not_false (first_passes f xs rest).1 (sym (ap f same) ∙ e)))
    ∙ ap suc (first_stands f xs rest)))

-- with no window to come, the test is to be the prefix
pub first_equal : (windows p : ℕ) (keys : List ℕ) → windows ≡ 0 → first_with (starts windows p) keys ≡ position p keys
unfolding first_with position
first_equal windows p keys none = subst (λ (n : ℕ). first_with (starts n p) keys ≡ position p keys) (sym none) (each keys)
  where
    each : (keys : List ℕ) → first_with (starts 0 p) keys ≡ position p keys
    each [] = refl
    each (key ∷ keys) = ap (λ (k : ℕ). pick (eqb k p) 0 (suc (first_with (starts 0 p) keys))) (div-one key) ∙ ap (λ (n : ℕ). pick (eqb key p) 0 (suc n)) (each keys)

-- ---- what is decided where one key starts with the prefix

pub decides_alone : (keys : List ℕ) (w p before place key dominant : ℕ) → how_many (starts w p) keys ≡ 1 → place ≡ first_with (starts w p) keys
    → key ≡ get_or keys place 0 → dominant ≡ before + dominant_windows w (key ∷ [])
    → record { place = place; key = key; dominant = dominant } ≡ decided_within w p before keys
unfolding decided_within winner
decides_alone keys w p before place key dominant one there its_key windows =
    let some : any (starts w p) keys ≡ true = some_counted (starts w p) keys (omega (arith, one)) in
    let passes = first_passes (starts w p) keys some in
    let found : key ≡ get_or keys (first_with (starts w p) keys) 0 = its_key ∙ ap (λ (n : ℕ). get_or keys n 0) there in
    let only : within w p keys ≡ key ∷ [] = keep_one (starts w p) keys (first_with (starts w p) keys) passes.0 passes.1 one ∙ ap (λ (k : ℕ). k ∷ []) (sym found) in
    let wins : winner w (within w p keys) ≡ key = ap (λ (l : List ℕ). get_or (remaining w l) 0 0) only ∙ ap (λ (l : List ℕ). get_or l 0 0) (alone_remains w key) in
    let stands : position key keys ≡ place = ap (λ (k : ℕ). position k keys) found ∙ first_stands (starts w p) keys some ∙ sym there in
    same_decided (sym stands ∙ ap (λ (k : ℕ). position k keys) (sym wins)) (sym wins) (windows ∙ ap (λ (l : List ℕ). before + dominant_windows w l) (sym only))
