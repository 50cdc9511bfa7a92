-- Laws of tests that each number passes, over any list: `all`, `different` and `same`.
-- Assumes nothing.
use mathlib.Core.Path.{◌≡◌, refl, sym, ap, ap₂, ◌∙◌}
use mathlib.Core.Bool.{Bool, true, false, not, ◌&&◌}
use mathlib.Core.List.{List, [], ◌∷◌}
use Prim.Native.Nat.{ℕ, zero, suc, ◌-◌, ◌<◌}
use native.Mathlib.Omega.{arith}
use lib.Dec.{eqb}
use lib.ListN.{length, get_or, drop, take, length-drop}
use lib.Seq.{take_all}
use borrow.Author.Tests.{eq-eqb, ne_eqb, eqb-true}
use Rattle.lists.specs.Tests.{any, all, different, same}
use Rattle.lists.proofs.Cases.{by_test, true_not_false, both, both_first, both_second}
use Rattle.lists.proofs.Tests.{any_here, any_nowhere}

-- a part of a list that goes to its end
pub whole_rest : (xs : List ℕ) (i : ℕ) → take (length xs - i) (drop i xs) ≡ drop i xs
whole_rest xs i = take_all (length xs - i) (drop i xs) (omega (arith, length-drop i xs))

-- ---- all

pub all_at : (f : ℕ → Bool) (xs : List ℕ) → all f xs ≡ true → (i : ℕ) → i < length xs → f (get_or xs i 0) ≡ true
unfolding all
all_at f [] each i h = let z : ⊥ = omega arith in absurd z
all_at f (x ∷ xs) each zero h =
    by_test (f x) (λ e. e) (λ e. true_not_false each (ap (λ (b : Bool). b && all f xs) e))
all_at f (x ∷ xs) each (suc i) h =
    by_test (f x) (λ e. all_at f xs (sym (ap (λ (b : Bool). b && all f xs) e) ∙ each) i (omega arith))
    (λ e. true_not_false each (ap (λ (b : Bool). b && all f xs) e))

pub all_from : (f : ℕ → Bool) (xs : List ℕ) → ((i : ℕ) → i < length xs → f (get_or xs i 0) ≡ true) → all f xs ≡ true
unfolding all
all_from f [] each = refl
all_from f (x ∷ xs) each =
    ap (λ (b : Bool). b && all f xs) (each 0 (omega arith)) ∙ all_from f xs (λ i h. each (suc i) (omega arith))

-- ---- different

head_alone : (x : ℕ) (xs : List ℕ) → different (x ∷ xs) ≡ true → any (eqb x) xs ≡ false
unfolding different
head_alone x xs each = by_test (any (eqb x) xs) (λ e. true_not_false each (ap (λ (b : Bool). not b && different xs) e)) (λ e. e)

rest_different : (x : ℕ) (xs : List ℕ) → different (x ∷ xs) ≡ true → different xs ≡ true
unfolding different
rest_different x xs each = sym (ap (λ (b : Bool). not b && different xs) (head_alone x xs each)) ∙ each

-- two places do not hold the same number
pub different_at : (xs : List ℕ) → different xs ≡ true → (i j : ℕ) → i < j → j < length xs → get_or xs i 0 ≡ get_or xs j 0 → ⊥
different_at [] each i j lt h same = omega arith
different_at (x ∷ xs) each i zero lt h same = omega arith
different_at (x ∷ xs) each zero (suc j) lt h same =
    true_not_false (any_here (eqb x) xs j (omega arith) (eq-eqb x (get_or xs j 0) same)) (head_alone x xs each)
different_at (x ∷ xs) each (suc i) (suc j) lt h same = different_at xs (rest_different x xs each) i j (omega arith) (omega arith) same

-- .. and where none do, all are different
pub different_from : (xs : List ℕ) → ((i j : ℕ) → i < j → j < length xs → get_or xs i 0 ≡ get_or xs j 0 → ⊥) → different xs ≡ true
unfolding different
different_from [] apart = refl
different_from (x ∷ xs) apart =
    ap (λ (b : Bool). not b && different xs) (any_nowhere (eqb x) xs (λ j h. ne_eqb x (get_or xs j 0) (apart 0 (suc j) (omega arith) (omega arith))))
    ∙ different_from xs (λ i j lt h. apart (suc i) (suc j) (omega arith) (omega arith))

-- ---- same

pub same_self : (xs : List ℕ) → same xs xs ≡ true
unfolding same
same_self [] = refl
same_self (x ∷ xs) = both (eq-eqb x x refl) (same_self xs)

pub same_is : (xs ys : List ℕ) → same xs ys ≡ true → xs ≡ ys
unfolding same
same_is [] [] e = refl
same_is [] (y ∷ ys) e = true_not_false e refl
same_is (x ∷ xs) [] e = true_not_false e refl
same_is (x ∷ xs) (y ∷ ys) e =
    ap₂ ◌∷◌ (eqb-true x y (both_first (eqb x y) (same xs ys) e)) (same_is xs ys (both_second (eqb x y) (same xs ys) e))
