-- Laws of `position`: where a number stands first.
-- Assumes nothing.
use mathlib.Core.Path.{◌≡◌, refl, sym, ap, ◌∙◌, subst}
use mathlib.Core.Bool.{Bool, true, false}
use mathlib.Core.List.{List, [], ◌∷◌}
use Prim.Native.Nat.{ℕ, zero, suc, ◌+◌, ◌≤◌, ◌<◌}
use native.Mathlib.Omega.{arith}
use lib.Dec.{eqb, ltb}
use lib.ListN.{length, get_or}
use Rattle.std.proofs.lemmas.List.Recursion.{is_position_or_len}
use Rattle.std.proofs.lemmas.List.Sums.{prefix_len-le-length}
use Rattle.std.specs.Prelude.{cond, Some, None, not}
use Rattle.std.specs.List.{position as first_place, position_or_len}
use Rattle.std.specs.Option.{unwrap_or}
use borrow.Author.Tests.{eqb-true, eq-eqb, ne_eqb, ltb-false}
use Rattle.lists.specs.Choice.{pick}
use Rattle.lists.specs.Tests.{position}
use Rattle.lists.proofs.Cases.{by_test}

-- as the library finds it
pub first_place_is : (x : ℕ) (xs : List ℕ) → position x xs ≡ unwrap_or (first_place (λ y. eqb y x) xs) (length xs)
unfolding position
first_place_is x xs =
    let place = position_or_len (λ y. eqb y x) xs in
    let found : position x xs ≡ place = is_position_or_len (position x) (λ y. eqb y x) refl (λ y rest. one (eqb y x) (position x rest)) xs in
    let most : place ≤ length xs = prefix_len-le-length (λ y. not (eqb y x)) xs in
    found ∙ by_test (ltb place (length xs))
    (λ e. sym (ap (λ (b : Bool). unwrap_or (cond b (Some place) None) (length xs)) e))
    (λ e. let end : place ≡ length xs = omega (arith, most, ltb-false place (length xs) e) in
    end ∙ sym (ap (λ (b : Bool). unwrap_or (cond b (Some place) None) (length xs)) e))
  where
    one : (b : Bool) (n : ℕ) → pick b 0 (suc n) ≡ cond b 0 (1 + n)
    one true n = refl
    one false n = omega arith

-- a number that stands in the list stands where it is found
pub position_is : (x : ℕ) (xs : List ℕ) (i : ℕ) → i < length xs → get_or xs i 0 ≡ x → (position x xs < length xs) × (get_or xs (position x xs) 0 ≡ x)
unfolding position
position_is x [] i h e = let z : ⊥ = omega arith in absurd z
position_is x (y ∷ ys) zero h e =
    subst (λ (b : Bool). (pick b 0 (suc (position x ys)) < suc (length ys)) × (get_or (y ∷ ys) (pick b 0 (suc (position x ys))) 0 ≡ x)) (sym (eq-eqb y x e)) (omega arith, e)
position_is x (y ∷ ys) (suc i) h e =
    let below = position_is x ys i (omega arith) e in
    by_test (eqb y x)
    (λ t. subst (λ (b : Bool). (pick b 0 (suc (position x ys)) < suc (length ys)) × (get_or (y ∷ ys) (pick b 0 (suc (position x ys))) 0 ≡ x)) (sym t) (omega arith, eqb-true y x t))
    (λ t. subst (λ (b : Bool). (pick b 0 (suc (position x ys)) < suc (length ys)) × (get_or (y ∷ ys) (pick b 0 (suc (position x ys))) 0 ≡ x)) (sym t) (omega (arith, below.0), below.1))

-- a number that stands nowhere
pub position_nowhere : (x : ℕ) (xs : List ℕ) → ((i : ℕ) → i < length xs → get_or xs i 0 ≡ x → ⊥) → position x xs ≡ length xs
unfolding position
position_nowhere x [] other = refl
position_nowhere x (y ∷ ys) other =
    ap (λ (b : Bool). pick b 0 (suc (position x ys))) (ne_eqb y x (other 0 (omega arith))) ∙ ap suc (position_nowhere x ys (λ i h. other (suc i) (omega arith)))

-- where a number is found within the list, it stands
pub position_holds : (x : ℕ) (xs : List ℕ) → position x xs < length xs → get_or xs (position x xs) 0 ≡ x
unfolding position
position_holds x [] h = let z : ⊥ = omega arith in absurd z
position_holds x (y ∷ ys) h =
    by_test (eqb y x)
    (λ here. subst (λ (b : Bool). get_or (y ∷ ys) (pick b 0 (suc (position x ys))) 0 ≡ x) (sym here) (eqb-true y x here))
    (λ later. let at : pick (eqb y x) 0 (suc (position x ys)) ≡ suc (position x ys) = ap (λ (b : Bool). pick b 0 (suc (position x ys))) later in
    subst (λ (b : Bool). get_or (y ∷ ys) (pick b 0 (suc (position x ys))) 0 ≡ x) (sym later) (position_holds x ys (omega (arith, at, h))))
