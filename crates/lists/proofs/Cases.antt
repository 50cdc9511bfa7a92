-- Cases of a test: of a number against another, and of a choice by a test.
-- Assumes nothing.
use mathlib.Core.Path.{◌≡◌, refl, sym, ap, ◌∙◌}
use mathlib.Core.Bool.{Bool, true, false, ◌&&◌, ◌||◌}
use mathlib.Core.Logic.{◌⊎◌, inl, inr, ⊎_elim}
use Prim.Native.Nat.{ℕ, ◌≤◌, ◌<◌}
use native.Mathlib.Omega.{arith}
use lib.Dec.{eqb, leb}
use borrow.Author.Tests.{leb-true, leb-false, eqb-true, eqb-false}
use Rattle.lists.specs.Choice.{pick}

-- by the two values of a test, each with its equation
pub by_test : {P : Type 0} (b : Bool) → (b ≡ true → P) → (b ≡ false → P) → P
by_test true yes_case no_case = yes_case refl
by_test false yes_case no_case = no_case refl

pub true_not_false : {P : Type 0} {b : Bool} → b ≡ true → b ≡ false → P
true_not_false {P} {b} t f = let z : ◌≡◌ {A = Bool} true false = sym t ∙ f in let n : ◌≡◌ {A = ℕ} 0 1 = ap (λ (x : Bool). pick x 0 1) z in absurd (let e : ⊥ = omega arith in e)

pub true_or_false : (b : Bool) → (b ≡ true) ⊎ (b ≡ false)
true_or_false true = inl refl
true_or_false false = inr refl

pub le_or_lt : (a b : ℕ) → (a ≤ b) ⊎ (b < a)
le_or_lt a b = ⊎_elim (λ t. inl (leb-true a b t)) (λ t. inr (leb-false a b t)) (true_or_false (leb a b))

pub same_or_not : (a b : ℕ) → (a ≡ b) ⊎ (a ≡ b → ⊥)
same_or_not a b = ⊎_elim (λ t. inl (eqb-true a b t)) (λ t. inr (eqb-false a b t)) (true_or_false (eqb a b))

-- what holds of the choice, from what holds of each side under its test
pub pick_cases : {A : Type 0} (P : A → Type 0) (b : Bool) (x y : A) → (b ≡ true → P x) → (b ≡ false → P y) → P (pick b x y)
pick_cases P true x y f g = f refl
pick_cases P false x y f g = g refl

-- ---- two tests together

pub both_first : (a b : Bool) → (a && b) ≡ true → a ≡ true
both_first true b h = refl
both_first false b h = h

pub both_second : (a b : Bool) → (a && b) ≡ true → b ≡ true
both_second true b h = h
both_second false b h = true_not_false h refl

pub both : {a b : Bool} → a ≡ true → b ≡ true → (a && b) ≡ true
both {a} {b} p q = ap (λ (x : Bool). x && b) p ∙ q

-- one test after another: the next counts where this one passes
pub test_passes : {a b r : Bool} → a ≡ true → r ≡ b → r ≡ (a && b)
test_passes {a} {b} {r} p q = q ∙ ap (λ (x : Bool). x && b) (sym p)

-- either of two tests: the next counts only where this one fails
pub either_first : {a : Bool} (b : Bool) → a ≡ true → true ≡ (a || b)
either_first {a} b p = sym (ap (λ (x : Bool). x || b) p)

pub either_second : {a : Bool} (b : Bool) → a ≡ false → (a || b) ≡ b
either_second {a} b p = ap (λ (x : Bool). x || b) p
