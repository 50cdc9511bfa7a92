-- The three ways a guard comes out, and what is known behind it.
-- Assumes nothing.
use Rattle.std.specs.Prelude.{Result, Ok, Err}
use mathlib.Core.Path.{◌≡◌, sym, ap, ap₂, ◌∙◌}
use mathlib.Core.Bool.{Bool, true, false}
use Prim.Native.Nat.{ℕ, ◌≤◌, ◌<◌}
use native.Mathlib.Omega.{arith}
use lib.Dec.{ltb}
use borrow.Author.Tests.{lt-ltb, le-ltb, ltb-true, ltb-false}
use Rattle.lists.specs.Choice.{pick}
use Rattle.lists.proofs.Cases.{by_test}
use Rattle.refusal.specs.Number.{output_short, table_not_valid, at_place}
use Rattle.refusal.specs.declared.Refusal.{Refusal}
use Rattle.guard.specs.Guard.{guard}

-- what a guard over the room and the validity that were worked out came to
pub guard_of : (needed room room' : ℕ) (ok ok' : Bool) (worked came : Result (Unit {0}) Refusal) → worked ≡ guard needed room ok → room ≡ room' → ok ≡ ok' → worked ≡ came → guard needed room' ok' ≡ came
guard_of needed room room' ok ok' worked came e r o c = sym (e ∙ ap₂ (guard needed) r o) ∙ c

module _ (needed room : ℕ) (ok : Bool) where
  pub guard_short : room < needed → guard needed room ok ≡ Err (at_place output_short 0)
  unfolding guard
  guard_short h = ap (λ (b : Bool). pick b (Err (at_place output_short 0)) (pick ok (Ok tt) (Err (at_place table_not_valid 0)))) (lt-ltb room needed h)

  enough : needed ≤ room → guard needed room ok ≡ pick ok (Ok tt) (Err (at_place table_not_valid 0))
  unfolding guard
  enough h = ap (λ (b : Bool). pick b (Err (at_place output_short 0)) (pick ok (Ok tt) (Err (at_place table_not_valid 0)))) (le-ltb room needed h)

  pub guard_not_valid : needed ≤ room → ok ≡ false → guard needed room ok ≡ Err (at_place table_not_valid 0)
  guard_not_valid h v = enough h ∙ ap (λ (b : Bool). pick b (Ok tt) (Err (at_place table_not_valid 0))) v

  pub guard_passes : needed ≤ room → ok ≡ true → guard needed room ok ≡ (Ok tt)
  guard_passes h v = enough h ∙ ap (λ (b : Bool). pick b (Ok tt) (Err (at_place table_not_valid 0))) v

  not_passed : {P : Type 0} (why : Refusal) → guard needed room ok ≡ (Ok tt) → guard needed room ok ≡ Err why → P
  not_passed why p q = let z : ◌≡◌ {A = ℕ} 0 1 = cc in absurd (let e : ⊥ = omega arith in e)

  -- what is known behind the guard
  pub guard_room : guard needed room ok ≡ (Ok tt) → needed ≤ room
  guard_room p = by_test (ltb room needed) (λ e. not_passed (at_place output_short 0) p (guard_short (ltb-true room needed e))) (λ e. ltb-false room needed e)

  pub guard_valid : guard needed room ok ≡ (Ok tt) → ok ≡ true
  guard_valid p = by_test ok (λ e. e) (λ e. not_passed (at_place table_not_valid 0) p (guard_not_valid (guard_room p) e))
