-- Laws of a test of each number below another.
-- Assumes nothing.
use mathlib.Core.Path.{◌≡◌, refl, sym}
use mathlib.Core.Bool.{Bool, true, false}
use mathlib.Core.Logic.{⊎_elim}
use Prim.Native.Nat.{ℕ, zero, suc, ◌<◌}
use native.Mathlib.Omega.{arith}
use mathlib.Core.Path.{subst}
use Rattle.lists.proofs.Cases.{by_test, true_not_false, both, both_first, both_second, same_or_not}
use Rattle.queues.specs.Queues.{each_below}

module _ (test : ℕ → Bool) where
  pub below_at : (n : ℕ) → each_below test n ≡ true → (i : ℕ) → i < n → test i ≡ true
  unfolding each_below
  below_at zero each i h = let z : ⊥ = omega arith in absurd z
  below_at (suc n) each i h =
      ⊎_elim (λ last. subst (λ (k : ℕ). test k ≡ true) (sym last) (both_first (test n) (each_below test n) each))
      (λ before. below_at n (both_second (test n) (each_below test n) each) i (omega arith))
      (same_or_not i n)

  pub below_from : (n : ℕ) → ((i : ℕ) → i < n → test i ≡ true) → each_below test n ≡ true
  unfolding each_below
  below_from zero each = refl
  below_from (suc n) each = both (each n (omega arith)) (below_from n (λ i h. each i (omega arith)))

  -- one that fails decides
  pub below_fails : (n i : ℕ) → i < n → test i ≡ false → false ≡ each_below test n
  below_fails n i h fails = by_test (each_below test n) (λ each. true_not_false (below_at n each i h) fails) sym
