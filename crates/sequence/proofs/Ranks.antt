-- Laws of the rank: it orders the devices as their serials do, and each device has its own.
-- Assumes nothing.
use mathlib.Core.Path.{◌≡◌, refl, sym, ap, ◌∙◌}
use mathlib.Core.Bool.{Bool, true, false}
use mathlib.Core.List.{List, [], ◌∷◌}
use Prim.Native.Nat.{ℕ, suc, ◌≤◌, ◌<◌}
use native.Mathlib.Nat.{le_refl}
use native.Mathlib.Omega.{arith}
use lib.Dec.{ltb}
use lib.ListN.{length, get_or}
use borrow.Author.Tests.{ltb-true, ltb-false, lt-ltb, le-ltb}
use Rattle.lists.specs.Choice.{pick}
use Rattle.lists.proofs.Cases.{by_test}
use Rattle.table.specs.Table.{Table, devices}
use Rattle.lists.specs.Tests.{how_many}
use Rattle.turns.specs.Rank.{rank}
use Rattle.lists.proofs.Counting.{how_many_le, how_many_lt, how_many_not_all}
use Rattle.table.proofs.Meaning.{Tested, same_device}
use Rattle.sequence.specs.Sequence.{serial_at}

-- none, where each fails
pub count_none : (f : ℕ → Bool) (xs : List ℕ) → ((i : ℕ) → i < length xs → f (get_or xs i 0) ≡ false) → how_many f xs ≡ 0
unfolding how_many
count_none f [] each = refl
count_none f (x ∷ xs) each =
    let first : ◌≡◌ {A = ℕ} (pick (f x) 1 0) 0 = ap (λ (b : Bool). pick b 1 0) (each 0 (omega arith)) in
    omega (arith, first, count_none f xs (λ i h. each (suc i) (omega arith)))

-- two tests that hold together
pub same_test : (a b c d : ℕ) → (a < b → c < d) → (b ≤ a → d ≤ c) → ltb a b ≡ ltb c d
same_test a b c d yes_case no_case =
    by_test (ltb a b) (λ e. e ∙ sym (lt-ltb c d (yes_case (ltb-true a b e)))) (λ e. e ∙ sym (le-ltb c d (no_case (ltb-false a b e))))

-- below one serial is below a larger one
module _ (t : Table) where
  wider : (i j : ℕ) → serial_at t i ≤ serial_at t j → (k : ℕ) → k < devices t → ltb (serial_at t k) (serial_at t i) ≡ true → ltb (serial_at t k) (serial_at t j) ≡ true
  wider i j le k h e = lt-ltb (serial_at t k) (serial_at t j) (omega (arith, ltb-true (serial_at t k) (serial_at t i) e))

  rank_le : (i j : ℕ) → serial_at t i ≤ serial_at t j → rank t i ≤ rank t j
  unfolding rank
  rank_le i j le = how_many_le (λ s. ltb s (serial_at t i)) (λ s. ltb s (serial_at t j)) t.serials t.serials refl (wider i j le)

  rank_lt : (i j : ℕ) → i < devices t → serial_at t i < serial_at t j → rank t i < rank t j
  unfolding rank
  rank_lt i j h lt =
      how_many_lt (λ s. ltb s (serial_at t i)) (λ s. ltb s (serial_at t j)) t.serials t.serials refl (wider i j (omega arith)) i h
      (le-ltb (serial_at t i) (serial_at t i) (le_refl (serial_at t i))) (lt-ltb (serial_at t i) (serial_at t j) lt)

  pub rank_below : (i : ℕ) → i < devices t → rank t i < devices t
  unfolding rank
  rank_below i h = how_many_not_all (λ s. ltb s (serial_at t i)) t.serials i h (le-ltb (serial_at t i) (serial_at t i) (le_refl (serial_at t i)))

  -- a smaller rank is a smaller serial
  pub rank_serial : (i j : ℕ) → rank t i < rank t j → serial_at t i < serial_at t j
  rank_serial i j lt =
      by_test (ltb (serial_at t i) (serial_at t j)) (λ e. ltb-true (serial_at t i) (serial_at t j) e)
      (λ e. let z : ⊥ = omega (arith, rank_le j i (ltb-false (serial_at t i) (serial_at t j) e)) in absurd z)

  -- one rank is one device
  pub rank_same : Tested t → (i j : ℕ) → i < devices t → j < devices t → rank t i ≡ rank t j → i ≡ j
  rank_same g i j hi hj e =
      let low : serial_at t j ≤ serial_at t i =
      by_test (ltb (serial_at t i) (serial_at t j)) (λ l. let z : ⊥ = omega (arith, rank_lt i j hi (ltb-true (serial_at t i) (serial_at t j) l)) in absurd z)
      (λ l. ltb-false (serial_at t i) (serial_at t j) l) in
      let high : serial_at t i ≤ serial_at t j =
      by_test (ltb (serial_at t j) (serial_at t i)) (λ l. let z : ⊥ = omega (arith, rank_lt j i hj (ltb-true (serial_at t j) (serial_at t i) l)) in absurd z)
      (λ l. ltb-false (serial_at t j) (serial_at t i) l) in
      same_device t g i j hi hj (omega arith)
