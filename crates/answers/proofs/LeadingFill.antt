-- Laws of the FF before an answer: how many there are, which of them a reader passes over, and the walk of the code over them.
-- Assumes nothing.
use Rattle.std.specs.Prelude.{Result, Ok, Err}
use Rattle.refusal.specs.declared.Refusal.{Refusal}
use mathlib.Core.Path.{◌≡◌, refl, ap, ap₂, ◌∙◌}
use mathlib.Core.Bool.{Bool, true, false}
use mathlib.Core.List.{List, [], ◌∷◌, ◌++◌}
use Prim.Native.Nat.{ℕ, zero, suc, ◌+◌, ◌≤◌, ◌<◌, min}
use native.Mathlib.Omega.{arith}
use lib.Dec.{eqb, leb}
use lib.ListN.{length, take, drop, replicate}
use borrow.Author.Tests.{eq-eqb, ne_eqb, eqb-true, eqb-false, leb-true, leb-false}
use Rattle.std.proofs.lemmas.List.Sums.{prefix_len-le-length}
use Rattle.lists.proofs.Cases.{pick_cases}
use Rattle.refusal.specs.Number.{fill_over, at_place}
use Rattle.answers.specs.Reading.{fill, leading_fill, most_fill, before_frame}

-- one FF more
pub fill_more : (b : ℕ) (bs : List ℕ) → b ≡ fill → leading_fill (b ∷ bs) ≡ suc (leading_fill bs)
unfolding leading_fill
fill_more b bs e = simp (eq-eqb b fill e) (omega arith)

-- another byte ends them
pub fill_ends : (b : ℕ) (bs : List ℕ) → (b ≡ fill → ⊥) → leading_fill (b ∷ bs) ≡ zero
unfolding leading_fill
fill_ends b bs ne = simp (ne_eqb b fill ne)

-- n FF before a byte that is none
pub fill_before : (n b : ℕ) (bs : List ℕ) → (b ≡ fill → ⊥) → leading_fill (replicate n fill ++ b ∷ bs) ≡ n
fill_before zero b bs ne = fill_ends b bs ne
fill_before (suc n) b bs ne = fill_more fill (replicate n fill ++ b ∷ bs) refl ∙ ap suc (fill_before n b bs ne)

-- n FF alone
pub fill_only : (n : ℕ) → leading_fill (replicate n fill) ≡ n
unfolding leading_fill
fill_only zero = refl
fill_only (suc n) = fill_more fill (replicate n fill) refl ∙ ap suc (fill_only n)

-- n FF before any bytes
pub fill_least : (n : ℕ) (bs : List ℕ) → n ≤ leading_fill (replicate n fill ++ bs)
fill_least zero bs = omega arith
fill_least (suc n) bs = omega (arith, fill_more fill (replicate n fill ++ bs) refl, fill_least n bs)

-- an input is its leading FF and what stands behind them
pub fill_split : (input : List ℕ) → input ≡ replicate (leading_fill input) fill ++ drop (leading_fill input) input
unfolding leading_fill
fill_split [] = refl
fill_split (b ∷ bs) = by (eqb b fill) refl (fill_split bs)
  where
    by : (t : Bool) → eqb b fill ≡ t → bs ≡ replicate (leading_fill bs) fill ++ drop (leading_fill bs) bs
        → b ∷ bs ≡ replicate (leading_fill (b ∷ bs)) fill ++ drop (leading_fill (b ∷ bs)) (b ∷ bs)
    by true e below = rw (fill_more b bs (eqb-true b fill e)) (ap₂ ◌∷◌ (eqb-true b fill e) below)
    by false e below = rw (fill_ends b bs (eqb-false b fill e)) refl

-- ---- what a reader passes over

-- what holds of it, from what holds of each case
pub by_before : (P : Result ℕ Refusal → Type 0) (input : List ℕ) → (leading_fill input ≤ most_fill → P (Ok (leading_fill input)))
    → (most_fill < leading_fill input → P (Err (at_place fill_over most_fill))) → P (before_frame input)
unfolding before_frame
by_before P input few many =
    pick_cases P (leb (leading_fill input) most_fill) (Ok (leading_fill input)) (Err (at_place fill_over most_fill))
    (λ t. few (leb-true (leading_fill input) most_fill t)) (λ t. many (leb-false (leading_fill input) most_fill t))

pub before_few : (input : List ℕ) (n : ℕ) → leading_fill input ≡ n → n ≤ most_fill → before_frame input ≡ Ok n
before_few input n is few =
    by_before (λ (s : Result ℕ Refusal). s ≡ Ok n) input (λ h. ap Ok is) (λ h. let z : ⊥ = omega (arith, is) in absurd z)

pub before_many : (input : List ℕ) → most_fill < leading_fill input → before_frame input ≡ Err (at_place fill_over most_fill)
before_many input many =
    by_before (λ (s : Result ℕ Refusal). s ≡ Err (at_place fill_over most_fill)) input (λ h. let z : ⊥ = omega arith in absurd z) (λ h. refl)

-- the FF among the first n bytes
pub front_fill : (n : ℕ) (input : List ℕ) → leading_fill (take n input) ≡ min n (leading_fill input)
unfolding leading_fill
front_fill zero input = omega arith
front_fill (suc n) [] = omega arith
front_fill (suc n) (b ∷ bs) = by (eqb b fill) refl (front_fill n bs)
  where
    by : (t : Bool) → eqb b fill ≡ t → leading_fill (take n bs) ≡ min n (leading_fill bs)
        → leading_fill (take (suc n) (b ∷ bs)) ≡ min (suc n) (leading_fill (b ∷ bs))
    by true e below = simp e (omega arith)
    by false e below = simp e (omega arith)

-- a walk that looks at no more bytes than there may be FF, and one more, passes over all FF or over one too many
module _ (input : List ℕ) (looked_at passed : ℕ) (bound : looked_at ≡ min (length input) (most_fill + 1))
    (walk : passed ≡ leading_fill (take looked_at input)) where
  passed_is : passed ≡ min (most_fill + 1) (leading_fill input)
  unfolding leading_fill
  passed_is = omega (arith, walk, front_fill looked_at input, prefix_len-le-length (λ b. eqb b fill) input)

  pub walk_few : passed ≤ most_fill → before_frame input ≡ Ok passed
  walk_few few = before_few input passed (omega (arith, passed_is)) few

  pub walk_many : most_fill < passed → before_frame input ≡ Err (at_place fill_over most_fill)
  walk_many many = before_many input (omega (arith, passed_is))
