-- The library's own words for numbers that pass a test, and those of this crate: they ask and count alike.
-- Assumes nothing.
use Rattle.std.proofs.Common.{◌≡◌, ◌∙◌, refl, ap, ◌≤◌, length, take, arith}
use lib.Seq.{take_all}
use Rattle.std.proofs.lemmas.List.Recursion.{is_count_by}
use Rattle.std.specs.Prelude.{ℕ, ◌+◌, Bool, true, false, ◌&&◌, ◌||◌, List, [], ◌∷◌, cond}
use Rattle.std.specs.List.{count_by, list_any, list_all}
use Rattle.lists.specs.Choice.{pick}
use Rattle.lists.specs.Tests.{any, all, how_many}

pub any_is : (f : ℕ → Bool) (xs : List ℕ) → list_any f xs ≡ any f xs
unfolding any
any_is f [] = refl
any_is f (x ∷ xs) = ap (λ (b : Bool). f x || b) (any_is f xs)

pub all_is : (f : ℕ → Bool) (xs : List ℕ) → list_all f xs ≡ all f xs
unfolding all
all_is f [] = refl
all_is f (x ∷ xs) = ap (λ (b : Bool). f x && b) (all_is f xs)

pub how_many_is : (f : ℕ → Bool) (xs : List ℕ) → how_many f xs ≡ count_by f xs
unfolding how_many
how_many_is f xs = is_count_by (how_many f) f refl (λ x rest. one (f x) (how_many f rest)) xs
  where
    one : (b : Bool) (n : ℕ) → pick b 1 0 + n ≡ cond b (1 + n) n
    one true n = omega arith
    one false n = omega arith

-- a loop that has read the whole list
pub all_read : (f : ℕ → Bool) (xs : List ℕ) (i : ℕ) {right : Bool} → length xs ≤ i → right ≡ list_all f (take i xs) → right ≡ all f xs
all_read f xs i end so_far = so_far ∙ ap (list_all f) (take_all i xs end) ∙ all_is f xs

pub any_read : (f : ℕ → Bool) (xs : List ℕ) (i : ℕ) {found : Bool} → length xs ≤ i → found ≡ list_any f (take i xs) → found ≡ any f xs
any_read f xs i end so_far = so_far ∙ ap (list_any f) (take_all i xs end) ∙ any_is f xs
