-- Numbers of a list that pass a test: whether one does, whether all do, which, how many, and where; and two lists that are
-- the same.
-- Assumes nothing.
use Rattle.std.specs.Prelude.{ℕ, zero, suc, ◌+◌, Bool, true, false, not, ◌&&◌, ◌||◌, List, [], ◌∷◌, eqb}
use Rattle.lists.specs.Choice.{pick}

-- whether some number passes
unfoldable pub any : (ℕ → Bool) → List ℕ → Bool
any test [] = false
any test (x ∷ xs) = test x || any test xs

-- whether each number passes
unfoldable pub all : (ℕ → Bool) → List ℕ → Bool
all test [] = true
all test (x ∷ xs) = test x && all test xs

-- those that pass, in their order
unfoldable pub keep : (ℕ → Bool) → List ℕ → List ℕ
keep test [] = []
keep test (x ∷ xs) = pick (test x) (x ∷ keep test xs) (keep test xs)

-- how many pass
unfoldable pub how_many : (ℕ → Bool) → List ℕ → ℕ
how_many test [] = 0
how_many test (x ∷ xs) = pick (test x) 1 0 + how_many test xs

-- where a number stands first; the length of the list where it does not stand in it
unfoldable pub position : ℕ → List ℕ → ℕ
position x [] = zero
position x (y ∷ ys) = pick (eqb y x) zero (suc (position x ys))

-- whether no number stands twice
unfoldable pub different : List ℕ → Bool
different [] = true
different (x ∷ xs) = not (any (eqb x) xs) && different xs

-- whether two lists are the same
unfoldable pub same : List ℕ → List ℕ → Bool
same [] [] = true
same [] (y ∷ ys) = false
same (x ∷ xs) [] = false
same (x ∷ xs) (y ∷ ys) = eqb x y && same xs ys
