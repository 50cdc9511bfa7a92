-- Laws of counting: over two lists that are equally long, more tests that pass count for more; what a count of 0 and of 1
-- says.
-- Assumes nothing.
use mathlib.Core.Path.{◌≡◌, refl, sym, ap, ◌∙◌}
use mathlib.Core.Bool.{Bool, true, false, ◌||◌}
use mathlib.Core.List.{List, [], ◌∷◌}
use Prim.Native.Nat.{ℕ, zero, suc, ◌+◌, ◌-◌, ◌≤◌, ◌<◌}
use native.Mathlib.Omega.{arith}
use lib.Dec.{eqb, ltb}
use lib.ListN.{length, get_or, set, replicate, take, drop}
use lib.Seq.{drop-drop}
use borrow.Author.Tests.{ltb-true, ltb-false}
use Rattle.lists.specs.Choice.{pick}
use Rattle.lists.specs.Tests.{any, keep, how_many}
use Rattle.lists.proofs.Cases.{by_test, true_not_false}
use Rattle.lists.proofs.Tests.{any_here, keep_none}
use Rattle.lists.proofs.All.{whole_rest}

-- a mark of a scanned device
abbrev pub is_marked : ℕ → Bool
is_marked mark = eqb mark 1

one_le : (a b : Bool) (n m : ℕ) → (a ≡ true → b ≡ true) → n ≤ m → pick a 1 0 + n ≤ pick b 1 0 + m
one_le true true n m h le = omega arith
one_le true false n m h le = true_not_false (h refl) refl
one_le false true n m h le = omega arith
one_le false false n m h le = omega arith

one_lt : (a b : Bool) (n m : ℕ) → (a ≡ true → b ≡ true) → n < m → pick a 1 0 + n < pick b 1 0 + m
one_lt true true n m h lt = omega arith
one_lt true false n m h lt = true_not_false (h refl) refl
one_lt false true n m h lt = omega arith
one_lt false false n m h lt = omega arith

module _ (f g : ℕ → Bool) where
  pub how_many_le : (xs ys : List ℕ) → length xs ≡ length ys → ((i : ℕ) → i < length xs → f (get_or xs i 0) ≡ true → g (get_or ys i 0) ≡ true) → how_many f xs ≤ how_many g ys
  unfolding how_many
  how_many_le [] ys long each = omega arith
  how_many_le (x ∷ xs) [] long each = let z : ⊥ = omega arith in absurd z
  how_many_le (x ∷ xs) (y ∷ ys) long each =
      one_le (f x) (g y) (how_many f xs) (how_many g ys) (each 0 (omega arith)) (how_many_le xs ys (omega arith) (λ i h. each (suc i) (omega arith)))

  -- one that passes only the second
  pub how_many_lt : (xs ys : List ℕ) → length xs ≡ length ys → ((i : ℕ) → i < length xs → f (get_or xs i 0) ≡ true → g (get_or ys i 0) ≡ true)
      → (p : ℕ) → p < length xs → f (get_or xs p 0) ≡ false → g (get_or ys p 0) ≡ true → how_many f xs < how_many g ys
  unfolding how_many
  how_many_lt [] ys long each p h fails passes = let z : ⊥ = omega arith in absurd z
  how_many_lt (x ∷ xs) [] long each p h fails passes = let z : ⊥ = omega arith in absurd z
  how_many_lt (x ∷ xs) (y ∷ ys) long each zero h fails passes =
      let rest = how_many_le xs ys (omega arith) (λ i lt. each (suc i) (omega arith)) in
      let low : ◌≡◌ {A = ℕ} (pick (f x) 1 0) 0 = ap (λ (b : Bool). pick b 1 0) fails in
      let high : ◌≡◌ {A = ℕ} (pick (g y) 1 0) 1 = ap (λ (b : Bool). pick b 1 0) passes in
      omega (arith, rest, low, high)
  how_many_lt (x ∷ xs) (y ∷ ys) long each (suc p) h fails passes =
      one_lt (f x) (g y) (how_many f xs) (how_many g ys) (each 0 (omega arith))
      (how_many_lt xs ys (omega arith) (λ i lt. each (suc i) (omega arith)) p (omega arith) fails passes)

pub how_many_length : (f : ℕ → Bool) (xs : List ℕ) → how_many f xs ≤ length xs
unfolding how_many
how_many_length f [] = omega arith
how_many_length f (x ∷ xs) = go (f x) (how_many f xs) (how_many_length f xs)
  where
    go : (b : Bool) (n : ℕ) → n ≤ length xs → pick b 1 0 + n ≤ suc (length xs)
    go true n h = omega arith
    go false n h = omega arith

-- all of them, where each passes
pub how_many_all : (f : ℕ → Bool) (xs : List ℕ) → ((i : ℕ) → i < length xs → f (get_or xs i 0) ≡ true) → how_many f xs ≡ length xs
unfolding how_many
how_many_all f [] each = refl
how_many_all f (x ∷ xs) each =
    let first : ◌≡◌ {A = ℕ} (pick (f x) 1 0) 1 = ap (λ (b : Bool). pick b 1 0) (each 0 (omega arith)) in
    omega (arith, first, how_many_all f xs (λ i h. each (suc i) (omega arith)))

-- not all of them, where one fails
pub how_many_not_all : (f : ℕ → Bool) (xs : List ℕ) (p : ℕ) → p < length xs → f (get_or xs p 0) ≡ false → how_many f xs < length xs
unfolding how_many
how_many_not_all f [] p h fails = let z : ⊥ = omega arith in absurd z
how_many_not_all f (x ∷ xs) zero h fails =
    let low : ◌≡◌ {A = ℕ} (pick (f x) 1 0) 0 = ap (λ (b : Bool). pick b 1 0) fails in
    omega (arith, low, how_many_length f xs)
how_many_not_all f (x ∷ xs) (suc p) h fails = go (f x) (how_many f xs) (how_many_not_all f xs p (omega arith) fails)
  where
    go : (b : Bool) (n : ℕ) → n < length xs → pick b 1 0 + n < suc (length xs)
    go true n lt = omega arith
    go false n lt = omega arith

-- one mark more
pub how_many_set : (marks : List ℕ) (p : ℕ) → p < length marks → get_or marks p 0 ≡ 0 → how_many is_marked (set marks p 1) ≡ how_many is_marked marks + 1
unfolding how_many
how_many_set [] p h e = let z : ⊥ = omega arith in absurd z
how_many_set (m ∷ ms) zero h e =
    let before : ◌≡◌ {A = ℕ} (pick (is_marked m) 1 0) 0 = ap (λ (x : ℕ). pick (is_marked x) 1 0) e in
    omega (arith, before)
how_many_set (m ∷ ms) (suc p) h e = omega (arith, how_many_set ms p (omega arith) e)

pub how_many_cleared : (n : ℕ) → how_many is_marked (replicate n 0) ≡ 0
unfolding how_many
how_many_cleared zero = refl
how_many_cleared (suc n) = omega (arith, how_many_cleared n)

-- the count goes by parts
pub how_many_parts : (f : ℕ → Bool) (n : ℕ) (xs : List ℕ) → how_many f (take n xs) + how_many f (drop n xs) ≡ how_many f xs
unfolding how_many
how_many_parts f zero xs = omega arith
how_many_parts f (suc n) [] = refl
how_many_parts f (suc n) (x ∷ xs) = omega (arith, how_many_parts f n xs)

-- none passes where the count is 0, and some number where it is not
pub none_counted : (f : ℕ → Bool) (xs : List ℕ) → how_many f xs ≡ 0 → any f xs ≡ false
unfolding any how_many
none_counted f [] h = refl
none_counted f (x ∷ xs) h =
    by_test (f x)
    (λ e. let one : ◌≡◌ {A = ℕ} (pick (f x) 1 0) 1 = ap (λ (b : Bool). pick b 1 0) e in absurd (let z : ⊥ = omega (arith, one, h) in z))
    (λ e. ap (λ (b : Bool). b || any f xs) e ∙ none_counted f xs (omega (arith, h)))

pub some_counted : (f : ℕ → Bool) (xs : List ℕ) → 0 < how_many f xs → any f xs ≡ true
unfolding any how_many
some_counted f [] h = let z : ⊥ = omega arith in absurd z
some_counted f (x ∷ xs) h =
    by_test (f x) (λ e. ap (λ (b : Bool). b || any f xs) e)
    (λ e. let none : ◌≡◌ {A = ℕ} (pick (f x) 1 0) 0 = ap (λ (b : Bool). pick b 1 0) e in
    ap (λ (b : Bool). b || any f xs) e ∙ some_counted f xs (omega (arith, none, h)))

pub any_counted : (f : ℕ → Bool) (xs : List ℕ) → ltb 0 (how_many f xs) ≡ any f xs
any_counted f xs =
    by_test (ltb 0 (how_many f xs)) (λ e. e ∙ sym (some_counted f xs (ltb-true 0 (how_many f xs) e)))
    (λ e. let none : how_many f xs ≤ 0 = ltb-false 0 (how_many f xs) e in e ∙ sym (none_counted f xs (omega arith)))

-- only the one that passes is kept, where one does
pub keep_one : (f : ℕ → Bool) (xs : List ℕ) (i : ℕ) → i < length xs → f (get_or xs i 0) ≡ true → how_many f xs ≡ 1 → keep f xs ≡ get_or xs i 0 ∷ []
unfolding keep how_many
keep_one f [] i h passes one = let z : ⊥ = omega arith in absurd z
keep_one f (x ∷ xs) zero h passes one =
    let first : ◌≡◌ {A = ℕ} (pick (f x) 1 0) 1 = ap (λ (b : Bool). pick b 1 0) passes in
    ap (λ (b : Bool). pick b (x ∷ keep f xs) (keep f xs)) passes ∙ ap (λ (l : List ℕ). x ∷ l) (keep_none f xs (none_counted f xs (omega (arith, first, one))))
keep_one f (x ∷ xs) (suc i) h passes one =
    by_test (f x)
    (λ e. let first : ◌≡◌ {A = ℕ} (pick (f x) 1 0) 1 = ap (λ (b : Bool). pick b 1 0) e in
    true_not_false (any_here f xs i (omega arith) passes) (none_counted f xs (omega (arith, first, one))))
    (λ e. let first : ◌≡◌ {A = ℕ} (pick (f x) 1 0) 0 = ap (λ (b : Bool). pick b 1 0) e in
    ap (λ (b : Bool). pick b (x ∷ keep f xs) (keep f xs)) e ∙ keep_one f xs i (omega arith) passes (omega (arith, first, one)))

-- a count by parts that has reached i: the part from i to j is counted next
module _ (f : ℕ → Bool) (xs : List ℕ) (i j so_far : ℕ) (counted : so_far + how_many f (drop i xs) ≡ how_many f xs) where
  pub part_counted : (n : ℕ) → i ≤ j → n ≡ how_many f (take (j - i) (drop i xs)) → so_far + n + how_many f (drop j xs) ≡ how_many f xs
  part_counted n h e =
      let to : i + (j - i) ≡ j = omega arith in
      omega (arith, counted, e, how_many_parts f (j - i) (drop i xs), ap (how_many f) (drop-drop (j - i) i xs), ap (λ (k : ℕ). how_many f (drop k xs)) to)

  -- .. or all that are left
  pub rest_counted : (n : ℕ) → n ≡ how_many f (take (length xs - i) (drop i xs)) → so_far + n ≡ how_many f xs
  rest_counted n e = omega (arith, counted, e, ap (how_many f) (whole_rest xs i))
