-- Laws of `any` and `keep`, over any test.
-- Assumes nothing.
use mathlib.Core.Path.{◌≡◌, refl, sym, ap, ◌∙◌, subst, fun_ext}
use mathlib.Core.Bool.{Bool, true, false, ◌&&◌, ◌||◌}
use mathlib.Core.List.{List, [], ◌∷◌}
use Prim.Native.Nat.{ℕ, zero, suc, ◌<◌}
use native.Mathlib.Omega.{arith}
use lib.ListN.{length, get_or}
use Rattle.lists.specs.Choice.{pick}
use Rattle.lists.specs.Tests.{any, keep}
use Rattle.lists.proofs.Cases.{by_test, true_not_false}

-- a test that counts only where the first one passes
abbrev pub and_then : (ℕ → Bool) → (ℕ → Bool) → ℕ → Bool
and_then g f x = g x && f x

pub any_keep : (f g : ℕ → Bool) (xs : List ℕ) → any f (keep g xs) ≡ any (and_then g f) xs
unfolding any keep
any_keep f g [] = refl
any_keep f g (x ∷ xs) = go (g x) (any_keep f g xs)
  where
    go : (b : Bool) → any f (keep g xs) ≡ any (and_then g f) xs
        → any f (pick b (x ∷ keep g xs) (keep g xs)) ≡ ((b && f x) || any (and_then g f) xs)
    go true rest = ap (λ (r : Bool). f x || r) rest
    go false rest = rest

pub keep_keep : (f g : ℕ → Bool) (xs : List ℕ) → keep f (keep g xs) ≡ keep (and_then g f) xs
unfolding keep
keep_keep f g [] = refl
keep_keep f g (x ∷ xs) = go (g x) (keep_keep f g xs)
  where
    go : (b : Bool) → keep f (keep g xs) ≡ keep (and_then g f) xs
        → keep f (pick b (x ∷ keep g xs) (keep g xs)) ≡ pick (b && f x) (x ∷ keep (and_then g f) xs) (keep (and_then g f) xs)
    go true rest = ap (λ (l : List ℕ). pick (f x) (x ∷ l) l) rest
    go false rest = rest

pub any_cong : {f g : ℕ → Bool} → ((x : ℕ) → f x ≡ g x) → (xs : List ℕ) → any f xs ≡ any g xs
any_cong same xs = ap (λ (t : ℕ → Bool). any t xs) (fun_ext same)

pub keep_cong : {f g : ℕ → Bool} → ((x : ℕ) → f x ≡ g x) → (xs : List ℕ) → keep f xs ≡ keep g xs
keep_cong same xs = ap (λ (t : ℕ → Bool). keep t xs) (fun_ext same)

pub any_here : (f : ℕ → Bool) (xs : List ℕ) (i : ℕ) → i < length xs → f (get_or xs i 0) ≡ true → any f xs ≡ true
unfolding any
any_here f [] i h e = let z : ⊥ = omega arith in absurd z
any_here f (x ∷ xs) zero h e = ap (λ (b : Bool). (b || any f xs)) e
any_here f (x ∷ xs) (suc i) h e = go (f x) (any_here f xs i (omega arith) e)
  where
    go : (b : Bool) → any f xs ≡ true → (b || any f xs) ≡ true
    go true rest = refl
    go false rest = rest

pub any_nowhere : (f : ℕ → Bool) (xs : List ℕ) → ((i : ℕ) → i < length xs → f (get_or xs i 0) ≡ false) → any f xs ≡ false
unfolding any
any_nowhere f [] h = refl
any_nowhere f (x ∷ xs) h =
    ap (λ (b : Bool). (b || any f xs)) (h 0 (omega arith)) ∙ any_nowhere f xs (λ i lt. h (suc i) (omega arith))

-- the first that is kept passes
pub keep_first : (f : ℕ → Bool) (xs : List ℕ) → any f xs ≡ true → f (get_or (keep f xs) 0 0) ≡ true
unfolding any keep
keep_first f [] h = true_not_false h refl
keep_first f (x ∷ xs) h = by_test (f x) (λ e. subst (λ (b : Bool). f (get_or (pick b (x ∷ keep f xs) (keep f xs)) 0 0) ≡ true) (sym e) e)
    (λ e. subst (λ (b : Bool). f (get_or (pick b (x ∷ keep f xs) (keep f xs)) 0 0) ≡ true) (sym e)
    (keep_first f xs (ap (λ (b : Bool). (b || any f xs)) (sym e) ∙ h)))

-- all are kept
pub keep_all : (f : ℕ → Bool) (xs : List ℕ) → ((i : ℕ) → i < length xs → f (get_or xs i 0) ≡ true) → keep f xs ≡ xs
unfolding keep
keep_all f [] h = refl
keep_all f (x ∷ xs) h =
    ap (λ (b : Bool). pick b (x ∷ keep f xs) (keep f xs)) (h 0 (omega arith)) ∙ ap (λ (l : List ℕ). x ∷ l) (keep_all f xs (λ i lt. h (suc i) (omega arith)))

-- two tests that agree wherever a third one fails, on a list where it fails everywhere
module _ (f g t : ℕ → Bool) (agree : (x : ℕ) → t x ≡ false → f x ≡ g x) where
  head_fails : (x : ℕ) (xs : List ℕ) → any t (x ∷ xs) ≡ false → t x ≡ false
  unfolding any
  head_fails x xs h = by_test (t x) (λ e. true_not_false (ap (λ (b : Bool). (b || any t xs)) e) h) (λ e. e)

  rest_fails : (x : ℕ) (xs : List ℕ) → any t (x ∷ xs) ≡ false → any t xs ≡ false
  unfolding any
  rest_fails x xs h = by_test (t x) (λ e. true_not_false (ap (λ (b : Bool). (b || any t xs)) e) h) (λ e. sym (ap (λ (b : Bool). (b || any t xs)) e) ∙ h)

  pub keep_agree : (xs : List ℕ) → any t xs ≡ false → keep f xs ≡ keep g xs
  unfolding keep
  keep_agree [] h = refl
  keep_agree (x ∷ xs) h =
      ap (λ (b : Bool). pick b (x ∷ keep f xs) (keep f xs)) (agree x (head_fails x xs h))
      ∙ ap (λ (l : List ℕ). pick (g x) (x ∷ l) l) (keep_agree xs (rest_fails x xs h))

  pub any_agree : (xs : List ℕ) → any t xs ≡ false → any f xs ≡ any g xs
  unfolding any
  any_agree [] h = refl
  any_agree (x ∷ xs) h =
      ap (λ (b : Bool). (b || any f xs)) (agree x (head_fails x xs h))
      ∙ ap (λ (b : Bool). g x || b) (any_agree xs (rest_fails x xs h))

-- none is kept
pub keep_none : (f : ℕ → Bool) (xs : List ℕ) → any f xs ≡ false → keep f xs ≡ []
unfolding any keep
keep_none f [] h = refl
keep_none f (x ∷ xs) h =
    by_test (f x) (λ e. true_not_false (ap (λ (b : Bool). b || any f xs) e) h)
    (λ e. ap (λ (b : Bool). pick b (x ∷ keep f xs) (keep f xs)) e ∙ keep_none f xs (sym (ap (λ (b : Bool). b || any f xs) e) ∙ h))

-- where one passes, it stands somewhere
pub any_where : (f : ℕ → Bool) (xs : List ℕ) → any f xs ≡ true → (i : ℕ) × (i < length xs) × (f (get_or xs i 0) ≡ true)
unfolding any
any_where f [] h = true_not_false h refl
any_where f (x ∷ xs) h =
    by_test (f x) (λ e. (0, omega arith, e))
    (λ e. let rest = any_where f xs (sym (ap (λ (b : Bool). b || any f xs) e) ∙ h) in (suc rest.0, omega (arith, rest.1), rest.2))
