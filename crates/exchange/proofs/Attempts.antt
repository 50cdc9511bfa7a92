-- What one attempt or two say of the run: what was taken at once was read where the attempt starts.
-- Assumes nothing.
use mathlib.Core.Path.{◌≡◌, refl, subst}
use mathlib.Core.Bool.{Bool}
use mathlib.Core.List.{List}
use Prim.Native.Nat.{ℕ, ◌+◌}
use native.Mathlib.Omega.{arith}
use Rattle.attempts.specs.Attempt.{Attempt, taken, nacked, failed, attempt_at}
use Rattle.attempts.specs.Inner.{Reads}
use Rattle.attempts.proofs.AttemptRead.{taken_read}
use Rattle.exchange.specs.declared.tries.Tried.{Tried}
use Rattle.exchange.specs.declared.tries.Tried.TheVariants.{Once, Twice}
use Rattle.exchange.specs.Exchange.{Tries, once, twice, neither, on_second, on_first, tries_at}

module _ (command : Bool) (run : List ℕ) (at : ℕ) where
  abbrev OnceRead : Tries → Type 0
  OnceRead (once s next) = Reads command run at s
  OnceRead (twice first s next) = Unit {0}
  OnceRead (neither why) = Unit {0}

  second_other : (first : List ℕ) (a : Attempt) → OnceRead (on_second command first a)
  second_other first (taken s next) = tt
  second_other first (nacked s place) = tt
  second_other first (failed why) = tt

  by_first : (a : Attempt) → attempt_at command run at ≡ a → OnceRead (on_first command run a)
  by_first (taken s next) e = taken_read command run at s next e
  by_first (nacked s place) e = second_other s (attempt_at command run (place + 1))
  by_first (failed why) e = tt

  pub once_read : (s : List ℕ) (next : ℕ) → tries_at command run at ≡ once s next → Reads command run at s
  unfolding tries_at
  once_read s next e = subst OnceRead e (by_first (attempt_at command run at) refl)

-- ---- how many attempts there were

pub once_not_twice : {P : Type 0} {tried : Tried} → tried ≡ Once → tried ≡ Twice → P
once_not_twice {P} {tried} once_told told = let z : ◌≡◌ {A = ℕ} 0 1 = cc in let f : ⊥ = omega arith in absurd f

pub twice_not_once : {P : Type 0} {tried : Tried} → tried ≡ Twice → tried ≡ Once → P
twice_not_once {P} {tried} twice_told told = once_not_twice told twice_told
