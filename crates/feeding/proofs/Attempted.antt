-- An attempt on all the bytes that are there, as the code makes it.
-- Assumes nothing.
use mathlib.Core.Path.{◌≡◌, refl, ap, ◌∙◌, subst}
use mathlib.Core.Bool.{Bool, true, false}
use mathlib.Core.List.{List, [], ◌∷◌, ◌++◌, append-nil}
use mathlib.Core.Logic.{⊎_elim}
use Prim.Native.Nat.{ℕ, ◌+◌, ◌≤◌, ◌<◌, max}
use native.Mathlib.Omega.{arith}
use lib.ListN.{length}
use Rattle.refusal.specs.Number.{run_ended}
use Rattle.refusal.specs.declared.Refusal.{Refusal}
use Rattle.escapes.specs.Logical.{run_over, logical_at}
use Rattle.telegram.specs.Telegram.{collected, telegram_at}
use Rattle.attempts.specs.Attempt.{Attempt, failed, ending_at, attempt_at}
use Rattle.attempts.specs.Looks.{looked_at}
use Rattle.attempts.proofs.LongerRun.{OtherAttempt, attempt_stays}
use Rattle.listening.specs.declared.Listening.{Listening}
use Rattle.listening.specs.Listening.{hand_room, is_command}
use Rattle.feeding.specs.Inner.{step_by, step_on, unless_thrown, tries_on}
use Rattle.listening.proofs.Undecided.{near, ended_looks, ended_short}

-- no bytes decide nothing
none_ends : (command : Bool) → attempt_at command [] 0 ≡ failed (run_over [])
unfolding attempt_at ending_at telegram_at collected logical_at
none_ends true = refl
none_ends false = refl

-- so an attempt looks at a byte
pub looks_at_one : (command : Bool) (bytes : List ℕ) → 0 < length bytes → 0 < looked_at command bytes 0
looks_at_one command [] h = let f : ⊥ = omega arith in absurd f
looks_at_one command (b ∷ more) h = ended_looks command [] b more (none_ends command)

-- and a decided one at no byte that is not there
pub decided_within_lem : (command : Bool) (bytes : List ℕ) → OtherAttempt (attempt_at command bytes 0) → looked_at command bytes 0 ≤ length bytes
decided_within_lem command bytes other = subst (λ (x : List ℕ). looked_at command x 0 ≤ length bytes) (append-nil bytes) (near command bytes [] other)

-- an undecided one has room in hand
pub undecided_short : (command : Bool) (bytes : List ℕ) (why : Refusal) → attempt_at command bytes 0 ≡ failed why → why.number ≡ run_ended → length bytes ≤ hand_room
undecided_short command bytes why e number =
    ⊎_elim (λ (h : attempt_at command bytes 0 ≡ failed (run_over bytes)). let s = ended_short command bytes h in omega arith)
    (λ (h : (attempt_at command (bytes ++ []) 0 ≡ attempt_at command bytes 0) × OtherAttempt (attempt_at command bytes 0)). absurd (subst OtherAttempt e h.1 number))
    (attempt_stays bytes [] command 0)

-- the attempt as it was made, unless bytes are thrown away
pub tries_is : (s : Listening) (bytes : List ℕ) (held n next : ℕ) (a : Attempt) → n ≡ max (held + 1) next → next ≡ looked_at (is_command s) bytes 0 → a ≡ attempt_at (is_command s) bytes 0
    → unless_thrown s bytes held (step_by s bytes n a) ≡ tries_on s bytes held
tries_is s bytes held n next a e looked is =
    let least = held + 1 in
    let step : step_by s bytes n a ≡ step_on s bytes least =
    ap (λ (k : ℕ). step_by s bytes k a) (e ∙ ap (max least) looked) ∙ ap (step_by s bytes (max least (looked_at (is_command s) bytes 0))) is in
    ap (unless_thrown s bytes held) step
