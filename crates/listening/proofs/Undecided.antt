-- An attempt that is not decided by the bytes that are there.
-- Assumes nothing.
use mathlib.Core.Path.{◌≡◌, refl, sym, ap, ◌∙◌, subst}
use mathlib.Core.Bool.{Bool}
use mathlib.Core.List.{List, [], ◌∷◌, ◌++◌}
use mathlib.Core.Logic.{⊎_elim}
use Prim.Native.Nat.{ℕ, ◌≤◌, ◌<◌, min}
use native.Mathlib.Omega.{arith}
use lib.ListN.{length, take, replicate, length-append, length-take}
use lib.Seq.{take_all}
use Rattle.lists.proofs.Cases.{le_or_lt}
use Rattle.lists.proofs.Filling.{start_of}
use Rattle.refusal.specs.Number.{run_ended, at_place}
use Rattle.escapes.specs.Logical.{run_over}
use Rattle.attempts.specs.Attempt.{Attempt, taken, nacked, failed, attempt_at}
use Rattle.attempts.specs.Looks.{looked_at}
use Rattle.attempts.proofs.LongerRun.{OtherAttempt, attempt_stays}
use Rattle.attempts.proofs.Looked.{attempt_looks, looked_most}
use Rattle.listening.specs.declared.Listening.{Listening}
use Rattle.listening.specs.Listening.{hand_room, in_hand, in_hand_now}

-- ---- the bytes in hand

module _ (s : Listening) (size : length s.raw ≡ hand_room) where
  pub hand_is : take (min s.held hand_room) s.raw ≡ in_hand s
  hand_is =
      ⊎_elim (λ (h : s.held ≤ hand_room). let e : min s.held hand_room ≡ s.held = omega arith in ap (λ (k : ℕ). take k s.raw) e)
      (λ (h : hand_room < s.held).
      let e : min s.held hand_room ≡ hand_room = omega arith in
      ap (λ (k : ℕ). take k s.raw) e ∙ take_all hand_room s.raw (omega arith) ∙ sym (take_all s.held s.raw (omega arith)))
      (le_or_lt s.held hand_room)

  pub hand_size : length (in_hand s) ≡ min s.held hand_room
  hand_size = length-take s.held s.raw ∙ ap (min s.held) size

-- ---- an attempt that is not decided

abbrev place_of : Attempt → ℕ
place_of (taken t next) = 0
place_of (nacked t place) = 0
place_of (failed why) = why.place

-- number 3 is placed at the end of the bytes
pub ended_place : (command : Bool) (c : List ℕ) (place : ℕ) → attempt_at command c 0 ≡ failed (at_place run_ended place) → place ≡ length c
ended_place command c place e =
    ⊎_elim (λ (h : attempt_at command c 0 ≡ failed (run_over c)). ap place_of (sym e ∙ h))
    (λ (h : (attempt_at command (c ++ []) 0 ≡ attempt_at command c 0) × OtherAttempt (attempt_at command c 0)). absurd (subst OtherAttempt e h.1 refl)) (attempt_stays c [] command 0)

-- and what decides it lies behind
pub ended_looks : (command : Bool) (c : List ℕ) (b : ℕ) (more : List ℕ) → attempt_at command c 0 ≡ failed (run_over c) → length c < looked_at command (c ++ b ∷ more) 0
ended_looks command c b more e =
    ⊎_elim (λ (h : (attempt_at command c 0 ≡ failed (run_over c)) × (length c < looked_at command (c ++ b ∷ more) 0)). h.1)
    (λ (h : (attempt_at command (c ++ b ∷ more) 0 ≡ attempt_at command c 0) × (looked_at command (c ++ b ∷ more) 0 ≤ length c)).
    let long = ended_place command (c ++ b ∷ more) (length c) (h.0 ∙ e) in
    let f : ⊥ = omega (arith, long, length-append c (b ∷ more)) in
    absurd f)
    (attempt_looks c (b ∷ more) command 0 (omega arith))

pub ended_short : (command : Bool) (c : List ℕ) → attempt_at command c 0 ≡ failed (run_over c) → length c < hand_room
ended_short command c e = omega (arith, ended_looks command c 0 [] e, looked_most command (c ++ 0 ∷ []) 0 (omega arith))

pub in_hand_now_lem : (s : Listening) (c : List ℕ) → in_hand (in_hand_now s c) ≡ c
in_hand_now_lem s c = start_of c (replicate hand_room 0) (length c) refl

-- what decides an attempt lies within its bytes
pub near : (command : Bool) (c more : List ℕ) → OtherAttempt (attempt_at command c 0) → looked_at command (c ++ more) 0 ≤ length c
near command c more other =
    ⊎_elim (λ (h : (attempt_at command c 0 ≡ failed (run_over c)) × (length c < looked_at command (c ++ more) 0)). absurd (subst OtherAttempt h.0 other refl))
    (λ (h : (attempt_at command (c ++ more) 0 ≡ attempt_at command c 0) × (looked_at command (c ++ more) 0 ≤ length c)). h.1)
    (attempt_looks c more command 0 (omega arith))
