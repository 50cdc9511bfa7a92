-- A longer run: an answer other than number 3 on a run is the answer on every longer run, and a run that is refused with 3 has no
-- shorter prefix with another answer.
-- Assumes nothing.
use mathlib.Core.Path.{◌≡◌, refl, sym, ap, ◌∙◌, subst}
use mathlib.Core.Bool.{Bool, true, false}
use mathlib.Core.List.{List, [], ◌++◌}
use mathlib.Core.Logic.{◌⊎◌, inl, inr, ⊎_elim}
use Prim.Native.Nat.{ℕ, ◌+◌}
use native.Mathlib.Omega.{arith}
use lib.Dec.{eqb}
use lib.ListN.{length}
use Rattle.lists.specs.Choice.{pick}
use Rattle.refusal.specs.Number.{run_ended, bus_error, at_place}
use Rattle.lists.proofs.Cases.{pick_cases}
use Rattle.escapes.specs.Escape.{syn}
use Rattle.escapes.specs.Logical.{run_over}
use Rattle.escapes.proofs.LongerRun.{Stays, OtherRefusal, stays_same, stays_on, stays_byte}
use Rattle.addresses.specs.declared.ExchangeKind.{ExchangeKind}
use Rattle.addresses.specs.declared.ExchangeKind.TheVariants.{Broadcast, InitiatorInitiator, InitiatorTarget}
use Rattle.addresses.specs.Address.{kind_of}
use Rattle.telegram.specs.Telegram.{destination_of}
use Rattle.attempts.specs.Attempt.{Attempt, taken, nacked, failed, attempt_at}
use Rattle.attempts.proofs.LongerRun.{OtherAttempt, attempt_stays}
use Rattle.exchange.specs.Exchange.{Tries, once, twice, neither, nacked_twice, on_second, on_first, tries_at, End, ended, open_still, syn_at, Outcome, accepted, rejected, on_end, on_reply, on_kind, on_command, exchange_at}

-- ---- no refusal with number 3, for each kind of answer

abbrev OtherTries : Tries → Type 0
OtherTries (once telegram next) = Unit {0}
OtherTries (twice first second next) = Unit {0}
OtherTries (neither why) = OtherRefusal why

abbrev OtherEnd : End → Type 0
OtherEnd (ended next) = Unit {0}
OtherEnd (open_still why) = OtherRefusal why

abbrev pub OtherOutcome : Outcome → Type 0
OtherOutcome (accepted kind commands replies next command first second) = Unit {0}
OtherOutcome (rejected why) = OtherRefusal why

-- two NACKs give 10 or 11
nacked_other : (command : Bool) (place : ℕ) → OtherRefusal (at_place (nacked_twice command) place)
nacked_other true place e = omega arith
nacked_other false place e = omega arith

-- the steps that do not look at the run

by_second : (command : Bool) (first : List ℕ) (a : Attempt) → OtherAttempt a → OtherTries (on_second command first a)
by_second command first (taken telegram next) h = tt
by_second command first (nacked telegram place) h = nacked_other command place
by_second command first (failed why) h = h

by_end_lem : (kind : ExchangeKind) (commands replies : ℕ) (command first second : List ℕ) (x : End)
    → OtherEnd x → OtherOutcome (on_end kind commands replies command first second x)
by_end_lem kind commands replies command first second (ended next) h = tt
by_end_lem kind commands replies command first second (open_still why) h = h

module _ (run more : List ℕ) where
  -- ---- SYN

  syn_stays : (at : ℕ) → Stays OtherEnd (open_still (run_over run)) (syn_at run at) (syn_at (run ++ more) at)
  unfolding syn_at
  syn_stays at =
      let f : ℕ → End = λ b. pick (eqb b syn) (ended (at + 1)) (open_still (at_place bus_error at)) in
      stays_byte OtherEnd run more at (open_still (run_over run)) (open_still (run_over (run ++ more))) f f
      (λ b. stays_same OtherEnd (open_still (run_over run)) (f b) (pick_cases OtherEnd (eqb b syn) _ _ (λ _. tt) (λ _ e. omega arith)))

  -- ---- one attempt or two

  by_first : (command : Bool) (a : Attempt) → OtherAttempt a → Stays OtherTries (neither (run_over run)) (on_first command run a) (on_first command (run ++ more) a)
  by_first command (taken telegram next) h = stays_same OtherTries (neither (run_over run)) (once telegram next) tt
  by_first command (nacked telegram place) h =
      stays_on OtherAttempt OtherTries (on_second command telegram) (on_second command telegram) (failed (run_over run))
      (attempt_at command run (place + 1)) (attempt_at command (run ++ more) (place + 1))
      (λ a o. stays_same OtherTries (neither (run_over run)) (on_second command telegram a) (by_second command telegram a o)) (attempt_stays run more command (place + 1))
  by_first command (failed why) h = stays_same OtherTries (neither (run_over run)) (neither why) h

  tries_stay : (command : Bool) (at : ℕ) → Stays OtherTries (neither (run_over run)) (tries_at command run at) (tries_at command (run ++ more) at)
  unfolding tries_at
  tries_stay command at =
      stays_on OtherAttempt OtherTries (on_first command run) (on_first command (run ++ more)) (failed (run_over run))
      (attempt_at command run at) (attempt_at command (run ++ more) at) (by_first command) (attempt_stays run more command at)

  -- ---- the exchange

  end_stays : (kind : ExchangeKind) (commands replies : ℕ) (command first second : List ℕ) (at : ℕ)
      → Stays OtherOutcome (rejected (run_over run)) (on_end kind commands replies command first second (syn_at run at))
      (on_end kind commands replies command first second (syn_at (run ++ more) at))
  end_stays kind commands replies command first second at =
      let f = on_end kind commands replies command first second in
      stays_on OtherEnd OtherOutcome f f (open_still (run_over run)) (syn_at run at) (syn_at (run ++ more) at)
      (λ x o. stays_same OtherOutcome (rejected (run_over run)) (f x) (by_end_lem kind commands replies command first second x o)) (syn_stays at)

  by_reply : (commands : ℕ) (command : List ℕ) (t : Tries) → OtherTries t
      → Stays OtherOutcome (rejected (run_over run)) (on_reply commands command run t) (on_reply commands command (run ++ more) t)
  by_reply commands command (once reply next) h = end_stays InitiatorTarget commands 1 command reply [] next
  by_reply commands command (twice first second next) h = end_stays InitiatorTarget commands 2 command first second next
  by_reply commands command (neither why) h = stays_same OtherOutcome (rejected (run_over run)) (rejected why) h

  by_kind : (commands : ℕ) (command : List ℕ) (at : ℕ) (kind : ExchangeKind)
      → Stays OtherOutcome (rejected (run_over run)) (on_kind commands command run at kind) (on_kind commands command (run ++ more) at kind)
  by_kind commands command at Broadcast = end_stays Broadcast commands 0 command [] [] at
  by_kind commands command at InitiatorInitiator = end_stays InitiatorInitiator commands 0 command [] [] at
  by_kind commands command at InitiatorTarget =
      stays_on OtherTries OtherOutcome (on_reply commands command run) (on_reply commands command (run ++ more)) (neither (run_over run))
      (tries_at false run at) (tries_at false (run ++ more) at) (by_reply commands command) (tries_stay false at)

  by_command : (t : Tries) → OtherTries t → Stays OtherOutcome (rejected (run_over run)) (on_command run t) (on_command (run ++ more) t)
  by_command (once command next) h = by_kind 1 command next (kind_of (destination_of command))
  by_command (twice first command next) h = by_kind 2 command next (kind_of (destination_of command))
  by_command (neither why) h = stays_same OtherOutcome (rejected (run_over run)) (rejected why) h

  pub exchange_stays : (at : ℕ) → Stays OtherOutcome (rejected (run_over run)) (exchange_at run at) (exchange_at (run ++ more) at)
  unfolding exchange_at
  exchange_stays at =
      stays_on OtherTries OtherOutcome (on_command run) (on_command (run ++ more)) (neither (run_over run))
      (tries_at true run at) (tries_at true (run ++ more) at) by_command (tries_stay true at)

-- ---- what it says, of anything that stays

abbrev place_of : Outcome → ℕ
place_of (accepted kind commands replies next command first second) = 0
place_of (rejected why) = why.place

module _ (answer : List ℕ → Outcome) (stays : (run more : List ℕ) → Stays OtherOutcome (rejected (run_over run)) (answer run) (answer (run ++ more))) where
  either : (run more : List ℕ) → (answer run ≡ rejected (run_over run)) ⊎ (answer (run ++ more) ≡ answer run)
  either run more = ⊎_elim (λ h. inl h) (λ h. inr h.0) (stays run more)

  same_later : (run more : List ℕ) → ((place : ℕ) → answer run ≡ rejected (at_place run_ended place) → ⊥) → answer (run ++ more) ≡ answer run
  same_later run more other = ⊎_elim (λ h. absurd (other (length run) h)) (λ h. h) (either run more)

  at_end : (run : List ℕ) (place : ℕ) → answer run ≡ rejected (at_place run_ended place) → place ≡ length run
  at_end run place e = ⊎_elim (λ h. ap place_of (sym e ∙ h)) (λ h. absurd (subst OtherOutcome e h.1 refl)) (stays run [])

  same_before : (run more : List ℕ) (place : ℕ) → answer (run ++ more) ≡ rejected (at_place run_ended place)
      → answer run ≡ rejected (run_over run)
  same_before run more place e =
      ⊎_elim (λ h. h)
      (λ h.
      let now : answer run ≡ rejected (at_place run_ended place) = sym h ∙ e in
      now ∙ ap (λ (n : ℕ). rejected (at_place run_ended n)) (at_end run place now))
      (either run more)

-- ---- of an exchange, from any position

-- a run is refused by its own end, or its answer is that of every longer run
pub longer : (run more : List ℕ) (at : ℕ)
    → (exchange_at run at ≡ rejected (run_over run)) ⊎ (exchange_at (run ++ more) at ≡ exchange_at run at)
longer run more at = either (λ r. exchange_at r at) (λ r m. exchange_stays r m at) run more

-- an answer other than number 3 on a run is the answer on every longer run
pub answer_stays : (run more : List ℕ) (at : ℕ) → ((place : ℕ) → exchange_at run at ≡ rejected (at_place run_ended place) → ⊥)
    → exchange_at (run ++ more) at ≡ exchange_at run at
answer_stays run more at other = same_later (λ r. exchange_at r at) (λ r m. exchange_stays r m at) run more other

-- a run that is refused with 3 has no shorter prefix with another answer
pub three_before : (run more : List ℕ) (at place : ℕ) → exchange_at (run ++ more) at ≡ rejected (at_place run_ended place)
    → exchange_at run at ≡ rejected (run_over run)
three_before run more at place e = same_before (λ r. exchange_at r at) (λ r m. exchange_stays r m at) run more place e

-- a refusal with number 3 is placed at the run's length
pub three_place : (run : List ℕ) (at place : ℕ) → exchange_at run at ≡ rejected (at_place run_ended place) → place ≡ length run
three_place run at place e = at_end (λ r. exchange_at r at) (λ r m. exchange_stays r m at) run place e
