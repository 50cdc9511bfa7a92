-- A capture that is heard run by run: the first SYN over a cut, and idle time by a fresh state.
-- Assumes nothing.
use Rattle.std.specs.Prelude.{Result, Err}
use Rattle.refusal.specs.declared.Refusal.{Refusal}
use mathlib.Core.Path.{◌≡◌, refl, sym, ap, ◌∙◌, subst}
use mathlib.Core.Bool.{Bool, true, false, not, ◌||◌}
use mathlib.Core.List.{List, [], ◌∷◌, ◌++◌, append-nil}
use mathlib.Core.Logic.{⊎_elim}
use Prim.Native.Nat.{ℕ, suc, ◌+◌, ◌≤◌, ◌<◌}
use native.Mathlib.Omega.{arith}
use lib.Dec.{eqb}
use lib.ListN.{length, get_or, take}
use lib.Seq.{take_all}
use borrow.Author.Tests.{eq-eqb, ne_eqb, le-ltb}
use Rattle.lists.specs.Choice.{pick}
use Rattle.lists.specs.Tests.{any}
use Rattle.lists.proofs.Cases.{by_test, same_or_not}
use Rattle.escapes.specs.Escape.{syn}
use Rattle.escapes.specs.Logical.{run_over, logical_at}
use Rattle.telegram.specs.Telegram.{check_right, field_at, Telegram, unread, on_byte, collected, on_head, telegram_at}
use Rattle.beginning.specs.Beginning.{piece, is_piece, command_start}
use Rattle.beginning.proofs.Pieces.{Begins, no_piece, alone, escape, source, source_escape, begins, piece_size}
use Rattle.beginning.proofs.Begun.{start_none, start_behind}
use Rattle.attempts.specs.Attempt.{Attempt, failed, settled_by, on_telegram, ending_at, attempt_at}
use Rattle.exchange.specs.Exchange.{limit, on_first, on_command, tries_at, rejected, exchange_at, exchange}
use Rattle.listening.specs.Listening.{fresh, has_answered, fed}
use Rattle.cuts.specs.Cuts.{Open}
use Rattle.captures.specs.Capture.{through_syn}
use Rattle.capturewalk.specs.Walk.{Idle}
use Rattle.capturewalk.specs.Runs.{has_syn, EndsInSyn, RunByRun}
use Rattle.capturewalk.proofs.OneRun.{is_open, is_known}
use Rattle.capturewalk.proofs.SynDecides.{syn_decides}
use Rattle.capturewalk.proofs.Stretches.{none_idle}

-- ---- the first SYN

-- by the first byte, and what is said of those behind it
by_first : (here later : Bool) (all n m k : ℕ) → all ≡ pick later n (m + k)
    → pick here 1 (1 + all) ≡ pick (here || later) (pick here 1 (1 + n)) (suc m + k)
by_first true later all n m k e = refl
by_first false true all n m k e = ap (λ (x : ℕ). 1 + x) e
by_first false false all n m k e = omega (arith, e)

cuts_at : (run rest : List ℕ) → through_syn (run ++ rest) ≡ pick (has_syn run) (through_syn run) (length run + through_syn rest)
unfolding through_syn any
cuts_at [] rest = omega arith
cuts_at (b ∷ bs) rest = by_first (eqb b syn) (has_syn bs) (through_syn (bs ++ rest)) (through_syn bs) (length bs) (through_syn rest) (cuts_at bs rest)

-- ---- behind idle time nothing is known

module _ (run : List ℕ) where
  none_there : logical_at run (length run) ≡ Err (run_over run)
  unfolding logical_at
  none_there = simp (le-ltb (length run) (length run) (omega arith))

  no_telegram : telegram_at true run (length run) ≡ unread (run_over run)
  unfolding telegram_at collected
  no_telegram =
      ap (λ (l : Result (ℕ × ℕ) Refusal). on_head true run (on_byte (field_at true 0) (length run) l (λ b next. collected true run 4 (b ∷ []) (length run) next))) none_there

  no_attempt : attempt_at true run (length run) ≡ failed (run_over run)
  unfolding attempt_at ending_at
  no_attempt = ap (λ (t : Telegram). settled_by (λ telegram check_place. check_right telegram) (on_telegram true run t)) no_telegram

  no_exchange : exchange_at run (length run) ≡ rejected (run_over run)
  unfolding exchange_at tries_at
  no_exchange = ap (λ (a : Attempt). on_command run (on_first true run a)) no_attempt

  idle_open : Idle run → Open (exchange run)
  idle_open is = (length run, ap (exchange_at run) is ∙ no_exchange)

-- ---- a stretch that SYN ends

module _ (stretch : List ℕ) (ends : EndsInSyn stretch) (short : length stretch ≤ limit) where
  read : take limit stretch ≡ stretch
  read = take_all limit stretch short

  piece_idle : piece stretch ≡ length stretch → Idle stretch
  piece_idle is =
      ap command_start (sym (append-nil stretch))
      ∙ start_behind stretch [] ends.some is
      ∙ ap (λ (n : ℕ). length stretch + n) none_idle
      ∙ omega arith

  -- a piece ends in SYN, so a shorter one is none
  shorter_none : (piece stretch ≡ length stretch → ⊥) → piece stretch ≡ 0
  shorter_none other = by (begins (get_or stretch 0 0) (get_or stretch 1 0) (get_or stretch 2 0)) (less (piece stretch) (length stretch) (piece_size stretch) other)
    where
      less : (a b : ℕ) → a ≤ b → (a ≡ b → ⊥) → a < b
      less a b h e = omega (arith, h, e)

      by : {n : ℕ} → Begins (get_or stretch 0 0) (get_or stretch 1 0) (get_or stretch 2 0) n → n < length stretch → n ≡ 0
      by no_piece h = refl
      by (alone e) h = absurd (ends.alone 0 h e)
      by (escape e f) h = absurd (ends.alone 1 h f)
      by (source s f) h = absurd (ends.alone 1 h f)
      by (source_escape s f g) h = absurd (ends.alone 2 h g)

  open_as : Open (exchange stretch) → Open (exchange (take limit stretch))
  open_as o = subst (λ (x : List ℕ). Open (exchange x)) (sym read) o

  decided_as : (piece stretch ≡ 0) → Open (exchange (take limit stretch)) → ⊥
  decided_as none o = syn_decides stretch ends.some ends.last (start_none stretch none) (subst (λ (x : List ℕ). Open (exchange x)) read o)

  idle_known : has_answered (fed fresh stretch).state ≡ not (is_piece stretch)
  idle_known =
      ⊎_elim
      (λ (e : piece stretch ≡ length stretch).
      by_test (has_answered (fed fresh stretch).state) (λ h. absurd (is_known stretch h (open_as (idle_open stretch (piece_idle e)))))
      (λ h. h ∙ sym (ap not (eq-eqb (piece stretch) (length stretch) e))))
      (λ (e : piece stretch ≡ length stretch → ⊥).
      by_test (has_answered (fed fresh stretch).state) (λ h. h ∙ sym (ap not (ne_eqb (piece stretch) (length stretch) e)))
      (λ h. absurd (decided_as (shorter_none e) (is_open stretch h))))
      (same_or_not (piece stretch) (length stretch))

pub run_by_run : RunByRun
run_by_run = record { cut = cuts_at; idle = idle_known }
