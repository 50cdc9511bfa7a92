-- A byte of the first command: it throws away what is in hand, or it does not.
-- Assumes nothing.
use mathlib.Core.Path.{◌≡◌, sym, ap}
use mathlib.Core.Bool.{Bool, true, false}
use mathlib.Core.List.{List, [], ◌∷◌, ◌++◌, append_assoc}
use mathlib.Core.Logic.{⊎_elim}
use Prim.Native.Nat.{ℕ, ◌+◌, ◌≤◌, ◌<◌}
use native.Mathlib.Omega.{arith}
use lib.Dec.{eqb, ltb}
use lib.ListN.{length, length-append}
use borrow.Author.Tests.{eqb-true, eq-eqb}
use Rattle.lists.specs.Choice.{pick}
use Rattle.lists.proofs.Cases.{by_test, both_first, both_second, both, same_or_not}
use Rattle.escapes.specs.Logical.{run_over}
use Rattle.beginning.specs.Beginning.{piece, is_piece}
use Rattle.beginning.proofs.Pieces.{piece_size, longer, shorter}
use Rattle.attempts.specs.Attempt.{failed, attempt_at}
use Rattle.attempts.specs.Looks.{looked_at}
use Rattle.attempts.proofs.LongerRun.{OtherAttempt}
use Rattle.attempts.proofs.Looked.{attempt_looks}
use Rattle.exchange.proofs.Restarting.{piece_looked}
use Rattle.listening.specs.declared.Listening.{Listening}
use Rattle.listening.specs.Listening.{first_command, syn_due, in_hand, goes_on, is_command, on_attempt, on_syn, restarts, hear}
use Rattle.listening.proofs.Undecided.{ended_looks, near}

-- ---- what a byte does

module _ (s : Listening) (b : ℕ) where
  abbrev c : List ℕ
  c = in_hand s ++ b ∷ []

  abbrev anew : Listening
  anew = goes_on s (s.start + length c) first_command

  abbrev other : Listening
  other = pick (ltb s.due syn_due) (on_attempt s c (attempt_at (is_command s) c 0)) (on_syn s b)

  pub hear_anew : restarts s c ≡ true → hear s b ≡ anew
  unfolding hear
  hear_anew e = ap (λ (t : Bool). pick t anew other) e

  pub hear_on : restarts s c ≡ false → hear s b ≡ other
  unfolding hear
  hear_on e = ap (λ (t : Bool). pick t anew other) e

-- ---- whether it throws away

pub restarts_of : (s : Listening) (c : List ℕ) → s.due ≡ first_command → piece c ≡ length c → restarts s c ≡ true
restarts_of s c e is = both (eq-eqb s.due first_command e) (eq-eqb (piece c) (length c) is)

pub restarts_due : (s : Listening) (c : List ℕ) → restarts s c ≡ true → (s.due ≡ first_command) × (piece c ≡ length c)
restarts_due s c h =
    (eqb-true s.due first_command (both_first (eqb s.due first_command) (is_piece c) h), eqb-true (piece c) (length c) (both_second (eqb s.due first_command) (is_piece c) h))

-- it does not where it is not the first command's turn, or these bytes are no piece
pub restarts_not : (s : Listening) (c : List ℕ) → (s.due ≡ first_command → piece c ≡ length c → ⊥) → restarts s c ≡ false
restarts_not s c not_so = by_test (restarts s c) (λ h. let two = restarts_due s c h in absurd (not_so two.0 two.1)) (λ h. h)

-- ---- the attempt, as far as its bytes go

-- before a piece is whole, its bytes decide nothing
pub not_yet : (c more : List ℕ) → length c < piece (c ++ more) → attempt_at true c 0 ≡ failed (run_over c)
not_yet c more short =
    let looked = piece_looked (c ++ more) (let h : 0 < piece (c ++ more) = omega arith in h) in
    ⊎_elim (λ (h : (attempt_at true c 0 ≡ failed (run_over c)) × (length c < looked_at true (c ++ more) 0)). h.0)
    (λ (h : (attempt_at true (c ++ more) 0 ≡ attempt_at true c 0) × (looked_at true (c ++ more) 0 ≤ length c)).
    let f : ⊥ = omega (arith, h.1, looked, short) in absurd f)
    (attempt_looks c more true 0 (omega arith))

-- bytes that decide nothing begin with no piece
pub no_piece_yet : (c : List ℕ) → attempt_at true c 0 ≡ failed (run_over c) → piece c ≡ 0
no_piece_yet c e =
    ⊎_elim (λ (none : piece c ≡ 0). none)
    (λ (some : piece c ≡ 0 → ⊥).
    let h : 0 < piece c = omega (arith, some) in
    let long = longer c (0 ∷ []) h in
    let far = ended_looks true c 0 [] e in
    let looked = piece_looked (c ++ 0 ∷ []) (omega (arith, long)) in
    let f : ⊥ = omega (arith, far, looked, long, piece_size c) in
    absurd f)
    (same_or_not (piece c) 0)

-- a byte that decides, and throws nothing away: whatever follows, the command has started
pub started : (hand : List ℕ) (b : ℕ) → attempt_at true hand 0 ≡ failed (run_over hand) → OtherAttempt (attempt_at true (hand ++ b ∷ []) 0)
    → (piece (hand ++ b ∷ []) ≡ length (hand ++ b ∷ []) → ⊥) → (more : List ℕ) → piece ((hand ++ b ∷ []) ++ more) ≡ 0
started hand b undecided decided no_piece more =
    let c = hand ++ b ∷ [] in
    ⊎_elim (λ (none : piece (c ++ more) ≡ 0). none)
    (λ (some : piece (c ++ more) ≡ 0 → ⊥).
    let looked = piece_looked (c ++ more) (let h : 0 < piece (c ++ more) = omega (arith, some) in h) in
    let most = near true c more decided in
    let far = ended_looks true hand b more undecided in
    let same : looked_at true (hand ++ b ∷ more) 0 ≡ looked_at true (c ++ more) 0 = ap (λ (r : List ℕ). looked_at true r 0) (sym (append_assoc hand (b ∷ []) more)) in
    let short = shorter c more (omega (arith, looked, most)) in
    absurd (no_piece (let e : piece c ≡ length c = omega (arith, short, looked, most, far, same, length-append hand (b ∷ [])) in e)))
    (same_or_not (piece (c ++ more)) 0)
