-- The first byte of a run: only the bytes in hand matter of a state, and not where they lie.
-- Assumes nothing.
use mathlib.Core.Path.{◌≡◌, refl, sym, ap, ◌∙◌}
use mathlib.Core.Bool.{Bool}
use mathlib.Core.List.{List, [], ◌∷◌, ◌++◌}
use mathlib.Core.Logic.{⊎_elim}
use Prim.Native.Nat.{ℕ, ◌+◌, ◌-◌, ◌≤◌, ◌<◌, min}
use native.Mathlib.Omega.{arith}
use lib.Dec.{eqb, ltb}
use lib.ListN.{length, take, length-take}
use borrow.Author.Tests.{lt-ltb, le-ltb}
use Rattle.lists.specs.Choice.{pick}
use Rattle.lists.proofs.Cases.{le_or_lt}
use Rattle.refusal.specs.Number.{bus_error}
use Rattle.escapes.specs.Escape.{syn}
use Rattle.attempts.specs.Attempt.{Attempt, taken, nacked, failed, attempt_at}
use Rattle.listening.specs.declared.Listening.{Listening}
use Rattle.listening.specs.Listening.{first_command, syn_due, nothing_due, hand_room, in_hand, in_hand_now, goes_on, is_command, answers, on_taken, on_nacked, on_attempt, on_syn, restarts, hear, after, listened}
use Rattle.listening.proofs.Undecided.{in_hand_now_lem, hand_is, hand_size}
use Rattle.feeding.proofs.AtOnce.{first_byte, heard_with, hears}
use Rattle.feeding.proofs.Turning as turning

-- ---- an attempt is due

same_attempt : (s : Listening) (hand c : List ℕ) (a : Attempt) → on_attempt (in_hand_now s hand) c a ≡ on_attempt s c a
unfolding on_taken on_nacked
same_attempt s hand c (taken t next) = refl
same_attempt s hand c (nacked t place) = refl
same_attempt s hand c (failed why) = refl

-- the bytes in hand, and nothing behind them
same_in_hand : (s : Listening) → s.due < syn_due → (hand : List ℕ) → in_hand s ≡ hand → (run : List ℕ) → 0 < length run → listened (in_hand_now s hand) run ≡ listened s run
same_in_hand s due hand is [] some = let f : ⊥ = omega arith in absurd f
same_in_hand s due hand is (b ∷ bs) some =
    let tries = lt-ltb s.due syn_due due in
    let s₁ = in_hand_now s hand in
    let c = in_hand s₁ ++ b ∷ [] in
    let same : hear s₁ b ≡ hear s b =
    hears s₁ tries b
    ∙ ap (pick (restarts s c) (goes_on s (s.start + length c) first_command)) (same_attempt s hand c (attempt_at (is_command s) c 0))
    ∙ ap (λ (h : List ℕ). heard_with s (h ++ b ∷ [])) (in_hand_now_lem s hand ∙ sym is)
    ∙ sym (hears s tries b) in
    first_byte s₁ tries b bs ∙ ap (λ (x : Listening). after 1 (listened x bs)) same ∙ sym (first_byte s tries b bs)

-- ---- SYN is due

-- what is in hand then is counted as used
same_syn : (s : Listening) → syn_due ≤ s.due → s.due < nothing_due → (start : ℕ) → start ≡ s.start + length (in_hand s) → (run : List ℕ) → 0 < length run
    → listened (goes_on s start s.due) run ≡ listened s run
same_syn s due undone start is [] some = let f : ⊥ = omega arith in absurd f
same_syn s due undone start is (b ∷ bs) some =
    let s₁ = goes_on s start s.due in
    let n = length (in_hand s) in
    let one : start + 1 ≡ s.start + (n + 1) = omega arith in
    let none : start + 0 ≡ s.start + n = omega arith in
    let same : on_syn s₁ b ≡ on_syn s b =
    ap (λ (k : ℕ). pick {A = Listening} (eqb b syn) (answers s k 0 0) (answers s k bus_error (start + 0))) one
    ∙ ap (λ (k : ℕ). pick {A = Listening} (eqb b syn) (answers s (s.start + (n + 1)) 0 0) (answers s (s.start + (n + 1)) bus_error k)) none in
    turning.first_byte s₁ due undone b bs
    ∙ ap (λ (x : Listening). after 1 (listened x bs)) (turning.hears s₁ due undone b ∙ same ∙ sym (turning.hears s due undone b))
    ∙ sym (turning.first_byte s due undone b bs)

-- ---- either

module _ (s : Listening) (size : length s.raw ≡ hand_room) (hand : ℕ) (hand_of : hand ≡ pick (ltb s.due syn_due) (min s.held hand_room) 0) where
  of_attempt : s.due < syn_due → hand ≡ min s.held hand_room
  of_attempt h = hand_of ∙ ap (λ (t : Bool). pick t (min s.held hand_room) 0) (lt-ltb s.due syn_due h)

  of_syn : syn_due ≤ s.due → hand ≡ 0
  of_syn h = hand_of ∙ ap (λ (t : Bool). pick t (min s.held hand_room) 0) (le-ltb s.due syn_due h)

  -- an attempt with bytes in hand
  pub begun_due : (hand ≡ 0 → ⊥) → s.due < syn_due
  begun_due some = ⊎_elim (λ (h : syn_due ≤ s.due). absurd (some (of_syn h))) (λ (h : s.due < syn_due). h) (le_or_lt syn_due s.due)

  begun_hand : (hand ≡ 0 → ⊥) → in_hand s ≡ take hand s.raw
  begun_hand some = sym (ap (λ (k : ℕ). take k s.raw) (of_attempt (begun_due some)) ∙ hand_is s size)

  begun_size : (hand ≡ 0 → ⊥) → hand ≡ length (in_hand s)
  begun_size some = of_attempt (begun_due some) ∙ sym (hand_size s size)

  -- none, or SYN is due
  begins : hand ≡ 0 → s.due < nothing_due → (start : ℕ) → start ≡ s.start + length (in_hand s) → (run : List ℕ) → 0 < length run
      → listened (goes_on s start s.due) run ≡ listened s run
  begins none undone start is run some =
      ⊎_elim (λ (h : syn_due ≤ s.due). same_syn s h undone start is run some)
      (λ (h : s.due < syn_due).
      let empty : in_hand s ≡ [] = sym (hand_is s size) ∙ ap (λ (k : ℕ). take k s.raw) (sym (of_attempt h) ∙ none) in
      let start_is : start ≡ s.start = is ∙ ap (λ (l : List ℕ). s.start + length l) empty ∙ omega arith in
      ap (λ (k : ℕ). listened (goes_on s k s.due) run) start_is ∙ same_in_hand s h [] empty run some)
      (le_or_lt syn_due s.due)

  pub begun_within : hand ≤ length (in_hand s)
  begun_within =
      ⊎_elim (λ (none : hand ≤ 0). omega arith) (λ (some : 0 < hand). let there : hand ≡ 0 → ⊥ = λ e. omega arith in omega (arith, begun_size there)) (le_or_lt hand 0)

  pub begun_long : length (take hand s.raw) ≡ hand
  begun_long = length-take hand s.raw ∙ omega (arith, begun_within, hand_size s size)

  -- the state with the bytes of an attempt in hand, and nothing else of those before
  pub begun : s.due < nothing_due → (end : ℕ) → end ≡ s.start + length (in_hand s) → (run : List ℕ) → 0 < length run
      → listened (in_hand_now (goes_on s (end - hand) s.due) (take hand s.raw)) run ≡ listened s run
  begun undone end is run some =
      ⊎_elim
      (λ (none : hand ≤ 0).
      let z : hand ≡ 0 = omega arith in
      let all : end - 0 ≡ end = omega arith in
      ap (λ (k : ℕ). listened (in_hand_now (goes_on s (end - k) s.due) (take k s.raw)) run) z
      ∙ ap (λ (k : ℕ). listened (goes_on s k s.due) run) all
      ∙ begins z undone end is run some)
      (λ (h : 0 < hand).
      let there : hand ≡ 0 → ⊥ = λ e. omega arith in
      let start : end - hand ≡ s.start = omega (arith, begun_size there) in
      ap (λ (k : ℕ). listened (in_hand_now (goes_on s k s.due) (take hand s.raw)) run) start
      ∙ same_in_hand s (begun_due there) (take hand s.raw) (begun_hand there) run some)
      (le_or_lt hand 0)
