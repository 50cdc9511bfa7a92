-- Bytes in front: what is read behind some other bytes is what is read without them, with every position so much later. Here
-- for logical bytes; what reads telegrams and attempts carries it on.
-- Assumes nothing.
use Rattle.std.specs.Prelude.{Result, Ok, Err}
use mathlib.Core.Path.{◌≡◌, refl, sym, ap, ◌∙◌}
use mathlib.Core.Bool.{Bool, true, false}
use mathlib.Core.List.{List, ◌++◌}
use mathlib.Core.Logic.{⊎_elim}
use Prim.Native.Nat.{ℕ, ◌+◌, ◌≤◌, ◌<◌}
use native.Mathlib.Omega.{arith}
use lib.Dec.{eqb, ltb}
use lib.ListN.{length, get_or, length-append}
use lib.Seq.{get_or-append-add}
use borrow.Author.Tests.{lt-ltb, le-ltb}
use Rattle.lists.specs.Choice.{pick}
use Rattle.lists.proofs.Cases.{le_or_lt}
use Rattle.refusal.specs.Number.{run_ended, escape_wrong, syn_early, at_place}
use Rattle.refusal.specs.declared.Refusal.{Refusal}
use Rattle.escapes.specs.Escape.{esc, syn}
use Rattle.escapes.specs.Logical.{run_over, escape_at, logical_at}

-- a refusal k positions later
abbrev pub later_refusal : ℕ → Refusal → Refusal
later_refusal k why = at_place why.number (k + why.place)

abbrev pub later_byte : ℕ → Result (ℕ × ℕ) Refusal → Result (ℕ × ℕ) Refusal
later_byte k (Ok (b, next)) = Ok (b, (k + next))
later_byte k (Err why) = Err (later_refusal k why)

-- a choice that is moved is the choice of what is moved
pub later_pick : {A : Type 0} (move : A → A) (t : Bool) {x y x' y' : A} → x' ≡ move x → y' ≡ move y → pick t x' y' ≡ move (pick t x y)
later_pick move true p q = p
later_pick move false p q = q

pub later_over : (before run : List ℕ) → run_over (before ++ run) ≡ later_refusal (length before) (run_over run)
later_over before run = ap (at_place run_ended) (length-append before run)

-- one raw byte is looked at
pub later_byte_lem : {A : Type 0} (move : A → A) (before run : List ℕ) (at : ℕ) {ended ended' : A} (f f' : ℕ → A) → ((b : ℕ) → f' b ≡ move (f b)) → ended' ≡ move ended
    → pick (ltb (length before + at) (length (before ++ run))) (f' (get_or (before ++ run) (length before + at) 0)) ended'
    ≡ move (pick (ltb at (length run)) (f (get_or run at 0)) ended)
later_byte_lem move before run at {ended} {ended'} f f' each over =
    let all = length-append before run in
    let same_test : ltb (length before + at) (length (before ++ run)) ≡ ltb at (length run) =
    ⊎_elim (λ (h : length run ≤ at). le-ltb (length before + at) (length (before ++ run)) (omega (arith, all)) ∙ sym (le-ltb at (length run) h))
    (λ (h : at < length run). lt-ltb (length before + at) (length (before ++ run)) (omega (arith, all)) ∙ sym (lt-ltb at (length run) h)) (le_or_lt (length run) at) in
    ap (λ (t : Bool). pick t (f' (get_or (before ++ run) (length before + at) 0)) ended') same_test
    ∙ later_pick move (ltb at (length run)) (ap f' (get_or-append-add before run at 0) ∙ each (get_or run at 0)) over

module _ (before run : List ℕ) where
  later_half : (at : ℕ) → escape_at (before ++ run) (length before + at) ≡ later_byte (length before) (escape_at run at)
  unfolding escape_at
  later_half at =
      let k = length before in
      let f : ℕ → ℕ → Result (ℕ × ℕ) Refusal =
      λ at b. pick (eqb b 0x00) (Ok (esc, (at + 1))) (pick (eqb b 0x01) (Ok (syn, (at + 1))) (pick (eqb b syn) (Err (at_place syn_early at)) (Err (at_place escape_wrong at)))) in
      let move = later_byte k in
      later_byte_lem move before run at (f at) (f (k + at))
      (λ b.
      later_pick move (eqb b 0x00) (ap (λ (x : ℕ). Ok (esc, x)) (omega arith))
      (later_pick move (eqb b 0x01) (ap (λ (x : ℕ). Ok (syn, x)) (omega arith)) (later_pick move (eqb b syn) refl refl)))
      (ap Err (later_over before run))

  pub later_logical : (at : ℕ) → logical_at (before ++ run) (length before + at) ≡ later_byte (length before) (logical_at run at)
  unfolding logical_at
  later_logical at =
      let k = length before in
      let f : List ℕ → ℕ → ℕ → Result (ℕ × ℕ) Refusal =
      λ r at b. pick (eqb b esc) (escape_at r (at + 1)) (pick (eqb b syn) (Err (at_place syn_early at)) (Ok (b, (at + 1)))) in
      let move = later_byte k in
      later_byte_lem move before run at (f run at) (f (before ++ run) (k + at))
      (λ b.
      later_pick move (eqb b esc) (ap (escape_at (before ++ run)) (omega arith) ∙ later_half (at + 1))
      (later_pick move (eqb b syn) refl (ap (λ (x : ℕ). Ok (b, x)) (omega arith))))
      (ap Err (later_over before run))
