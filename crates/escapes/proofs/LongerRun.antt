-- A longer run: what was read of a run, or refused in it, is the same when more bytes follow, save the refusal with
-- number 3 by the run's own end. No other refusal has number 3. Here for logical bytes; what reads telegrams and exchanges
-- carries it on.
-- Assumes nothing.
use Rattle.std.specs.Prelude.{Result, Ok, Err}
use mathlib.Core.Path.{◌≡◌, refl, sym, ap, ◌∙◌, subst}
use mathlib.Core.Bool.{Bool, true, false}
use mathlib.Core.List.{List, ◌++◌}
use mathlib.Core.Logic.{◌⊎◌, inl, inr, ⊎_elim}
use Prim.Native.Nat.{ℕ, ◌+◌, ◌≤◌, ◌<◌}
use native.Mathlib.Omega.{arith}
use lib.Dec.{eqb, ltb}
use lib.ListN.{length, get_or, length-append, get_or-append}
use borrow.Author.Tests.{lt-ltb, le-ltb}
use Rattle.lists.specs.Choice.{pick}
use Rattle.lists.proofs.Cases.{pick_cases, le_or_lt}
use Rattle.refusal.specs.Number.{run_ended, escape_wrong, syn_early, at_place}
use Rattle.refusal.specs.declared.Refusal.{Refusal}
use Rattle.escapes.specs.Escape.{esc, syn}
use Rattle.escapes.specs.Logical.{run_over, escape_at, logical_at}

-- ---- the claim, for any kind of answer

-- the answer now is the refusal by the run's end; or it is no refusal with number 3, and later, on the longer run, it is the same
abbrev pub Stays : {A : Type 0} → (A → Type 0) → A → A → A → Type 0
Stays {A} Other ended now later = (now ≡ ended) ⊎ ((later ≡ now) × Other now)

-- a refusal by anything but the run's end
abbrev pub OtherRefusal : Refusal → Type 0
OtherRefusal why = why.number ≡ run_ended → ⊥

pub stays_same : {A : Type 0} (Other : A → Type 0) (ended now : A) → Other now → Stays Other ended now now
stays_same Other ended now h = inr (refl, h)

-- an answer that is worked out from an earlier one stays if it does from each earlier answer, and the earlier one stays
pub stays_on : {A B : Type 0} (Other : A → Type 0) (Other' : B → Type 0) (f f' : A → B) (ended now later : A)
    → ((a : A) → Other a → Stays Other' (f ended) (f a) (f' a)) → Stays Other ended now later → Stays Other' (f ended) (f now) (f' later)
stays_on Other Other' f f' ended now later each (inl h) = inl (ap f h)
stays_on Other Other' f f' ended now later each (inr h) =
    subst (λ a. Stays Other' (f ended) (f now) (f' a)) (sym h.0) (each now h.1)

pub stays_pick : {A : Type 0} (Other : A → Type 0) (ended x x' y y' : A) (t : Bool)
    → Stays Other ended x x' → Stays Other ended y y' → Stays Other ended (pick t x y) (pick t x' y')
stays_pick Other ended x x' y y' true h k = h
stays_pick Other ended x x' y y' false h k = k

-- one raw byte is looked at: it is the same byte on the longer run, or the run has ended
pub stays_byte : {A : Type 0} (Other : A → Type 0) (run more : List ℕ) (at : ℕ) (ended ended' : A) (f f' : ℕ → A)
    → ((b : ℕ) → Stays Other ended (f b) (f' b))
    → Stays Other ended (pick (ltb at (length run)) (f (get_or run at 0)) ended) (pick (ltb at (length (run ++ more))) (f' (get_or (run ++ more) at 0)) ended')
stays_byte Other run more at ended ended' f f' each =
    let b = get_or run at 0 in
    ⊎_elim (λ (h : length run ≤ at). inl (ap (λ t. pick t (f b) ended) (le-ltb at (length run) h)))
    (λ (h : at < length run).
    let now : pick (ltb at (length run)) (f b) ended ≡ f b = ap (λ t. pick t (f b) ended) (lt-ltb at (length run) h) in
    let within : at < length (run ++ more) = omega (arith, length-append run more) in
    let later : pick (ltb at (length (run ++ more))) (f' (get_or (run ++ more) at 0)) ended' ≡ f' b =
    ap (λ t. pick t (f' (get_or (run ++ more) at 0)) ended') (lt-ltb at (length (run ++ more)) within) ∙ ap f' (get_or-append run more 0 at h) in
    subst (λ x. Stays Other ended (pick (ltb at (length run)) (f b) ended) x) (sym later)
    (subst (λ x. Stays Other ended x (f' b)) (sym now) (each b)))
    (le_or_lt (length run) at)

-- ---- a logical byte

abbrev pub OtherByte : Result (ℕ × ℕ) Refusal → Type 0
OtherByte (Ok (b, next)) = Unit {0}
OtherByte (Err why) = OtherRefusal why

module _ (run more : List ℕ) where
  escape_stays : (at : ℕ) → Stays OtherByte (Err (run_over run)) (escape_at run at) (escape_at (run ++ more) at)
  unfolding escape_at
  escape_stays at =
      let f : ℕ → Result (ℕ × ℕ) Refusal =
      λ b. pick (eqb b 0x00) (Ok (esc, (at + 1))) (pick (eqb b 0x01) (Ok (syn, (at + 1))) (pick (eqb b syn) (Err (at_place syn_early at)) (Err (at_place escape_wrong at)))) in
      stays_byte OtherByte run more at (Err (run_over run)) (Err (run_over (run ++ more))) f f
      (λ b.
      stays_same OtherByte (Err (run_over run)) (f b)
      (pick_cases OtherByte (eqb b 0x00) _ _ (λ _. tt)
      (λ _. pick_cases OtherByte (eqb b 0x01) _ _ (λ _. tt)
      (λ _. pick_cases OtherByte (eqb b syn) _ _ (λ _ e. omega arith) (λ _ e. omega arith)))))

  pub logical_stays : (at : ℕ) → Stays OtherByte (Err (run_over run)) (logical_at run at) (logical_at (run ++ more) at)
  unfolding logical_at
  logical_stays at =
      let plain : ℕ → Result (ℕ × ℕ) Refusal = λ b. pick (eqb b syn) (Err (at_place syn_early at)) (Ok (b, (at + 1))) in
      stays_byte OtherByte run more at (Err (run_over run)) (Err (run_over (run ++ more)))
      (λ b. pick (eqb b esc) (escape_at run (at + 1)) (plain b)) (λ b. pick (eqb b esc) (escape_at (run ++ more) (at + 1)) (plain b))
      (λ b.
      stays_pick OtherByte (Err (run_over run)) _ _ (plain b) (plain b) (eqb b esc) (escape_stays (at + 1))
      (stays_same OtherByte (Err (run_over run)) (plain b) (pick_cases OtherByte (eqb b syn) _ _ (λ _ e. omega arith) (λ _. tt))))
