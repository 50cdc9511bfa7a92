-- Laws for calls that write: from the length that a call worked out to the promise `Wrote`.
-- Assumes nothing.
use Rattle.std.specs.Prelude.{Result, Ok, Err}
use mathlib.Core.Path.{◌≡◌, refl, sym, ap, ◌∙◌, subst}
use mathlib.Core.List.{List}
use Prim.Native.Nat.{ℕ, ◌≤◌, ◌<◌}
use native.Mathlib.Omega.{arith}
use lib.Dec.{leb}
use lib.ListN.{length}
use borrow.Author.Tests.{le-leb, lt-leb, leb-true}
use mathlib.Mathlib.Logic.Function.Defs.{id}
use Rattle.lists.specs.Choice.{pick}
use Rattle.lists.proofs.Cases.{by_test}
use Rattle.lists.specs.Starting.{starting}
use Rattle.refusal.specs.Number.{output_short, at_place}
use Rattle.refusal.specs.Output.{Output, bytes, refused, content, fitting, written, left, Wrote}
use Rattle.refusal.specs.declared.Refusal.{Refusal}

-- an output whose answer is a length is bytes of that length
pub accepted : (o : Output) (n : ℕ) → written o ≡ Ok n → o ≡ bytes (content o)
accepted (bytes bs) n e = refl
accepted (refused why) n e = let z : ◌≡◌ {A = ℕ} 0 1 = cc in let f : ⊥ = omega arith in absurd f

pub accepted_length : (o : Output) (n : ℕ) → written o ≡ Ok n → length (content o) ≡ n
accepted_length (bytes bs) n e = cc
accepted_length (refused why) n e = let z : ◌≡◌ {A = ℕ} 0 1 = cc in let f : ⊥ = omega arith in absurd f

module _ (o : Output) (room : ℕ) (old : List ℕ) where
  -- refused before its room was looked at
  pub wrote_refused : (r : Result ℕ Refusal) (why : Refusal) → r ≡ written o → r ≡ Err why → Wrote id (fitting room o) r old old
  wrote_refused r why e refusal = by_cases o e
    where
      by_cases : (o : Output) → r ≡ written o → Wrote id (fitting room o) r old old
      by_cases (bytes bs) e = let z : ◌≡◌ {A = ℕ} 0 1 = cc in let f : ⊥ = omega arith in absurd f
      by_cases (refused w) e = record { result = e; output = refl }

  module _ (n : ℕ) (e : written o ≡ Ok n) where
    fits_is : (short : room < n) → fitting room o ≡ refused (at_place output_short 0)
    fits_is short =
        ap (fitting room) (accepted o n e)
        ∙ ap (λ b. pick b (bytes (content o)) (refused (at_place output_short 0))) (lt-leb (length (content o)) room (omega (arith, accepted_length o n e)))

    -- number 1
    pub wrote_short : (r : Result ℕ Refusal) → room < n → r ≡ Err (at_place output_short 0) → Wrote id (fitting room o) r old old
    wrote_short r short is_one =
        record {
          result = is_one ∙ ap written (sym (fits_is short));
          output = ap (λ (out : Output). left out old) (sym (fits_is short));
        }

    -- all of it
    pub wrote_all : (new : List ℕ) → n ≤ room → new ≡ starting (content o) old → Wrote id (fitting room o) (Ok n) old new
    wrote_all new enough is_new =
        let fits : fitting room o ≡ o =
        ap (fitting room) (accepted o n e)
        ∙ ap (λ b. pick b (bytes (content o)) (refused (at_place output_short 0))) (le-leb (length (content o)) room (omega (arith, accepted_length o n e)))
        ∙ sym (accepted o n e) in
        record {
          result = sym (ap written fits ∙ e);
          output = is_new ∙ ap (λ (out : Output). left out old) (sym (accepted o n e) ∙ sym fits);
        }

-- refused outright
pub wrote_none : (o : Output) (room : ℕ) (old : List ℕ) (why : Refusal) (r : Result ℕ Refusal) → o ≡ refused why → r ≡ Err why → Wrote id (fitting room o) r old old
wrote_none o room old why r e is =
    record {
      result = is ∙ ap (λ (x : Output). written (fitting room x)) (sym e);
      output = ap (λ (x : Output). left (fitting room x) old) (sym e);
    }

-- the same output under another name
pub wrote_same : (o o' : Output) (room : ℕ) (old new : List ℕ) (r : Result ℕ Refusal) → o ≡ o' → Wrote id (fitting room o) r old new → Wrote id (fitting room o') r old new
wrote_same o o' room old new r e w = subst (λ (x : Output). Wrote id (fitting room x) r old new) e w

-- the same promise with its result shown otherwise
pub wrote_shown : {A : Type 0} (shows : Result ℕ Refusal → A) (out : Output) (w : Result ℕ Refusal) (r : A) (old new : List ℕ) → r ≡ shows w → Wrote id out w old new → Wrote shows out r old new
wrote_shown shows out w r old new e wrote = record { result = e ∙ ap shows wrote.result; output = wrote.output }

-- bytes that come out of a room came in, and fit it
pub fitted : (o : Output) (room : ℕ) (bs : List ℕ) → fitting room o ≡ bytes bs → (o ≡ bytes bs) × (length bs ≤ room)
fitted (bytes cs) room bs e =
    by_test (leb (length cs) room)
    (λ fits. let same : bytes cs ≡ bytes bs = sym (ap (λ b. pick b (bytes cs) (refused (at_place output_short 0))) fits) ∙ e in
    let size : length cs ≡ length bs = ap (λ (o : Output). length (content o)) same in
    (same, omega (arith, leb-true (length cs) room fits)))
    (λ short. let wrong : refused (at_place output_short 0) ≡ bytes bs = sym (ap (λ b. pick b (bytes cs) (refused (at_place output_short 0))) short) ∙ e in
    let z : ◌≡◌ {A = ℕ} 0 1 = cc in let f : ⊥ = omega arith in absurd f)
fitted (refused why) room bs e = let z : ◌≡◌ {A = ℕ} 0 1 = cc in let f : ⊥ = omega arith in absurd f

-- .. and bytes that fit come out
pub fits_whole : (bs : List ℕ) (room : ℕ) → length bs ≤ room → fitting room (bytes bs) ≡ bytes bs
fits_whole bs room h = ap (λ b. pick b (bytes bs) (refused (at_place output_short 0))) (le-leb (length bs) room h)
