-- What a request's number writes, by its three cases, each as the promise on the call for C.
-- Assumes nothing.
use mathlib.Core.Path.{◌≡◌, refl, sym, subst}
use mathlib.Core.List.{List}
use Prim.Native.Nat.{ℕ}
use borrow.Author.Tests.{eq-eqb, ne_eqb}
use Rattle.refusal.specs.Number.{subcommand_wrong, at_place}
use Rattle.refusal.specs.Output.{Output, refused, Wrote}
use Rattle.framing.specs.Layout.{start_scan, continue_scan}
use Rattle.requests.specs.Writing.{write_request}
use Rattle.requests.specs.declared.Request.TheVariants.{Start, Continue}
use Rattle.boundary.specs.ForC.{written_for_c}
use Rattle.boundary.specs.declared.MoorWritten.{MoorWritten}
use Rattle.framecalls.specs.RequestNumber.{request_output}

start_output : (request room : ℕ) → request ≡ start_scan → request_output request room ≡ write_request Start room
unfolding request_output
start_output request room e = simp (eq-eqb _ _ e)

continue_output : (request room : ℕ) → (request ≡ start_scan → ⊥) → request ≡ continue_scan → request_output request room ≡ write_request Continue room
unfolding request_output
continue_output request room n e = simp (ne_eqb _ _ n, eq-eqb _ _ e)

no_output : (request room : ℕ) → (request ≡ start_scan → ⊥) → (request ≡ continue_scan → ⊥) → request_output request room ≡ refused (at_place subcommand_wrong 0)
unfolding request_output
no_output request room n m = simp (ne_eqb _ _ n, ne_eqb _ _ m)

module _ (request room : ℕ) (r : MoorWritten) (old new : List ℕ) where
  by_output : (out : Output) → request_output request room ≡ out → Wrote written_for_c out r old new → Wrote written_for_c (request_output request room) r old new
  by_output out e w = subst (λ (o : Output). Wrote written_for_c o r old new) (sym e) w

  pub wrote_start : request ≡ start_scan → Wrote written_for_c (write_request Start room) r old new → Wrote written_for_c (request_output request room) r old new
  wrote_start e w = by_output (write_request Start room) (start_output request room e) w

  pub wrote_continue : (request ≡ start_scan → ⊥) → request ≡ continue_scan → Wrote written_for_c (write_request Continue room) r old new
      → Wrote written_for_c (request_output request room) r old new
  wrote_continue n e w = by_output (write_request Continue room) (continue_output request room n e) w

-- neither: nothing is written
pub wrote_neither : (request room : ℕ) (r : MoorWritten) (old : List ℕ) → (request ≡ start_scan → ⊥) → (request ≡ continue_scan → ⊥)
    → r ≡ record { number = subcommand_wrong; place = 0; length = 0 } → Wrote written_for_c (request_output request room) r old old
wrote_neither request room r old n m e =
    by_output request room r old old (refused (at_place subcommand_wrong 0)) (no_output request room n m) (record { result = e; output = refl })
