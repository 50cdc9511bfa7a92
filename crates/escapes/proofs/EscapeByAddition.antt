-- The second half of an escape by arithmetic: it is added to A9.
-- Assumes nothing.
use Rattle.std.specs.Prelude.{Ok, Err}
use mathlib.Core.Path.{◌≡◌, sym, ap, ◌∙◌}
use mathlib.Core.Logic.{⊎_elim}
use mathlib.Core.List.{List}
use Prim.Native.Nat.{ℕ, ◌+◌, ◌≤◌, ◌<◌}
use native.Mathlib.Omega.{arith}
use lib.ListN.{length, get_or}
use borrow.Author.Tests.{lt-ltb, ne_eqb}
use Rattle.lists.proofs.Cases.{same_or_not}
use Rattle.refusal.specs.Number.{escape_wrong, syn_early, at_place}
use Rattle.escapes.specs.Escape.{esc, syn}
use Rattle.escapes.specs.Logical.{escape_at}

module _ (run : List ℕ) (place : ℕ) (within : place < length run) where
  half_zero : get_or run place 0 ≡ 0 → escape_at run place ≡ Ok (esc, (place + 1))
  unfolding escape_at
  half_zero e = simp (lt-ltb _ _ within, e)

  half_one : get_or run place 0 ≡ 1 → escape_at run place ≡ Ok (syn, (place + 1))
  unfolding escape_at
  half_one e = simp (lt-ltb _ _ within, e)

  pub half_read : get_or run place 0 ≤ 1 → escape_at run place ≡ Ok ((esc + get_or run place 0), (place + 1))
  half_read small =
      ⊎_elim
      (λ z. half_zero z ∙ ap (λ (b : ℕ). Ok ((esc + b), (place + 1))) (sym z))
      (λ z.
      let one : get_or run place 0 ≡ 1 = omega (arith, z) in
      half_one one ∙ ap (λ (b : ℕ). Ok ((esc + b), (place + 1))) (sym one))
      (same_or_not (get_or run place 0) 0)

  pub half_early : 1 < get_or run place 0 → get_or run place 0 ≡ syn → escape_at run place ≡ Err (at_place syn_early place)
  unfolding escape_at
  half_early over e = simp (lt-ltb _ _ within, e)

  pub half_wrong : 1 < get_or run place 0 → (get_or run place 0 ≡ syn → ⊥) → escape_at run place ≡ Err (at_place escape_wrong place)
  unfolding escape_at
  half_wrong over other =
      simp (lt-ltb _ _ within, ne_eqb (get_or run place 0) 0 (λ z. omega arith), ne_eqb (get_or run place 0) 1 (λ z. omega arith), ne_eqb _ _ other)
