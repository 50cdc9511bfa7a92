-- What stands on the wire for one byte, and for the bytes from a position on.
-- Assumes nothing.
use mathlib.Core.Path.{◌≡◌, refl, sym, ap, ◌∙◌}
use mathlib.Core.List.{List, [], ◌∷◌, ◌++◌, append_assoc}
use mathlib.Core.Logic.{◌⊎◌, inl, inr, ⊎_elim}
use Prim.Native.Nat.{ℕ, ◌+◌, ◌-◌, ◌<◌, ◌≤◌}
use native.Mathlib.Omega.{arith}
use lib.ListN.{length, get_or, drop}
use borrow.Author.Tests.{ne_eqb}
use Rattle.lists.proofs.Cases.{same_or_not}
use Rattle.lists.proofs.Filling.{drop_next}
use Rattle.escapes.specs.Escape.{esc, syn, escaped, expanded}

pub escaped_plain : (b : ℕ) → (b ≡ esc → ⊥) → (b ≡ syn → ⊥) → escaped b ≡ b ∷ []
unfolding escaped
escaped_plain b no_esc no_syn = simp (ne_eqb _ _ no_esc, ne_eqb _ _ no_syn)

pub escaped_special : (b : ℕ) → (b ≡ esc) ⊎ (b ≡ syn) → escaped b ≡ esc ∷ (b - esc) ∷ []
unfolding escaped
escaped_special b which = ⊎_elim (λ (e : b ≡ esc). rw e) (λ (e : b ≡ syn). rw e) which

-- the escape test: a byte from A9 to AA
pub special : (b : ℕ) → esc ≤ b → b ≤ syn → (b ≡ esc) ⊎ (b ≡ syn)
special b low high = ⊎_elim (λ e. inl e) (λ no. inr (omega (arith, no))) (same_or_not b esc)

-- the bytes from i on: the byte at i, and the bytes from i + 1 on
module _ (logical : List ℕ) (i : ℕ) (h : i < length logical) where
  pub expanded_next : expanded (drop i logical) ≡ escaped (get_or logical i 0) ++ expanded (drop (i + 1) logical)
  unfolding expanded
  expanded_next = ap expanded (drop_next logical i h)

  pub expanded_plain : (get_or logical i 0 ≡ esc → ⊥) → (get_or logical i 0 ≡ syn → ⊥)
      → expanded (drop i logical) ≡ get_or logical i 0 ∷ expanded (drop (i + 1) logical)
  expanded_plain no_esc no_syn =
      expanded_next ∙ ap (λ (l : List ℕ). l ++ expanded (drop (i + 1) logical)) (escaped_plain (get_or logical i 0) no_esc no_syn)

  pub expanded_special : (get_or logical i 0 ≡ esc) ⊎ (get_or logical i 0 ≡ syn)
      → expanded (drop i logical) ≡ esc ∷ (get_or logical i 0 - esc) ∷ expanded (drop (i + 1) logical)
  expanded_special which =
      expanded_next ∙ ap (λ (l : List ℕ). l ++ expanded (drop (i + 1) logical)) (escaped_special (get_or logical i 0) which)

pub expanded_append : (a b : List ℕ) → expanded (a ++ b) ≡ expanded a ++ expanded b
unfolding expanded
expanded_append [] b = refl
expanded_append (x ∷ a) b = ap (λ (l : List ℕ). escaped x ++ l) (expanded_append a b) ∙ sym (append_assoc (escaped x) (expanded a) (expanded b))
