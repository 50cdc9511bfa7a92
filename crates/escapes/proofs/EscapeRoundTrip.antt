-- Expanding and undoing are each other's inverse, and the lengths.
-- Assumes nothing.
use Rattle.std.specs.Prelude.{Result, Ok, Err}
use Rattle.refusal.specs.declared.Refusal.{Refusal}
use mathlib.Core.Path.{◌≡◌, refl, sym, ap, ◌∙◌}
use mathlib.Core.List.{List, [], ◌∷◌, ◌++◌}
use mathlib.Core.Logic.{◌⊎◌, inl, inr, ⊎_elim}
use Prim.Native.Nat.{ℕ, zero, suc, ◌+◌, ◌-◌, ◌*◌, ◌≤◌, ◌<◌}
use native.Mathlib.Omega.{arith}
use lib.Dec.{eqb}
use lib.ListN.{length, drop, length-drop, length-append, drop_of_length-le}
use borrow.Author.Tests.{lt-ltb, ne_eqb}
use Rattle.lists.specs.Choice.{pick}
use Rattle.lists.proofs.Cases.{le_or_lt, same_or_not}
use Rattle.lists.proofs.Filling.{head_within, head_is, rest_is}
use Rattle.refusal.specs.Output.{Output, bytes}
use Rattle.escapes.specs.Escape.{esc, syn, escaped, expanded}
use Rattle.escapes.proofs.Escaped.{escaped_plain, escaped_special}
use Rattle.escapes.specs.Logical.{escape_at, logical_at}
use Rattle.escapes.specs.Undo.{before, with_rest, undone_from, undone}
use Rattle.escapes.proofs.LogicalBytes.{Stands, logical_stands, before_bytes, none_left}

-- ---- a byte on the wire is read as itself

-- a byte is A9, AA or neither
pub kinds : (b : ℕ) → (((b ≡ esc) ⊎ (b ≡ syn)) ⊎ ((b ≡ esc → ⊥) × (b ≡ syn → ⊥)))
kinds b =
    ⊎_elim (λ e. inl (inl e)) (λ no_esc. ⊎_elim (λ e. inl (inr e)) (λ no_syn. inr (no_esc, no_syn)) (same_or_not b syn)) (same_or_not b esc)

module _ (run : List ℕ) (at b : ℕ) (rest : List ℕ) (on_wire_lem : drop at run ≡ escaped b ++ rest) where
  plain : (b ≡ esc → ⊥) → (b ≡ syn → ⊥) → (next : ℕ) × (logical_at run at ≡ Ok (b, next)) × (drop next run ≡ rest)
  unfolding logical_at
  plain no_esc no_syn =
      let due : drop at run ≡ b ∷ rest = on_wire_lem ∙ ap (λ (l : List ℕ). l ++ rest) (escaped_plain b no_esc no_syn) in (
        at + 1,
        simp (lt-ltb _ _ (head_within run at b rest due), head_is run at b rest due, ne_eqb _ _ no_esc, ne_eqb _ _ no_syn),
        rest_is run at b rest due,
      )

  special : (b ≡ esc) ⊎ (b ≡ syn) → (next : ℕ) × (logical_at run at ≡ Ok (b, next)) × (drop next run ≡ rest)
  unfolding logical_at escape_at
  special which =
      let due : drop at run ≡ esc ∷ (b - esc) ∷ rest = on_wire_lem ∙ ap (λ (l : List ℕ). l ++ rest) (escaped_special b which) in
      let second : drop (at + 1) run ≡ (b - esc) ∷ rest = rest_is run at esc ((b - esc) ∷ rest) due in
      let h = head_within run at esc ((b - esc) ∷ rest) due in
      let x = head_is run at esc ((b - esc) ∷ rest) due in
      let h' = head_within run (at + 1) (b - esc) rest second in
      let y = head_is run (at + 1) (b - esc) rest second in (
        at + 1 + 1,
        ⊎_elim (λ (e : b ≡ esc). simp (lt-ltb _ _ h, x, lt-ltb _ _ h', y, e)) (λ (e : b ≡ syn). simp (lt-ltb _ _ h, x, lt-ltb _ _ h', y, e)) which,
        rest_is run (at + 1) (b - esc) rest second,
      )

  -- the byte that stands there escaped is read, and what is left behind it is the rest
  pub read_back : (next : ℕ) × (logical_at run at ≡ Ok (b, next)) × (drop next run ≡ rest)
  read_back = ⊎_elim special (λ no. plain no.0 no.1) (kinds b)

  pub read_within : at < length run
  read_within =
      ⊎_elim (λ which. head_within run at esc ((b - esc) ∷ rest) (on_wire_lem ∙ ap (λ (l : List ℕ). l ++ rest) (escaped_special b which)))
      (λ no. head_within run at b rest (on_wire_lem ∙ ap (λ (l : List ℕ). l ++ rest) (escaped_plain b no.0 no.1))) (kinds b)

-- ---- undoing what was expanded

from_here : (bs run : List ℕ) (m at : ℕ) → drop at run ≡ expanded bs → length bs ≤ m → undone_from run m at ≡ bytes bs
unfolding expanded undone_from
from_here [] run m at e room = none_left run 0 at (omega (arith, length-drop at run, ap length e)) m
from_here (b ∷ bs) run zero at e room = let f : ⊥ = omega arith in absurd f
from_here (b ∷ bs) run (suc m) at e room =
    let back = read_back run at b (expanded bs) e in
    ap (λ t. pick t (with_rest (logical_at run at) (undone_from run m)) (bytes [])) (lt-ltb _ _ (read_within run at b (expanded bs) e))
    ∙ ap (λ (l : Result (ℕ × ℕ) Refusal). with_rest l (undone_from run m)) back.1
    ∙ ap (before b) (from_here bs run m back.0 back.2 (omega arith))

-- ---- the lengths: an A9 or AA takes one raw byte more

abbrev pub specials : List ℕ → ℕ
specials [] = 0
specials (b ∷ bs) = pick (eqb b esc) 1 (pick (eqb b syn) 1 0) + specials bs

escaped_length : (b : ℕ) → length (escaped b) ≡ 1 + pick (eqb b esc) 1 (pick (eqb b syn) 1 0)
unfolding escaped
escaped_length b =
    ⊎_elim (⊎_elim (λ (e : b ≡ esc). simp e) (λ (e : b ≡ syn). simp e)) (λ no. simp (ne_eqb _ _ no.0, ne_eqb _ _ no.1)) (kinds b)

pub expanded_length : (bs : List ℕ) → length (expanded bs) ≡ length bs + specials bs
unfolding expanded
expanded_length [] = refl
expanded_length (b ∷ bs) = length-append (escaped b) (expanded bs) ∙ omega (arith, escaped_length b, expanded_length bs)

pub expanded_longer : (bs : List ℕ) → length bs ≤ length (expanded bs)
expanded_longer bs = omega (arith, expanded_length bs)

special_le : (b : ℕ) → pick (eqb b esc) 1 (pick (eqb b syn) 1 0) ≤ 1
special_le b = ⊎_elim (⊎_elim (λ (e : b ≡ esc). simp e (omega arith)) (λ (e : b ≡ syn). simp e (omega arith))) (λ no. simp (ne_eqb _ _ no.0, ne_eqb _ _ no.1) (omega arith)) (kinds b)

pub expanded_at_most : (bs : List ℕ) → length (expanded bs) ≤ 2 * length bs
expanded_at_most bs = omega (arith, expanded_length bs, few bs)
  where
    few : (l : List ℕ) → specials l ≤ length l
    few [] = omega arith
    few (b ∷ l) = omega (arith, special_le b, few l)

-- undo of expand is the identity, for every input
pub undo_expand : (bs : List ℕ) → undone (expanded bs) ≡ bytes bs
unfolding undone
undo_expand bs = from_here bs (expanded bs) (length (expanded bs)) 0 refl (expanded_longer bs)

-- ---- expanding what was undone

module _ (raw : List ℕ) (at : ℕ) (bs : List ℕ) where
  at_end : length raw ≤ at → bytes [] ≡ bytes bs → drop at raw ≡ expanded bs
  unfolding expanded
  at_end h e =
      let same : [] ≡ bs = cc in
      drop_of_length-le raw h ∙ ap expanded same

  -- one byte, and then whatever is accepted of the rest
  by_byte : (rest : ℕ → Output) (rec : (next : ℕ) (l : List ℕ) → at < next → rest next ≡ bytes l → drop next raw ≡ expanded l)
      → (l : Result (ℕ × ℕ) Refusal) → Stands raw at l → with_rest l rest ≡ bytes bs → drop at raw ≡ expanded bs
  unfolding expanded
  by_byte rest rec (Ok (b, next)) s w =
      let two = before_bytes b (rest next) bs w in
      s.2 ∙ ap (λ (l : List ℕ). escaped b ++ l) (rec next (drop 1 bs) s.0 two.0) ∙ ap expanded (sym two.1)
  by_byte rest rec (Err why) s w = let z : ◌≡◌ {A = ℕ} 0 1 = cc in let f : ⊥ = omega arith in absurd f

accepted_from : (raw : List ℕ) (m at : ℕ) (bs : List ℕ) → length raw ≤ at + m → undone_from raw m at ≡ bytes bs → drop at raw ≡ expanded bs
unfolding undone_from
accepted_from raw zero at bs all e = at_end raw at bs (omega arith) e
accepted_from raw (suc m) at bs all e =
    ⊎_elim (λ h. at_end raw at bs h (sym (none_left raw 0 at h (suc m)) ∙ e))
    (λ h.
    by_byte raw at bs (undone_from raw m) (λ next l later w. accepted_from raw m next l (omega arith) w) (logical_at raw at) (logical_stands raw at)
    (sym (ap (λ t. pick t (with_rest (logical_at raw at) (undone_from raw m)) (bytes [])) (lt-ltb _ _ h)) ∙ e))
    (le_or_lt (length raw) at)

-- expand of undo is the raw input, where it was accepted
pub expand_undo : (raw bs : List ℕ) → undone raw ≡ bytes bs → expanded bs ≡ raw
unfolding undone
expand_undo raw bs e = sym (accepted_from raw (length raw) 0 bs (omega arith) e)

-- what was undone is no longer than the raw input
pub undone_length : (raw bs : List ℕ) → undone raw ≡ bytes bs → length bs ≤ length raw
undone_length raw bs e = omega (arith, expanded_longer bs, ap length (expand_undo raw bs e))
