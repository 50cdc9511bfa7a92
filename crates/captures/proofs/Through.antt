-- The bytes through the first SYN, from position to position.
-- Assumes nothing.
use mathlib.Core.Path.{◌≡◌, refl, ap, ◌∙◌}
use mathlib.Core.Bool.{Bool}
use mathlib.Core.List.{List, [], ◌∷◌}
use mathlib.Core.Logic.{◌⊎◌, inl, inr, ⊎_elim}
use Prim.Native.Nat.{ℕ, zero, suc, ◌+◌, ◌-◌, ◌≤◌, ◌<◌, min}
use native.Mathlib.Omega.{arith}
use lib.ListN.{length, get_or, take, drop, length-drop, drop_of_length-le}
use borrow.Author.Tests.{eq-eqb, ne_eqb}
use Rattle.lists.specs.Choice.{pick}
use Rattle.lists.proofs.Cases.{le_or_lt, same_or_not}
use Rattle.lists.proofs.Filling.{drop_next}
use Rattle.lists.proofs.All.{whole_rest}
use Rattle.escapes.specs.Escape.{syn}
use Rattle.beginning.specs.Beginning.{command_start}
use Rattle.beginning.proofs.Begun.{start_size}
use Rattle.captures.specs.Capture.{through_syn, stretch_from, next_exchange}

-- so many bytes were passed, and the first SYN is not among them
abbrev pub Sought : List ℕ → ℕ → Type 0
Sought run at = through_syn run ≡ at + through_syn (drop at run)

through_here : (b : ℕ) (bs : List ℕ) → b ≡ syn → through_syn (b ∷ bs) ≡ 1
unfolding through_syn
through_here b bs e = ap (λ (t : Bool). pick t 1 (1 + through_syn bs)) (eq-eqb b syn e)

through_later : (b : ℕ) (bs : List ℕ) → (b ≡ syn → ⊥) → through_syn (b ∷ bs) ≡ 1 + through_syn bs
unfolding through_syn
through_later b bs e = ap (λ (t : Bool). pick t 1 (1 + through_syn bs)) (ne_eqb b syn e)

none_through : through_syn [] ≡ 0
unfolding through_syn
none_through = refl

-- how many bytes there are through the first SYN from a position on; the first part only names that number, so that the check
-- finds the others by it
pub from_here : (run : List ℕ) (at : ℕ) → (through_syn (drop at run) ≡ through_syn (drop at run)) × (at < length run → get_or run at 0 ≡ syn → through_syn (drop at run) ≡ 1)
    × (at < length run → (get_or run at 0 ≡ syn → ⊥) → through_syn (drop at run) ≡ 1 + through_syn (drop (at + 1) run)) × (length run ≤ at → through_syn (drop at run) ≡ 0)
from_here run at = (
  refl,
  (λ near e. ap through_syn (drop_next run at near) ∙ through_here (get_or run at 0) (drop (at + 1) run) e),
  (λ near e. ap through_syn (drop_next run at near) ∙ through_later (get_or run at 0) (drop (at + 1) run) e),
  (λ far. ap through_syn (drop_of_length-le run far) ∙ none_through),
)

pub through_size : (run : List ℕ) → through_syn run ≤ length run
through_size [] = omega (arith, none_through)
through_size (b ∷ bs) =
    ⊎_elim (λ (e : b ≡ syn). omega (arith, through_here b bs e))
    (λ (e : b ≡ syn → ⊥). omega (arith, through_later b bs e, through_size bs))
    (same_or_not b syn)

-- no byte is left out but where there is none
pub through_some : (run : List ℕ) → 0 < length run → 0 < through_syn run
through_some [] some = omega (arith, some)
through_some (b ∷ bs) some =
    ⊎_elim (λ (e : b ≡ syn). omega (arith, through_here b bs e)) (λ (e : b ≡ syn → ⊥). omega (arith, through_later b bs e)) (same_or_not b syn)

-- SYN is the last of them and stands nowhere before, or there is none
pub through_before : (run : List ℕ) (i : ℕ) → i + 1 < through_syn run → get_or run i 0 ≡ syn → ⊥
through_before [] i h is = let f : ⊥ = omega (arith, none_through) in f
through_before (b ∷ bs) zero h is = let f : ⊥ = omega (arith, through_here b bs is) in f
through_before (b ∷ bs) (suc i) h is =
    ⊎_elim (λ (e : b ≡ syn). let f : ⊥ = omega (arith, through_here b bs e) in f)
    (λ (e : b ≡ syn → ⊥). through_before bs i (omega (arith, through_later b bs e)) is)
    (same_or_not b syn)

pub through_last : (run : List ℕ) → (get_or run (through_syn run - 1) 0 ≡ syn) ⊎ (through_syn run ≡ length run)
through_last [] = inr none_through
through_last (b ∷ bs) =
    ⊎_elim (λ (e : b ≡ syn). let first : through_syn (b ∷ bs) - 1 ≡ 0 = omega (arith, through_here b bs e) in inl (ap (λ (i : ℕ). get_or (b ∷ bs) i 0) first ∙ e))
    (λ (e : b ≡ syn → ⊥). later e (through_last bs))
    (same_or_not b syn)
  where
    later : (b ≡ syn → ⊥) → (get_or bs (through_syn bs - 1) 0 ≡ syn) ⊎ (through_syn bs ≡ length bs) → (get_or (b ∷ bs) (through_syn (b ∷ bs) - 1) 0 ≡ syn) ⊎ (through_syn (b ∷ bs) ≡ length (b ∷ bs))
    later e (inr all) = inr (through_later b bs e ∙ omega (arith, all))
    later e (inl is) =
        ⊎_elim
        (λ (none : length bs ≤ 0). inr (omega (arith, through_later b bs e, through_size bs)))
        (λ (some : 0 < length bs).
        let next : through_syn (b ∷ bs) - 1 ≡ suc (through_syn bs - 1) = omega (arith, through_later b bs e, through_some bs some) in
        inl (ap (λ (i : ℕ). get_or (b ∷ bs) i 0) next ∙ is))
        (le_or_lt (length bs) 0)

-- ---- the next exchange

module _ (capture : List ℕ) (from n : ℕ) (within : from ≤ length capture) (is : n ≡ command_start (take (length capture - from) (drop from capture))) where
  pub start_is : n ≡ command_start (drop from capture)
  start_is = is ∙ ap command_start (whole_rest capture from)

  pub start_within : from + n ≤ length capture
  start_within = omega (arith, start_is, start_size (drop from capture), length-drop from capture, within)

  module _ (m : ℕ) (ends : m ≡ through_syn (take (length capture - (from + n)) (drop (from + n) capture))) where
    end_is : m ≡ through_syn (drop (from + n) capture)
    end_is = ends ∙ ap through_syn (whole_rest capture (from + n))

    pub end_within : from + n + m ≤ length capture
    end_within = omega (arith, start_within, end_is, through_size (drop (from + n) capture), length-drop (from + n) capture)

    pub is_next : (at : ℕ) → from ≡ min at (length capture) → record { start = from + n; end = from + n + m } ≡ next_exchange capture at
    unfolding next_exchange
    is_next at clipped =
        let there : from + n ≡ from + command_start (drop from capture) = ap (λ (k : ℕ). from + k) start_is in
        ap (λ (k : ℕ). record { start = from + n; end = from + n + k }) end_is
        ∙ ap (λ (s : ℕ). record { start = s; end = s + through_syn (drop s capture) }) there
        ∙ ap (stretch_from capture) clipped
