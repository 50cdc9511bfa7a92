-- A list that is moved up within itself: what is read is still as it was.
-- Assumes nothing.
use mathlib.Core.Path.{◌≡◌, sym, ap, ◌∙◌}
use mathlib.Core.List.{List, ◌∷◌}
use Prim.Native.Nat.{ℕ, ◌+◌, ◌≤◌, ◌<◌}
use native.Mathlib.Omega.{arith}
use lib.ListN.{length, get_or, take, drop, set, length-drop}
use lib.Seq.{get_or-append-add, get_or-drop, length-take-le}
use Rattle.lists.specs.Starting.{starting}
use Rattle.lists.proofs.Filling.{drop_next, fill_next, starting_all, length_starting_take}

-- the first i are moved
abbrev pub Moved : ℕ → List ℕ → List ℕ → ℕ → Type 0
Moved by old now i = (i ≤ length (drop by old)) × (now ≡ starting (take i (drop by old)) old)

module _ (by : ℕ) (old now : List ℕ) (i : ℕ) (moved : Moved by old now i) where
  fits : length (drop by old) ≤ length old
  fits = omega (arith, length-drop by old)

  pub moved_length : length now ≡ length old
  moved_length = ap length moved.1 ∙ length_starting_take (drop by old) old i moved.0 fits

  module _ (more : i < length (drop by old)) where
    -- what is moved next
    next_is : get_or now (by + i) 0 ≡ get_or (drop by old) i 0
    next_is =
        let first : length (take i (drop by old)) ≡ i = length-take-le i (drop by old) moved.0 in
        let place : by + i ≡ length (take i (drop by old)) + by = omega arith in
        let same : i + by ≡ by + i = omega arith in
        ap (λ (l : List ℕ). get_or l (by + i) 0) moved.1
        ∙ ap (λ (k : ℕ). get_or (starting (take i (drop by old)) old) k 0) place
        ∙ get_or-append-add (take i (drop by old)) (drop (length (take i (drop by old))) old) by 0
        ∙ ap (λ (k : ℕ). get_or (drop k old) by 0) first
        ∙ get_or-drop i old by 0
        ∙ ap (λ (k : ℕ). get_or old k 0) same
        ∙ sym (get_or-drop by old i 0)

    pub moved_next : Moved by old (set now i (get_or now (by + i) 0)) (i + 1)
    moved_next = (
      omega arith,
      fill_next (drop by old) old now i (get_or now (by + i) 0) (drop (i + 1) (drop by old)) fits moved.1
          (drop_next (drop by old) i more ∙ ap (λ (x : ℕ). x ∷ drop (i + 1) (drop by old)) (sym next_is)),
    )

  pub moved_all : length (drop by old) ≤ i → now ≡ starting (drop by old) old
  moved_all end =
      let all : i ≡ length (drop by old) = omega (arith, moved.0) in
      moved.1 ∙ ap (λ (k : ℕ). starting (take k (drop by old)) old) all ∙ starting_all (drop by old) old
