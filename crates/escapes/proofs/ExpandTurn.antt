-- One turn of the loop that writes logical bytes as they go on the wire: what it stores, and that there is room.
-- Assumes nothing.
use mathlib.Core.Path.{◌≡◌, sym, ap, ◌∙◌, subst}
use mathlib.Core.List.{List, ◌∷◌}
use mathlib.Core.Logic.{◌⊎◌}
use Prim.Native.Nat.{ℕ, ◌+◌, ◌-◌, ◌≤◌, ◌<◌}
use native.Mathlib.Omega.{arith}
use lib.ListN.{length, get_or, take, drop, set}
use Rattle.lists.specs.Starting.{starting}
use Rattle.lists.proofs.Filling.{head_within, rest_is, fill_within, fill_next}
use Rattle.escapes.specs.Escape.{esc, syn, expanded}
use Rattle.escapes.proofs.Escaped.{special, expanded_plain, expanded_special}

-- the output starts with the first n raw bytes, and the others are those of the logical bytes from i on
pub record Filled (logical old out : List ℕ) (n i : ℕ) : Type 0 where
  pub within : n ≤ length (expanded logical)
  pub rest : drop n (expanded logical) ≡ expanded (drop i logical)
  pub output : out ≡ starting (take n (expanded logical)) old

module _ (logical old out : List ℕ) (n i : ℕ)
    (room : length (expanded logical) ≤ length old) (more : i < length logical) (f : Filled logical old out n i) where
  -- a byte that stands for itself
  pub record Stored : Type 0 where
    pub room_for : n < length out
    pub filled : Filled logical old (set out n (get_or logical i 0)) (n + 1) (i + 1)

  pub stored : (get_or logical i 0 ≡ esc → ⊥) → (get_or logical i 0 ≡ syn → ⊥) → Stored
  stored no_esc no_syn =
      let b = get_or logical i 0 in
      let wire = expanded logical in
      let then = expanded (drop (i + 1) logical) in
      let due : drop n wire ≡ b ∷ then = f.rest ∙ expanded_plain logical i more no_esc no_syn in
      record {
        room_for = fill_within wire old out n b then room f.output due;
        filled =
            record {
              within = omega (arith, head_within wire n b then due);
              rest = rest_is wire n b then due;
              output = fill_next wire old out n b then room f.output due;
            };
      }

  -- a byte that goes out as two
  pub record StoredTwo : Type 0 where
    pub room_for : n < length out
    pub room_behind : n + 1 < length (set out n esc)
    pub filled : Filled logical old (set (set out n esc) (n + 1) (get_or logical i 0 - esc)) (n + 2) (i + 1)

  pub stored_two : (get_or logical i 0 ≡ esc) ⊎ (get_or logical i 0 ≡ syn) → StoredTwo
  stored_two which =
      let second = get_or logical i 0 - esc in
      let wire = expanded logical in
      let then = expanded (drop (i + 1) logical) in
      let due : drop n wire ≡ esc ∷ second ∷ then = f.rest ∙ expanded_special logical i more which in
      let behind : drop (n + 1) wire ≡ second ∷ then = rest_is wire n esc (second ∷ then) due in
      let one : set out n esc ≡ starting (take (n + 1) wire) old = fill_next wire old out n esc (second ∷ then) room f.output due in
      let two : n + 1 + 1 ≡ n + 2 = omega arith in
      record {
        room_for = fill_within wire old out n esc (second ∷ then) room f.output due;
        room_behind = fill_within wire old (set out n esc) (n + 1) second then room one behind;
        filled =
            record {
              within = omega (arith, head_within wire (n + 1) second then behind);
              rest = ap (λ (k : ℕ). drop k wire) (sym two) ∙ rest_is wire (n + 1) second then behind;
              output = fill_next wire old (set out n esc) (n + 1) second then room one behind ∙ ap (λ (k : ℕ). starting (take k wire) old) two;
            };
      }

  -- .. which it is by its place from A9 to AA
  pub two : esc ≤ get_or logical i 0 → get_or logical i 0 ≤ syn → StoredTwo
  two low high = stored_two (special (get_or logical i 0) low high)

-- the same, where what a turn leaves is known by equations
pub filled_as : (logical old : List ℕ) {out out' : List ℕ} {n n' : ℕ} (i : ℕ) → out ≡ out' → n ≡ n' → Filled logical old out' n' i → Filled logical old out n i
filled_as logical old {out} {out'} {n} {n'} i out_is n_is f =
    subst (λ (o : List ℕ). Filled logical old o n i) (sym out_is) (subst (λ (k : ℕ). Filled logical old out' k i) (sym n_is) f)
