-- Copying logical bytes that stand in a run: one turn of the loop, by what stands there for the next of them.
-- Assumes nothing.
use mathlib.Core.Path.{◌≡◌, sym, ap, ◌∙◌, subst}
use mathlib.Core.List.{List, ◌∷◌, ◌++◌, append_assoc}
use mathlib.Core.Logic.{◌⊎◌, ⊎_elim}
use Prim.Native.Nat.{ℕ, ◌+◌, ◌-◌, ◌≤◌, ◌<◌}
use native.Mathlib.Omega.{arith}
use lib.ListN.{length, get_or, take, drop, set}
use Rattle.lists.specs.Starting.{starting}
use Rattle.lists.proofs.Filling.{drop_next, head_within, head_is, rest_is, fill_next, starting_all, length_starting_take}
use Rattle.escapes.specs.Escape.{esc, syn, escaped, expanded}
use Rattle.escapes.proofs.Escaped.{escaped_plain, escaped_special}
use Rattle.escapes.proofs.EscapeRoundTrip.{kinds}

-- the output starts with the first i of the bytes s, and the others stand at next
pub record Copying (run s rest old out : List ℕ) (i next : ℕ) : Type 0 where
  pub within : i ≤ length s
  pub room : length s ≤ length old
  pub wire : drop next run ≡ expanded (drop i s) ++ rest
  pub output : out ≡ starting (take i s) old

module _ (run s rest old out : List ℕ) (i next : ℕ) (c : Copying run s rest old out i next) where
  pub copying_length : length out ≡ length old
  copying_length = ap length c.output ∙ length_starting_take s old i c.within c.room

  pub copied : length s ≤ i → out ≡ starting s old
  copied h =
      let all : i ≡ length s = omega (arith, c.within) in
      c.output ∙ ap (λ (k : ℕ). starting (take k s) old) all ∙ starting_all s old

  module _ (more : i < length s) where
    abbrev b : ℕ
    b = get_or s i 0

    abbrev later : List ℕ
    later = expanded (drop (i + 1) s) ++ rest

    due : drop i s ≡ b ∷ drop (i + 1) s
    due = drop_next s i more

    there : drop next run ≡ escaped b ++ later
    unfolding expanded
    there = c.wire ∙ ap (λ (l : List ℕ). expanded l ++ rest) due ∙ append_assoc (escaped b) (expanded (drop (i + 1) s)) rest

    as_plain : (b ≡ esc → ⊥) → (b ≡ syn → ⊥) → drop next run ≡ b ∷ later
    as_plain no_esc no_syn = there ∙ ap (λ (l : List ℕ). l ++ later) (escaped_plain b no_esc no_syn)

    as_special : (b ≡ esc) ⊎ (b ≡ syn) → drop next run ≡ esc ∷ (b - esc) ∷ later
    as_special which = there ∙ ap (λ (l : List ℕ). l ++ later) (escaped_special b which)

    pub copy_within : next < length run
    copy_within =
        ⊎_elim (λ which. head_within run next esc ((b - esc) ∷ later) (as_special which))
        (λ no. head_within run next b later (as_plain no.0 no.1)) (kinds b)

    stored : (x at : ℕ) → x ≡ b → drop at run ≡ later → Copying run s rest old (set out i x) (i + 1) at
    stored x at is behind =
        record {
          within = omega arith;
          room = c.room;
          wire = behind;
          output = ap (set out i) is ∙ fill_next s old out i b (drop (i + 1) s) c.room c.output due;
        }

    -- a byte that is no A9 stands for itself
    pub copy_plain : (get_or run next 0 ≡ esc → ⊥) → Copying run s rest old (set out i (get_or run next 0)) (i + 1) (next + 1)
    copy_plain not_esc =
        ⊎_elim (λ which. absurd (not_esc (head_is run next esc ((b - esc) ∷ later) (as_special which))))
        (λ plain.
        let e = as_plain plain.0 plain.1 in
        stored (get_or run next 0) (next + 1) (head_is run next b later e) (rest_is run next b later e)) (kinds b)

    -- an A9 begins an escape
    pub record Escape : Type 0 where
      pub second_within : next + 1 < length run
      pub is : esc + get_or run (next + 1) 0 ≡ b
      pub byte : b < 256
      pub then : Copying run s rest old (set out i (esc + get_or run (next + 1) 0)) (i + 1) (next + 2)

    pub copy_escape : get_or run next 0 ≡ esc → Escape
    copy_escape at_esc =
        ⊎_elim
        (λ which.
        let second : drop (next + 1) run ≡ (b - esc) ∷ later = rest_is run next esc ((b - esc) ∷ later) (as_special which) in
        let half : get_or run (next + 1) 0 ≡ b - esc = head_is run (next + 1) (b - esc) later second in
        let known : (esc ≤ b) × (b ≤ syn) = ⊎_elim (λ (e : b ≡ esc). (omega arith, omega arith)) (λ (e : b ≡ syn). (omega arith, omega arith)) which in
        let whole : esc + get_or run (next + 1) 0 ≡ b = omega (arith, known.0) in
        let two : next + 1 + 1 ≡ next + 2 = omega arith in
        record {
          second_within = head_within run (next + 1) (b - esc) later second;
          is = whole;
          byte = omega (arith, known.1);
          then = stored (esc + get_or run (next + 1) 0) (next + 2) whole (ap (λ (k : ℕ). drop k run) (sym two) ∙ rest_is run (next + 1) (b - esc) later second);
        })
        (λ plain. absurd (plain.0 (sym (head_is run next b later (as_plain plain.0 plain.1)) ∙ at_esc))) (kinds b)

-- the same, where what a turn leaves is known by equations
pub copying_as : (run s rest old : List ℕ) {out out' : List ℕ} (i : ℕ) {next next' : ℕ} → out ≡ out' → next ≡ next' → Copying run s rest old out' i next' → Copying run s rest old out i next
copying_as run s rest old {out} {out'} i {next} {next'} out_is next_is c =
    subst (λ (o : List ℕ). Copying run s rest old o i next) (sym out_is) (subst (λ (k : ℕ). Copying run s rest old out' i k) (sym next_is) c)
