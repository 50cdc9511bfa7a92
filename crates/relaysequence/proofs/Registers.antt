-- Registers that writes were stored into.
-- Assumes nothing.
use mathlib.Core.Path.{◌≡◌, refl, sym, ap, ◌∙◌, subst}
use mathlib.Core.Bool.{Bool}
use mathlib.Core.List.{List, [], ◌∷◌, ◌++◌}
use mathlib.Core.Logic.{⊎_elim}
use Prim.Native.Nat.{ℕ, ◌<◌}
use lib.Dec.{eqb}
use lib.ListN.{length, get_or, set, length-set}
use lib.Seq.{get_or-set_same, get_or-set_other, set_out, lt-length-set}
use borrow.Author.Tests.{eqb-true, eqb-false}
use Rattle.lists.specs.Choice.{pick}
use Rattle.lists.proofs.Cases.{by_test, same_or_not, le_or_lt}
use Rattle.relaysequence.specs.Heard.{Write, stored, last_to}

module _ (registers : List ℕ) (i v j : ℕ) where
  -- what a register holds once one was set
  set_there : j < length registers → get_or (set registers i v) j 0 ≡ pick (eqb i j) v (get_or registers j 0)
  set_there there =
      by_test (eqb i j)
      (λ e. let same = eqb-true i j e in
      ap (λ (k : ℕ). get_or (set registers k v) j 0) same ∙ get_or-set_same registers j v 0 there ∙ sym (ap (λ (b : Bool). pick b v (get_or registers j 0)) e))
      (λ e. get_or-set_other registers i j v 0 (λ same. eqb-false i j e (sym same)) ∙ sym (ap (λ (b : Bool). pick b v (get_or registers j 0)) e))

  -- a bound on what registers hold stays
  pub set_below : (bound : ℕ) → v < bound → get_or registers j 0 < bound → get_or (set registers i v) j 0 < bound
  set_below bound small held =
      ⊎_elim
      (λ same. ⊎_elim
      (λ out. subst (λ (xs : List ℕ). get_or xs j 0 < bound) (sym (set_out registers i v out)) held)
      (λ there. subst (λ (x : ℕ). x < bound) (sym (ap (λ (k : ℕ). get_or (set registers i v) k 0) same ∙ get_or-set_same registers i v 0 there)) small)
      (le_or_lt (length registers) i))
      (λ apart. subst (λ (x : ℕ). x < bound) (sym (get_or-set_other registers i j v 0 apart)) held)
      (same_or_not j i)

pub stored_length : (writes : List Write) (registers : List ℕ) → length (stored writes registers) ≡ length registers
unfolding stored
stored_length [] registers = refl
stored_length (w ∷ writes) registers = stored_length writes (set registers w.register w.value) ∙ length-set registers w.register w.value

-- each register holds what the last write to it left
pub stored_there : (writes : List Write) (registers : List ℕ) (register : ℕ) → register < length registers
    → get_or (stored writes registers) register 0 ≡ last_to register (get_or registers register 0) writes
unfolding stored last_to
stored_there [] registers register there = refl
stored_there (w ∷ writes) registers register there =
    stored_there writes (set registers w.register w.value) register (lt-length-set registers w.register w.value there)
    ∙ ap (λ (held : ℕ). last_to register held writes) (set_there registers w.register w.value register there)

-- some writes and then others
pub stored_joined : (first later : List Write) (registers : List ℕ) → stored (first ++ later) registers ≡ stored later (stored first registers)
unfolding stored
stored_joined [] later registers = refl
stored_joined (w ∷ first) later registers = stored_joined first later (set registers w.register w.value)
