-- What no fault means for SRC, DST and LEN, that nothing is judged behind the head, and that LEN of a head without fault is at
-- most 16.
-- Assumes nothing.
use mathlib.Core.Path.{◌≡◌, refl, sym, ap, ◌∙◌, subst}
use mathlib.Core.Bool.{Bool, true, false}
use mathlib.Core.List.{List, [], ◌∷◌}
use mathlib.Core.Logic.{⊎_elim}
use Prim.Native.Nat.{ℕ, zero, suc, ◌+◌, ◌≤◌, ◌<◌}
use native.Mathlib.Omega.{arith}
use lib.Dec.{leb}
use lib.ListN.{length, get_or}
use borrow.Author.Tests.{lt-leb, ne_eqb}
use Rattle.lists.specs.Choice.{pick}
use Rattle.lists.proofs.Cases.{true_or_false, true_not_false, le_or_lt}
use Rattle.refusal.specs.Number.{source_wrong, destination_wrong, length_over}
use Rattle.escapes.specs.Escape.{escaped}
use Rattle.escapes.proofs.Escaped.{escaped_plain}
use Rattle.addresses.specs.Address.{initiator_nibble, initiator, reserved}
use Rattle.telegram.specs.Telegram.{head_of, length_place, longest, SRC, DST, LEN, unjudged, field_at, fault_of}
use Rattle.telegram.proofs.CollectedOnWire.{Fine}

pub fine_source : (b : ℕ) → fault_of SRC b ≡ 0 → initiator b ≡ true
unfolding fault_of
fine_source b e =
    ⊎_elim (λ t. t)
    (λ t.
    let z : ◌≡◌ {A = ℕ} 0 source_wrong = sym e ∙ ap (λ x. pick x 0 source_wrong) t in
    let f : ⊥ = omega arith in
    absurd f)
    (true_or_false (initiator b))

pub fine_destination : (b : ℕ) → fault_of DST b ≡ 0 → reserved b ≡ false
unfolding fault_of
fine_destination b e =
    ⊎_elim
    (λ t.
    let z : ◌≡◌ {A = ℕ} 0 destination_wrong = sym e ∙ ap (λ x. pick x destination_wrong 0) t in
    let f : ⊥ = omega arith in
    absurd f)
    (λ t. t) (true_or_false (reserved b))

pub fine_length : (b : ℕ) → fault_of LEN b ≡ 0 → b ≤ longest
unfolding fault_of
fine_length b e =
    ⊎_elim (λ h. h)
    (λ h.
    let over : pick (leb b longest) 0 length_over ≡ length_over = ap (λ t. pick t 0 length_over) (lt-leb b longest h) in
    let z : ◌≡◌ {A = ℕ} 0 length_over = sym e ∙ over in
    let f : ⊥ = omega arith in
    absurd f)
    (le_or_lt b longest)

-- ---- SRC, DST and LEN need no escape

pub source_plain : (b : ℕ) → initiator b ≡ true → escaped b ≡ b ∷ []
unfolding initiator initiator_nibble
source_plain b h =
    escaped_plain b (λ e. true_not_false (subst (λ (x : ℕ). initiator x ≡ true) e h) refl)
    (λ e. true_not_false (subst (λ (x : ℕ). initiator x ≡ true) e h) refl)

pub destination_plain : (b : ℕ) → reserved b ≡ false → escaped b ≡ b ∷ []
unfolding reserved
destination_plain b h =
    escaped_plain b (λ e. true_not_false refl (subst (λ (x : ℕ). reserved x ≡ false) e h))
    (λ e. true_not_false refl (subst (λ (x : ℕ). reserved x ≡ false) e h))

pub length_plain : (b : ℕ) → b ≤ longest → escaped b ≡ b ∷ []
length_plain b h = escaped_plain b (λ e. omega arith) (λ e. omega arith)

-- ---- behind the head

pub field_behind : (command : Bool) (place : ℕ) → head_of command ≤ place → field_at command place ≡ unjudged
unfolding field_at
field_behind true place h =
    simp (ne_eqb place 4 (λ e. omega arith), ne_eqb place 0 (λ e. omega arith), ne_eqb place 1 (λ e. omega arith))
field_behind false place h = simp (ne_eqb place 0 (λ e. omega arith))

pub no_fault_behind : (command : Bool) (place b : ℕ) → head_of command ≤ place → fault_of (field_at command place) b ≡ 0
unfolding fault_of
no_fault_behind command place b h = ap (λ f. fault_of f b) (field_behind command place h)

pub all_fine : (command : Bool) (place : ℕ) (bs : List ℕ) → head_of command ≤ place → Fine command place bs
all_fine command place [] h = tt
all_fine command place (b ∷ bs) h = (no_fault_behind command place b h, all_fine command (suc place) bs (omega arith))

-- ---- LEN, the last byte of the head

fine_at : (command : Bool) (place : ℕ) (bs : List ℕ) (i : ℕ) → i < length bs → Fine command place bs → fault_of (field_at command (place + i)) (get_or bs i 0) ≡ 0
fine_at command place [] i h fine = let f : ⊥ = omega arith in absurd f
fine_at command place (b ∷ bs) zero h fine =
    let here : place ≡ place + 0 = omega arith in
    subst (λ (k : ℕ). fault_of (field_at command k) b ≡ 0) here fine.0
fine_at command place (b ∷ bs) (suc i) h fine =
    let on : suc place + i ≡ place + suc i = omega arith in
    subst (λ (k : ℕ). fault_of (field_at command k) (get_or bs i 0) ≡ 0) on (fine_at command (suc place) bs i (omega arith) fine.1)

pub head_length : (command : Bool) (head : List ℕ) → length head ≡ head_of command → Fine command 0 head → get_or head (length_place command) 0 ≤ longest
unfolding field_at
head_length true head size fine = fine_length (get_or head 4 0) (fine_at true 0 head 4 (omega arith) fine)
head_length false head size fine = fine_length (get_or head 0 0) (fine_at false 0 head 0 (omega arith) fine)
