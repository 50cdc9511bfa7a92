-- What a piece is, byte by byte: it lies within its run, and bytes behind it do not matter.
-- Assumes nothing.
use mathlib.Core.Path.{◌≡◌, sym, ap, ◌∙◌}
use mathlib.Core.Bool.{true, false, ◌&&◌}
use mathlib.Core.List.{List, ◌++◌}
use mathlib.Core.Logic.{⊎_elim}
use Prim.Native.Nat.{ℕ, ◌+◌, ◌≤◌, ◌<◌}
use native.Mathlib.Omega.{arith}
use lib.Dec.{eqb}
use lib.ListN.{length, get_or, drop, get_or-eq_default, get_or-append}
use lib.Seq.{get_or-drop}
use borrow.Author.Tests.{eqb-true, ne_eqb}
use Rattle.lists.proofs.Cases.{true_not_false, le_or_lt, same_or_not, pick_cases, both_first, both_second}
use Rattle.escapes.specs.Escape.{esc, syn}
use Rattle.addresses.specs.Address.{initiator_nibble, initiator}
use Rattle.beginning.specs.Beginning.{piece_of, piece}

-- ---- three bytes

pub data Begins (a b c : ℕ) : ℕ → Type 0 where
  no_piece : Begins a b c 0
  alone : a ≡ syn → Begins a b c 1
  escape : a ≡ esc → b ≡ syn → Begins a b c 2
  source : initiator a ≡ true → b ≡ syn → Begins a b c 2
  source_escape : initiator a ≡ true → b ≡ esc → c ≡ syn → Begins a b c 3

pub begins : (a b c : ℕ) → Begins a b c (piece_of a b c)
unfolding piece_of
begins a b c =
    pick_cases (Begins a b c) (eqb a syn) _ _ (λ h. alone (eqb-true a syn h))
    (λ _.
    pick_cases (Begins a b c) (eqb a esc && eqb b syn) _ _ (λ h. escape (eqb-true a esc (both_first (eqb a esc) (eqb b syn) h)) (eqb-true b syn (both_second (eqb a esc) (eqb b syn) h)))
    (λ _.
    pick_cases (Begins a b c) (initiator a && eqb b syn) _ _ (λ h. source (both_first (initiator a) (eqb b syn) h) (eqb-true b syn (both_second (initiator a) (eqb b syn) h)))
    (λ _.
    pick_cases (Begins a b c) (initiator a && (eqb b esc && eqb c syn)) _ _
    (λ h.
    let two = both_second (initiator a) (eqb b esc && eqb c syn) h in
    source_escape (both_first (initiator a) (eqb b esc && eqb c syn) h) (eqb-true b esc (both_first (eqb b esc) (eqb c syn) two)) (eqb-true c syn (both_second (eqb b esc) (eqb c syn) two)))
    (λ _. no_piece))))

-- neither A9 nor SYN is an initiator's address
pub not_syn : (a : ℕ) → initiator a ≡ true → a ≡ syn → ⊥
unfolding initiator initiator_nibble
not_syn a h e = true_not_false h (ap initiator e)

pub not_esc : (a : ℕ) → initiator a ≡ true → a ≡ esc → ⊥
unfolding initiator initiator_nibble
not_esc a h e = true_not_false h (ap initiator e)

pub is_alone : (a b c : ℕ) → a ≡ syn → piece_of a b c ≡ 1
unfolding piece_of
is_alone a b c e = ap (λ (x : ℕ). piece_of x b c) e

pub is_escape : (a b c : ℕ) → a ≡ esc → b ≡ syn → piece_of a b c ≡ 2
unfolding piece_of
is_escape a b c e f = ap (λ (x : ℕ). piece_of x b c) e ∙ ap (λ (x : ℕ). piece_of esc x c) f

pub is_source : (a b c : ℕ) → initiator a ≡ true → b ≡ syn → piece_of a b c ≡ 2
unfolding piece_of
is_source a b c h f = ap (λ (x : ℕ). piece_of a x c) f ∙ simp (ne_eqb a syn (not_syn a h), ne_eqb a esc (not_esc a h), h)

pub is_source_escape : (a b c : ℕ) → initiator a ≡ true → b ≡ esc → c ≡ syn → piece_of a b c ≡ 3
unfolding piece_of
is_source_escape a b c h f g =
    ap (λ (x : ℕ). piece_of a x c) f ∙ ap (piece_of a esc) g ∙ simp (ne_eqb a syn (not_syn a h), ne_eqb a esc (not_esc a h), h)

-- a source and a byte that is neither A9 nor SYN begin none
pub is_none : (a b c : ℕ) → initiator a ≡ true → (b ≡ esc → ⊥) → (b ≡ syn → ⊥) → piece_of a b c ≡ 0
unfolding piece_of
is_none a b c h f g = simp (ne_eqb a syn (not_syn a h), ne_eqb a esc (not_esc a h), h, ne_eqb b esc f, ne_eqb b syn g)

-- nor does A9 before another byte than SYN, a byte that is no initiator's address, or a source and A9 before another byte than SYN
pub none_escape : (a b c : ℕ) → a ≡ esc → (b ≡ syn → ⊥) → piece_of a b c ≡ 0
unfolding piece_of initiator initiator_nibble
none_escape a b c e f = ap (λ (x : ℕ). piece_of x b c) e ∙ simp (ne_eqb b syn f)

pub none_source : (a b c : ℕ) → (a ≡ syn → ⊥) → (a ≡ esc → ⊥) → initiator a ≡ false → piece_of a b c ≡ 0
unfolding piece_of
none_source a b c e f h = simp (ne_eqb a syn e, ne_eqb a esc f, h)

pub none_third : (a b c : ℕ) → initiator a ≡ true → b ≡ esc → (c ≡ syn → ⊥) → piece_of a b c ≡ 0
unfolding piece_of
none_third a b c h f g =
    ap (λ (x : ℕ). piece_of a x c) f ∙ simp (ne_eqb a syn (not_syn a h), ne_eqb a esc (not_esc a h), h, ne_eqb c syn g)

-- ---- in a run

-- a byte that is not 00 is there
pub in_range : (run : List ℕ) (i x : ℕ) → get_or run i 0 ≡ x → 0 < x → i < length run
in_range run i x e h =
    ⊎_elim (λ (far : length run ≤ i). let none = get_or-eq_default run 0 far in let f : ⊥ = omega (arith, none, e) in absurd f) (λ (near : i < length run). near)
    (le_or_lt (length run) i)

-- by its first three bytes
pub of_bytes : (run : List ℕ) (a b c n : ℕ) → a ≡ get_or run 0 0 → b ≡ get_or run 1 0 → c ≡ get_or run 2 0 → n ≡ piece_of a b c → n ≡ piece run
of_bytes run a b c n first second third is =
    is ∙ ap (λ (x : ℕ). piece_of x b c) first ∙ ap (λ (x : ℕ). piece_of (get_or run 0 0) x c) second ∙ ap (piece_of (get_or run 0 0) (get_or run 1 0)) third

-- .. from a position on
pub first_there : (run : List ℕ) (at : ℕ) → get_or (drop at run) 0 0 ≡ get_or run at 0
first_there run at = let e : at + 0 ≡ at = omega arith in get_or-drop at run 0 0 ∙ ap (λ (i : ℕ). get_or run i 0) e

pub three_bytes : (run : List ℕ) (at b c n : ℕ) → b ≡ get_or run (at + 1) 0 → c ≡ get_or run (at + 2) 0 → n ≡ piece_of (get_or run at 0) b c → n ≡ piece (drop at run)
three_bytes run at b c n second third is =
    of_bytes (drop at run) (get_or run at 0) b c n (sym (first_there run at)) (second ∙ sym (get_or-drop at run 1 0)) (third ∙ sym (get_or-drop at run 2 0)) is

pub piece_size : (run : List ℕ) → piece run ≤ length run
piece_size run = by (begins (get_or run 0 0) (get_or run 1 0) (get_or run 2 0))
  where
    by : {n : ℕ} → Begins (get_or run 0 0) (get_or run 1 0) (get_or run 2 0) n → n ≤ length run
    by no_piece = omega arith
    by (alone e) = omega (arith, in_range run 0 syn e (omega arith))
    by (escape e f) = omega (arith, in_range run 1 syn f (omega arith))
    by (source h f) = omega (arith, in_range run 1 syn f (omega arith))
    by (source_escape h f g) = omega (arith, in_range run 2 syn g (omega arith))

-- runs that agree on a piece's bytes begin with the same one
pub agree : (r r' : List ℕ) → ((i : ℕ) → i < piece r → get_or r i 0 ≡ get_or r' i 0) → 0 < piece r → piece r' ≡ piece r
agree r r' = by (begins (get_or r 0 0) (get_or r 1 0) (get_or r 2 0))
  where
    by : {n : ℕ} → Begins (get_or r 0 0) (get_or r 1 0) (get_or r 2 0) n → ((i : ℕ) → i < n → get_or r i 0 ≡ get_or r' i 0) → 0 < n → piece r' ≡ n
    by no_piece same h = let f : ⊥ = omega arith in absurd f
    by (alone e) same h = is_alone (get_or r' 0 0) (get_or r' 1 0) (get_or r' 2 0) (sym (same 0 (omega arith)) ∙ e)
    by (escape e f) same h = is_escape (get_or r' 0 0) (get_or r' 1 0) (get_or r' 2 0) (sym (same 0 (omega arith)) ∙ e) (sym (same 1 (omega arith)) ∙ f)
    by (source s f) same h =
        is_source (get_or r' 0 0) (get_or r' 1 0) (get_or r' 2 0) (ap initiator (sym (same 0 (omega arith))) ∙ s) (sym (same 1 (omega arith)) ∙ f)
    by (source_escape s f g) same h =
        is_source_escape (get_or r' 0 0) (get_or r' 1 0) (get_or r' 2 0) (ap initiator (sym (same 0 (omega arith))) ∙ s) (sym (same 1 (omega arith)) ∙ f) (sym (same 2 (omega arith)) ∙ g)

pub longer : (run more : List ℕ) → 0 < piece run → piece (run ++ more) ≡ piece run
longer run more some =
    agree run (run ++ more) (λ i h. sym (get_or-append run more 0 i (let k : i < length run = omega (arith, h, piece_size run) in k))) some

pub shorter : (run more : List ℕ) → piece (run ++ more) ≤ length run → piece run ≡ piece (run ++ more)
shorter run more within =
    ⊎_elim
    (λ (none : piece (run ++ more) ≡ 0).
    ⊎_elim (λ (e : piece run ≡ 0). e ∙ sym none)
    (λ (e : piece run ≡ 0 → ⊥). let f : ⊥ = e (sym (longer run more (some_of (piece run) e)) ∙ none) in absurd f)
    (same_or_not (piece run) 0))
    (λ (e : piece (run ++ more) ≡ 0 → ⊥).
    agree (run ++ more) run (λ i h. get_or-append run more 0 i (let k : i < length run = omega (arith, h, within) in k)) (some_of (piece (run ++ more)) e))
    (same_or_not (piece (run ++ more)) 0)
  where
    some_of : (n : ℕ) → (n ≡ 0 → ⊥) → 0 < n
    some_of n h = ⊎_elim (λ (e : n ≤ 0). let f : ⊥ = h (let z : n ≡ 0 = omega arith in z) in absurd f) (λ (e : 0 < n). e) (le_or_lt n 0)

-- a part of a run begins with no longer one
pub shorter_most : (run more : List ℕ) (n : ℕ) → piece (run ++ more) ≤ n → piece run ≤ n
shorter_most run more n most =
    ⊎_elim (λ (none : piece run ≤ 0). omega arith) (λ (some : 0 < piece run). omega (arith, longer run more some)) (le_or_lt (piece run) 0)
