-- Where the command starts, from piece to piece.
-- Assumes nothing.
use mathlib.Core.Path.{◌≡◌, refl, sym, ap, ◌∙◌}
use mathlib.Core.Bool.{Bool}
use mathlib.Core.List.{List, [], ◌∷◌, ◌++◌}
use mathlib.Core.Logic.{⊎_elim}
use Prim.Native.Nat.{ℕ, zero, suc, ◌+◌, ◌-◌, ◌≤◌, ◌<◌}
use native.Mathlib.Omega.{arith}
use lib.ListN.{length, take, drop, length-drop, length-append, drop_of_length-le}
use lib.Seq.{take_all, drop-drop, drop-append_seam}
use borrow.Author.Tests.{eq-eqb, ne_eqb}
use Rattle.lists.specs.Choice.{pick}
use Rattle.lists.proofs.Cases.{same_or_not}
use Rattle.beginning.specs.Beginning.{piece, behind_pieces, command_start, passed_over}
use Rattle.beginning.proofs.Pieces.{piece_size, longer}

-- ---- one piece

pub none_left : (n : ℕ) (run : List ℕ) → piece run ≡ 0 → behind_pieces n run ≡ 0
unfolding behind_pieces
none_left zero run e = refl
none_left (suc n) run e = ap (λ (t : Bool). pick t 0 (piece run + behind_pieces n (drop (piece run) run))) (eq-eqb (piece run) 0 e)

pub one_left : (n : ℕ) (run : List ℕ) → (piece run ≡ 0 → ⊥) → behind_pieces (suc n) run ≡ piece run + behind_pieces n (drop (piece run) run)
unfolding behind_pieces
one_left n run e = ap (λ (t : Bool). pick t 0 (piece run + behind_pieces n (drop (piece run) run))) (ne_eqb (piece run) 0 e)

-- as many pieces as there are bytes are enough
enough : (n m : ℕ) (run : List ℕ) → length run ≤ n → length run ≤ m → behind_pieces n run ≡ behind_pieces m run
unfolding behind_pieces
enough zero m run h k = sym (none_left m run (let e : piece run ≡ 0 = omega (arith, piece_size run) in e))
enough (suc n) zero run h k = none_left (suc n) run (let e : piece run ≡ 0 = omega (arith, piece_size run) in e)
enough (suc n) (suc m) run h k =
    ⊎_elim (λ (e : piece run ≡ 0). none_left (suc n) run e ∙ sym (none_left (suc m) run e))
    (λ (e : piece run ≡ 0 → ⊥).
    one_left n run e
    ∙ ap (λ (x : ℕ). piece run + x) (enough n m (drop (piece run) run) (fits n e h) (fits m e k))
    ∙ sym (one_left m run e))
    (same_or_not (piece run) 0)
  where
    fits : (j : ℕ) → (piece run ≡ 0 → ⊥) → length run ≤ suc j → length (drop (piece run) run) ≤ j
    fits j e h = omega (arith, e, length-drop (piece run) run, h)

pub start_none : (run : List ℕ) → piece run ≡ 0 → command_start run ≡ 0
start_none run e = none_left (length run) run e

pub start_some : (run : List ℕ) → 0 < piece run → command_start run ≡ piece run + command_start (drop (piece run) run)
start_some [] h = let f : ⊥ = omega (arith, piece_size []) in absurd f
start_some (b ∷ bs) h =
    let run = b ∷ bs in
    one_left (length bs) run (λ e. let f : ⊥ = omega (arith, e) in f)
    ∙ ap (λ (x : ℕ). piece run + x)
    (enough (length bs) (length (drop (piece run) run)) (drop (piece run) run) (omega (arith, length-drop (piece run) run)) (omega arith))

left_size : (n : ℕ) (run : List ℕ) → behind_pieces n run ≤ length run
unfolding behind_pieces
left_size zero run = omega arith
left_size (suc n) run =
    ⊎_elim (λ (e : piece run ≡ 0). let z = none_left (suc n) run e in omega (arith, z))
    (λ (e : piece run ≡ 0 → ⊥). omega (arith, one_left n run e, left_size n (drop (piece run) run), length-drop (piece run) run, piece_size run))
    (same_or_not (piece run) 0)

pub start_size : (run : List ℕ) → command_start run ≤ length run
start_size run = left_size (length run) run

-- no piece stands where the command starts
left_none : (n : ℕ) (run : List ℕ) → length run ≤ n → piece (drop (behind_pieces n run) run) ≡ 0
unfolding behind_pieces
left_none zero run h = omega (arith, piece_size run)
left_none (suc n) run h =
    ⊎_elim (λ (e : piece run ≡ 0). ap (λ (k : ℕ). piece (drop k run)) (none_left (suc n) run e) ∙ e)
    (λ (e : piece run ≡ 0 → ⊥).
    let rest = drop (piece run) run in
    ap (λ (k : ℕ). piece (drop k run)) (one_left n run e)
    ∙ ap piece (sym (drop-drop (behind_pieces n rest) (piece run) run))
    ∙ left_none n rest (omega (arith, e, length-drop (piece run) run)))
    (same_or_not (piece run) 0)

pub started_there : (run : List ℕ) → piece (drop (command_start run) run) ≡ 0
started_there run = left_none (length run) run (omega arith)

-- ---- a walk from piece to piece

-- how many bytes stand before the command, of which so many were passed
abbrev pub Passed : List ℕ → ℕ → Type 0
Passed run at = command_start run ≡ at + command_start (drop at run)

pub pass : (run : List ℕ) (at n : ℕ) → Passed run at → n ≡ piece (drop at run) → (n ≡ 0 → ⊥) → Passed run (at + n)
pass run at n so_far is some =
    let rest = drop at run in
    let on : command_start rest ≡ n + command_start (drop n rest) =
    start_some rest (omega (arith, is, some)) ∙ ap (λ (k : ℕ). k + command_start (drop k rest)) (sym is) in
    let same = drop-drop n at run in
    omega (arith, so_far, on, ap command_start same)

pub pass_ends : (run : List ℕ) (at : ℕ) → Passed run at → piece (drop at run) ≡ 0 → at ≡ command_start run
pass_ends run at so_far none = omega (arith, so_far, start_none (drop at run) none)

pub pass_all : (run : List ℕ) (at : ℕ) → Passed run at → length run ≤ at → at ≡ command_start run
pass_all run at so_far h =
    let rest = drop_of_length-le run h in
    omega (arith, so_far, ap command_start rest, start_none [] (let e : piece [] ≡ 0 = omega (arith, piece_size []) in e))

-- ---- behind a piece

-- where these bytes are a piece, the command starts behind them
pub start_behind : (bytes more : List ℕ) → 0 < length bytes → piece bytes ≡ length bytes → command_start (bytes ++ more) ≡ length bytes + command_start more
start_behind bytes more some is =
    let all : piece (bytes ++ more) ≡ length bytes = longer bytes more (omega (arith, is)) ∙ is in
    start_some (bytes ++ more) (omega (arith, all))
    ∙ ap (λ (k : ℕ). k + command_start (drop k (bytes ++ more))) all
    ∙ ap (λ (r : List ℕ). length bytes + command_start r) (drop-append_seam bytes more)

-- ---- behind bytes in hand

module _ (hand run : List ℕ) (n : ℕ) (is : n ≡ piece (hand ++ run) - length hand) where
  abbrev k : ℕ
  k = piece (hand ++ run) - length hand

  -- nothing is passed over
  pub passed_none : n ≡ 0 → passed_over hand run ≡ 0
  unfolding passed_over
  passed_none none = ap (λ (t : Bool). pick t 0 (k + command_start (drop k run))) (eq-eqb k 0 (sym is ∙ none))

  -- or the bytes that end the piece in hand, and then the run's own beginning
  pub passed_some : (n ≡ 0 → ⊥) → passed_over hand run ≡ n + command_start (drop n run)
  unfolding passed_over
  passed_some some =
      ap (λ (t : Bool). pick t 0 (k + command_start (drop k run))) (ne_eqb k 0 (λ e. some (is ∙ e)))
      ∙ ap (λ (m : ℕ). m + command_start (drop m run)) (sym is)

  pub passed_within : n ≤ length run
  passed_within = omega (arith, is, piece_size (hand ++ run), length-append hand run)

  -- what is left, as the code has it: a part up to the end
  pub passed_part : take (length run - n) (drop n run) ≡ drop n run
  passed_part = take_all (length run - n) (drop n run) (omega (arith, length-drop n run))

pub passed_size : (hand run : List ℕ) → passed_over hand run ≤ length run
passed_size hand run =
    let n = piece (hand ++ run) - length hand in
    ⊎_elim (λ (e : n ≡ 0). omega (arith, passed_none hand run n refl e))
    (λ (e : n ≡ 0 → ⊥). omega (arith, passed_some hand run n refl e, start_size (drop n run), length-drop n run, passed_within hand run n refl))
    (same_or_not n 0)
