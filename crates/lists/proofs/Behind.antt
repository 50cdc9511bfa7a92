-- A list that starts with some numbers, and into which others are written behind them, through the part that is left.
-- Assumes nothing.
use mathlib.Core.Path.{◌≡◌, sym, ap, ap₂, ◌∙◌}
use mathlib.Core.List.{List, [], ◌++◌, append_assoc, append-nil}
use Prim.Native.Nat.{ℕ, ◌+◌, ◌-◌, ◌≤◌}
use native.Mathlib.Omega.{arith}
use borrow.Rule.Slice.PartMut.{put_mid, mid_of}
use lib.ListN.{length, take, drop, length-append, length-drop, drop_of_length-le}
use lib.Seq.{take_at, drop_at, drop-drop}
use Rattle.lists.specs.Starting.{starting}
use Rattle.lists.proofs.All.{whole_rest}

-- the part behind the first n is what is left of the list
pub rest_long : (now : List ℕ) (n : ℕ) → n ≤ length now → length (mid_of n (length now - n) now) ≡ length now - n
rest_long now n h = ap length (whole_rest now n) ∙ length-drop n now

module _ (first more old now after : List ℕ) (n : ℕ) (long : length first ≡ n) (begun : now ≡ starting first old)
    (wrote : after ≡ starting more (mid_of n (length now - n) now)) where
  start : take n now ≡ first
  start = ap (take n) begun ∙ take_at first (drop (length first) old) n long

  rest : drop n now ≡ drop n old
  rest = ap (drop n) begun ∙ drop_at first (drop (length first) old) n long ∙ ap (λ (k : ℕ). drop k old) long

  part_is : mid_of n (length now - n) now ≡ drop n old
  part_is = whole_rest now n ∙ rest

  behind : after ≡ more ++ drop (n + length more) old
  behind = wrote ∙ ap (λ (l : List ℕ). more ++ drop (length more) l) part_is ∙ ap (λ (l : List ℕ). more ++ l) (drop-drop (length more) n old)

  nothing_left : drop (length now - n) (drop n now) ≡ []
  nothing_left =
      let all : length (drop n now) ≤ length now - n = omega (arith, length-drop n now) in
      drop_of_length-le (drop n now) all

  -- both stand at the start
  pub put_after : put_mid n (length now - n) now after ≡ starting (first ++ more) old
  put_after =
      let size : n + length more ≡ length (first ++ more) = omega (arith, length-append first more) in
      ap₂ (λ (x y : List ℕ). x ++ (after ++ y)) start nothing_left
      ∙ ap (λ (l : List ℕ). first ++ l) (append-nil after ∙ behind)
      ∙ sym (append_assoc first more (drop (n + length more) old))
      ∙ ap (λ (k : ℕ). (first ++ more) ++ drop k old) size
