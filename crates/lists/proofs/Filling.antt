-- Laws on lists that the loops of every crate cite: what is left to read from a position, and a lent list that is filled
-- from its start.
-- Assumes nothing.
use mathlib.Core.Path.{◌≡◌, sym, ap, ap₂, ◌∙◌}
use mathlib.Core.List.{List, [], ◌∷◌, ◌++◌, append_assoc}
use Prim.Native.Nat.{ℕ, ◌+◌, ◌≤◌, ◌<◌}
use native.Mathlib.Nat.{add-zero}
use native.Mathlib.Numerals.{add-one}
use native.Mathlib.Omega.{arith}
use lib.ListN.{length, get_or, take, drop, set, length-drop, length-append}
use lib.Seq.{drop-cons, drop-drop, get_or-drop, take-suc, take_at, take-length, take_all, take-append-add, take-append_seam, take-suc-set, set_at, length-take-le}
use Rattle.lists.specs.Starting.{starting}

-- ---- reading

-- what is left from i is the element at i and what is left from i + 1
pub drop_next : (l : List ℕ) (i : ℕ) → i < length l → drop i l ≡ get_or l i 0 ∷ drop (i + 1) l
drop_next l i h = drop-cons l i 0 h ∙ ap (λ (n : ℕ). get_or l i 0 ∷ drop n l) (sym (add-one i))

-- the other way round: where what is left begins with x, x stands there, and the rest is left behind it
module _ (l : List ℕ) (i x : ℕ) (xs : List ℕ) (e : drop i l ≡ x ∷ xs) where
  pub head_within : i < length l
  head_within = omega (arith, length-drop i l, ap length e)

  pub head_is : get_or l i 0 ≡ x
  head_is = ap (λ (n : ℕ). get_or l n 0) (sym (add-zero i)) ∙ sym (get_or-drop i l 0 0) ∙ ap (λ (s : List ℕ). get_or s 0 0) e

  pub rest_is : drop (i + 1) l ≡ xs
  rest_is = sym (drop-drop 1 i l) ∙ ap (drop 1) e

-- ---- writing

-- a list that starts with xs takes one more behind them
pub written_on : (xs old : List ℕ) (a n : ℕ) → length xs ≡ n → n < length old → set (starting xs old) n a ≡ starting (xs ++ a ∷ []) old
written_on xs old a n e h =
    let at : length xs < length old = omega arith in
    let size : length (xs ++ a ∷ []) ≡ length xs + 1 = length-append xs (a ∷ []) in
    ap (λ (l : List ℕ). set (xs ++ l) n a) (drop_next old (length xs) at)
    ∙ set_at xs (get_or old (length xs) 0) (drop (length xs + 1) old) a n e
    ∙ sym (append_assoc xs (a ∷ []) (drop (length xs + 1) old))
    ∙ ap (λ (k : ℕ). (xs ++ a ∷ []) ++ drop k old) (sym size)

-- a value stored behind the first n of a list
pub stored_next : (l : List ℕ) (n a : ℕ) → n < length l → take (n + 1) (set l n a) ≡ take n l ++ a ∷ []
stored_next l n a h = ap (λ (k : ℕ). take k (set l n a)) (add-one n) ∙ take-suc-set l n a h

-- the first i of a list, and the first i + 1
pub first_more : (xs : List ℕ) (i : ℕ) → i < length xs → take i xs ++ get_or xs i 0 ∷ [] ≡ take (i + 1) xs
first_more xs i h = sym (take-suc xs i 0 h) ∙ ap (λ (n : ℕ). take n xs) (sym (add-one i))

-- a list that starts with another, cut to that one's length
pub start_of : (xs old : List ℕ) (n : ℕ) → length xs ≡ n → take n (starting xs old) ≡ xs
start_of xs old n e = take_at xs (drop (length xs) old) n e

-- what is overwritten from its start keeps its length
pub length_starting : (bs old : List ℕ) → length bs ≤ length old → length (starting bs old) ≡ length old
length_starting bs old h = length-append bs (drop (length bs) old) ∙ omega (arith, length-drop (length bs) old)

module _ (bs old : List ℕ) where
  -- a list that starts with the first n of bs takes the next one at n, and then starts with n + 1 of them
  pub starting_more : (n : ℕ) → n < length bs → length bs ≤ length old
      → set (starting (take n bs) old) n (get_or bs n 0) ≡ starting (take (n + 1) bs) old
  starting_more n h room =
      written_on (take n bs) old (get_or bs n 0) n (length-take-le n bs (omega arith)) (omega arith)
      ∙ ap (λ (l : List ℕ). starting l old) (first_more bs n h)

  -- .. and at the end with all of them
  pub starting_all : starting (take (length bs) bs) old ≡ starting bs old
  starting_all = ap (λ (l : List ℕ). starting l old) (take-length bs)

  pub length_starting_take : (n : ℕ) → n ≤ length bs → length bs ≤ length old → length (starting (take n bs) old) ≡ length old
  length_starting_take n h room =
      let short : length (take n bs) ≡ n = length-take-le n bs h in
      length_starting (take n bs) old (omega arith)

-- one store of a loop that fills an output with bs: x is due at n, so n is within the output, and the output then starts
-- with n + 1 of the bytes
module _ (bs old out : List ℕ) (n x : ℕ) (xs : List ℕ)
    (room : length bs ≤ length old) (filled : out ≡ starting (take n bs) old) (due : drop n bs ≡ x ∷ xs) where
  pub fill_within : n < length out
  fill_within =
      let h : n < length bs = head_within bs n x xs due in
      omega (arith, ap length filled, length_starting_take bs old n (omega arith) room)

  pub fill_next : set out n x ≡ starting (take (n + 1) bs) old
  fill_next =
      let h : n < length bs = head_within bs n x xs due in
      ap₂ (λ (l : List ℕ) (b : ℕ). set l n b) filled (sym (head_is bs n x xs due)) ∙ starting_more bs old n h room

-- bytes that an output holds whole are put whole
pub put_whole : (bs old : List ℕ) → length bs ≤ length old → starting (take (length old) bs) old ≡ starting bs old
put_whole bs old h = ap (λ (l : List ℕ). starting l old) (take_all (length old) bs h)

-- ---- putting bytes behind the first n of a list

-- the list with bytes put into it from n on starts with its first n and those bytes
pub put_behind : (l : List ℕ) (n : ℕ) (bs rest : List ℕ) → n ≤ length l → take (n + length bs) (take n l ++ (bs ++ rest)) ≡ take n l ++ bs
put_behind l n bs rest h =
    ap (λ (k : ℕ). take (k + length bs) (take n l ++ (bs ++ rest))) (sym (length-take-le n l h))
    ∙ take-append-add (take n l) (bs ++ rest) (length bs) ∙ ap (λ (x : List ℕ). take n l ++ x) (take-append_seam bs rest)
