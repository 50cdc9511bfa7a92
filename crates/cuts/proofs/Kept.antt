-- What a state keeps of the telegrams: a reply that is kept behind the command leaves the command, and a second one the first.
-- Assumes nothing.
use mathlib.Core.Path.{◌≡◌, sym, ap, ◌∙◌}
use mathlib.Core.List.{List, ◌++◌}
use Prim.Native.Nat.{ℕ, ◌+◌, ◌≤◌, ◌<◌}
use native.Mathlib.Omega.{arith}
use lib.ListN.{length, get_or, take, drop, length-append, length-drop, get_or-append}
use lib.Seq.{length-take-le, take-append_seam, take-append-le, drop-append-le, take-take, take-add, take_at, drop_at, get_or-take}
use Rattle.lists.specs.Starting.{starting}
use Rattle.lists.proofs.Filling.{length_starting}

-- a part put into a list behind its first k numbers
abbrev pub put_at : ℕ → List ℕ → List ℕ → List ℕ
put_at k t l = take k l ++ starting t (drop k l)

module _ (l t : List ℕ) (k : ℕ) (within : k ≤ length l) where
  front : length (take k l) ≡ k
  front = length-take-le k l within

  pub put_length : k + length t ≤ length l → length (put_at k t l) ≡ length l
  put_length fits =
      omega (arith, length-append (take k l) (starting t (drop k l)), front, length-drop k l, length_starting t (drop k l) (omega (arith, length-drop k l)))

  -- what stands before
  pub put_front : (n : ℕ) → n ≤ k → take n (put_at k t l) ≡ take n l
  put_front n h = take-append-le n (take k l) (starting t (drop k l)) (omega (arith, front)) ∙ take-take n k l h

  pub put_byte : (i : ℕ) → i < k → get_or (put_at k t l) i 0 ≡ get_or l i 0
  put_byte i h = get_or-append (take k l) (starting t (drop k l)) 0 i (omega (arith, front)) ∙ get_or-take k l i 0 h

  -- .. also between two positions before it
  pub put_middle : (j n : ℕ) → j + n ≡ k → take n (drop j (put_at k t l)) ≡ take n (drop j l)
  put_middle j n e =
      let part : drop j (take k l) ≡ take n (drop j l) =
      ap (λ (m : ℕ). drop j (take m l)) (sym e) ∙ ap (drop j) (take-add j n l) ∙ drop_at (take j l) (take n (drop j l)) j (length-take-le j l (omega arith)) in
      let size : length (take n (drop j l)) ≡ n = length-take-le n (drop j l) (omega (arith, length-drop j l)) in
      ap (take n) (drop-append-le j (take k l) (starting t (drop k l)) (omega (arith, front)) ∙ ap (λ (x : List ℕ). x ++ starting t (drop k l)) part)
      ∙ take_at (take n (drop j l)) (starting t (drop k l)) n size

  -- and the part itself
  pub put_there : (room : ℕ) → length t ≤ room → take (length t) (take room (drop k (put_at k t l))) ≡ t
  put_there room h =
      ap (λ (x : List ℕ). take (length t) (take room x)) (drop_at (take k l) (starting t (drop k l)) k front)
      ∙ take-take (length t) room (starting t (drop k l)) h
      ∙ take-append_seam t (drop (length t) (drop k l))

-- a part put at the very start
pub start_there : (l t : List ℕ) (room : ℕ) → length t ≤ room → take (length t) (take room (starting t l)) ≡ t
start_there l t room h = take-take (length t) room (starting t l) h ∙ take-append_seam t (drop (length t) l)
