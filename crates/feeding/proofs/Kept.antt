-- Bytes that are put into a part of what is kept.
-- Assumes nothing.
use mathlib.Core.Path.{◌≡◌, ap, ◌∙◌}
use mathlib.Core.List.{List, [], ◌++◌, append-nil}
use Prim.Native.Nat.{ℕ, ◌+◌, ◌≤◌}
use native.Mathlib.Omega.{arith}
use lib.ListN.{length, take, drop, length-drop, drop_of_length-le}
use lib.Seq.{take_all}
use Rattle.lists.specs.Starting.{starting}

-- put into the last n of a list, they are put behind those before
pub kept_part : (kept t new : List ℕ) (at n : ℕ) → length kept ≡ at + n
    → new ≡ starting t (take n (drop at kept))
    → take at kept ++ (new ++ drop n (drop at kept)) ≡ take at kept ++ starting t (drop at kept)
kept_part kept t new at n size e =
    let left : length (drop at kept) ≡ n = omega (arith, length-drop at kept) in
    let all : take n (drop at kept) ≡ drop at kept = take_all n (drop at kept) (omega arith) in
    let end : length (drop at kept) ≤ n = omega arith in
    let none : drop n (drop at kept) ≡ [] = drop_of_length-le (drop at kept) end in
    ap (λ (x : List ℕ). take at kept ++ (new ++ x)) none
    ∙ ap (λ (x : List ℕ). take at kept ++ x)
    (append-nil new ∙ e ∙ ap (starting t) all)
