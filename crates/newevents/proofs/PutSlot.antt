-- An event put into its slot: the bytes before its data, then the data behind them.
-- Assumes nothing.
use mathlib.Core.Path.{◌≡◌, sym, ap, ap₂, ◌∙◌}
use mathlib.Core.List.{List, ◌++◌, append_assoc, append-nil}
use Prim.Native.Nat.{ℕ, ◌+◌, ◌-◌, ◌≤◌}
use native.Mathlib.Omega.{arith}
use borrow.Rule.Slice.PartMut.{put_mid}
use native.Mathlib.Omega.{arith}
use lib.ListN.{length, take, drop, length-append, drop_of_length-le}
use lib.Seq.{drop-drop}
use Rattle.std.proofs.lemmas.Slice.{take-put_mid, drop-put_mid}
use Rattle.lists.specs.Starting.{starting}

-- two parts written one behind the other
pub put_two : (old first second : List ℕ) (at middle end : ℕ) → middle ≡ at + length first → end ≡ middle + length second → end ≤ length old
    → put_mid middle (end - middle) (put_mid at (middle - at) old first) second ≡ take at old ++ starting (first ++ second) (drop at old)
put_two old first second at middle end m e fits =
    let written = put_mid at (middle - at) old first in
    let front : take middle written ≡ take at old ++ first = take-put_mid at (middle - at) old first middle m (omega arith) in
    let behind : drop (end - middle) (drop middle written) ≡ drop (length (first ++ second)) (drop at old) =
    drop-drop (end - middle) middle written
    ∙ ap (λ (n : ℕ). drop n written) (omega arith)
    ∙ drop-put_mid at (middle - at) old first end (omega arith) (omega arith) (omega arith)
    ∙ ap (λ (n : ℕ). drop n old) (omega (arith, length-append first second))
    ∙ sym (drop-drop (length (first ++ second)) at old) in
    ap₂ (λ (l r : List ℕ). l ++ (second ++ r)) front behind ∙ simp append_assoc

-- bytes put into a list of their own length are all that it holds then
pub filled_whole : (out payload old : List ℕ) → out ≡ starting payload old → length old ≡ length payload → out ≡ payload
filled_whole out payload old e same = e ∙ ap (λ (l : List ℕ). payload ++ l) (drop_of_length-le old (omega (arith, same))) ∙ append-nil payload
