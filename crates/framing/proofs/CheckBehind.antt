-- The check of a body stored behind it: how long that makes it, and what an output holds then.
-- Assumes nothing.
use mathlib.Core.Path.{◌≡◌, refl, ap, ap₂, ◌∙◌}
use mathlib.Core.List.{List, [], ◌∷◌, ◌++◌, append_assoc}
use Prim.Native.Nat.{ℕ, ◌+◌, ◌≤◌}
use native.Mathlib.Omega.{arith}
use lib.ListN.{length, get_or, take, set, length-append}
use Rattle.lists.specs.Starting.{starting}
use Rattle.lists.proofs.Filling.{written_on, put_whole}
use Rattle.framing.specs.Layout.{check_bytes}

pub length_closed : (body : List ℕ) → length (body ++ check_bytes body) ≡ length body + 2
unfolding check_bytes
length_closed body = length-append body (check_bytes body)

-- two bytes behind a body that an output starts with
pub two_behind : (body old : List ℕ) (x y : ℕ) → length body + 2 ≤ length old
    → set (set (starting body old) (length body) x) (length body + 1) y ≡ starting (body ++ x ∷ y ∷ []) old
two_behind body old x y room =
    ap (λ (l : List ℕ). set l (length body + 1) y) (written_on body old x (length body) refl (omega arith))
    ∙ written_on (body ++ x ∷ []) old y (length body + 1) (length-append body (x ∷ [])) (omega arith)
    ∙ ap (λ (l : List ℕ). starting l old) (append_assoc body (x ∷ []) (y ∷ []))

-- the output after the body was put at its start, and then each byte of its check
pub check_behind : (body old out check : List ℕ) → out ≡ starting (take (length old) body) old → check ≡ check_bytes body → length body + 2 ≤ length old
    → set (set out (length body) (get_or check 0 0)) (length body + 1) (get_or check 1 0) ≡ starting (body ++ check_bytes body) old
unfolding check_bytes
check_behind body old out check put right room =
    ap₂ (λ (l c : List ℕ). set (set l (length body) (get_or c 0 0)) (length body + 1) (get_or c 1 0)) (put ∙ put_whole body old (omega arith)) right
    ∙ two_behind body old _ _ room
