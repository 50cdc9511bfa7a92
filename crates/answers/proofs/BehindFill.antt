-- A frame behind the FF of the dominant windows, in an output with room for both.
-- Assumes nothing.
use mathlib.Core.Path.{◌≡◌, sym, ap, ◌∙◌}
use mathlib.Core.List.{List, ◌++◌}
use Prim.Native.Nat.{ℕ, ◌+◌, ◌-◌, ◌≤◌, min}
use native.Mathlib.Omega.{arith}
use borrow.Rule.Slice.PartMut.{put_mid, mid_of}
use lib.ListN.{length, drop, replicate, length-append, length-replicate}
use Rattle.lists.specs.Starting.{starting}
use Rattle.lists.proofs.Behind.{rest_long, put_after}
use Rattle.answers.specs.Reading.{fill}
use Rattle.answers.specs.Writing.{filled}

-- how long both are
pub behind_fill_length : (d : ℕ) (frame : List ℕ) → length (replicate d fill ++ frame) ≡ d + length frame
behind_fill_length d frame = length-append (replicate d fill) frame ∙ ap (λ (n : ℕ). n + length frame) (length-replicate {A = ℕ} d fill)

-- where there is room for the FF and for what the frame's writer needs behind them
pub behind_fill_lem : (needed : ℕ) (old now after frame : List ℕ) (d : ℕ) → d + needed ≤ length old → length now ≡ length old
    → now ≡ filled (min d (length old)) old
    → (needed ≤ length (mid_of d (length now - d) now) → after ≡ starting frame (mid_of d (length now - d) now))
    → put_mid d (length now - d) now after ≡ starting (replicate d fill ++ frame) old
behind_fill_lem needed old now after frame d room long first wrote =
    let all : min d (length old) ≡ d = omega arith in
    let size : length (replicate d fill) ≡ d = length-replicate {A = ℕ} d fill in
    put_after (replicate d fill) frame old now after d size
    (first ∙ ap (λ (n : ℕ). filled n old) all ∙ ap (λ (n : ℕ). replicate d fill ++ drop n old) (sym size))
    (wrote (omega (arith, rest_long now d (omega arith))))
