-- `escapes::expand_into` meets its contract. Assumes nothing.
use mathlib.Core.Path.{◌≡◌, ap, ◌∙◌}
use Prim.Native.Nat.{ℕ, ◌+◌, ◌≤◌}
use native.Mathlib.Omega.{arith}
use lib.ListN.{length, get_or, take, drop_of_length-le, length-drop}
use Rattle.lists.specs.Starting.{starting}
use Rattle.lists.proofs.Filling.{starting_all}
use Rattle.escapes.specs.Escape.{esc, syn, expanded}
use Rattle.escapes.proofs.ExpandTurn.{stored, two, filled_as}
use Rattle.escapes.proofs.expand_into.Goals as goal
use Rattle.escapes.proofs.expand_into.Goals.{in-169, in_default, in_default-via-else-byte-lt169+else-byte-lt171, in_default-via-then-byte-lt169}

-- what a turn may store, at each of its two arms
pub bounds-out-n : goal.bounds-out-n
bounds-out-n c = (two c.args.logical.now c.args.out.now c.loop-byte.out c.loop-byte.n c.loop-byte.byte-index c.requires c.loop-byte-test.true c.loop-byte.invariant.1 (omega arith) (omega arith)).room_for

pub bounds-out-n-in-169 : goal.bounds-out-n-in-169
bounds-out-n-in-169 c = (two c.args.logical.now c.args.out.now c.loop-byte.out c.loop-byte.n c.loop-byte.byte-index c.requires c.loop-byte-test.true c.loop-byte.invariant.1 (omega arith) (omega arith)).room_behind

pub bounds-out-n-in_default : goal.bounds-out-n-in_default
bounds-out-n-in_default c =
    let b = get_or c.args.logical.now c.loop-byte.byte-index 0 in
    let no-esc : b ≡ esc → ⊥ = λ e. elim c.in_default.branch [ in_default-via-then-byte-lt169 w ↦ omega arith | in_default-via-else-byte-lt169+else-byte-lt171 w ↦ omega arith ] in
    let no-syn : b ≡ syn → ⊥ = λ e. elim c.in_default.branch [ in_default-via-then-byte-lt169 w ↦ omega arith | in_default-via-else-byte-lt169+else-byte-lt171 w ↦ omega arith ] in
    (stored c.args.logical.now c.args.out.now c.loop-byte.out c.loop-byte.n c.loop-byte.byte-index c.requires c.loop-byte-test.true c.loop-byte.invariant.1 no-esc no-syn).room_for

pub loop-byte-preserved : goal.loop-byte-preserved
loop-byte-preserved c =
    let logical = c.args.logical.now in
    let old = c.args.out.now in
    let l = c.loop-byte in
    let i = l.byte-index in
    let b = get_or logical i 0 in
    elim c.if-byte-lt169.branch [
      | in-169 w ↦
          let low : esc ≤ b = omega arith in
          let high : b ≤ syn = omega arith in
          (omega arith, filled_as logical old (i + 1) w.out-is w.n-is (two logical old l.out l.n i c.requires c.loop-byte-test.true l.invariant.1 low high).filled)
      | in_default w ↦
          let no-esc : b ≡ esc → ⊥ = λ e. elim w.in_default.branch [ in_default-via-then-byte-lt169 w' ↦ omega arith | in_default-via-else-byte-lt169+else-byte-lt171 w' ↦ omega arith ] in
          let no-syn : b ≡ syn → ⊥ = λ e. elim w.in_default.branch [ in_default-via-then-byte-lt169 w' ↦ omega arith | in_default-via-else-byte-lt169+else-byte-lt171 w' ↦ omega arith ] in
          (omega arith, filled_as logical old (i + 1) w.out-is w.n-is (stored logical old l.out l.n i c.requires c.loop-byte-test.true l.invariant.1 no-esc no-syn).filled)
    ]

pub returns : goal.returns
unfolding expanded
returns c =
    let logical = c.args.logical.now in
    let wire = expanded logical in
    let rest = c.loop-byte.invariant.1.rest ∙ ap expanded (drop_of_length-le logical c.loop-byte-test.false) in
    let all : c.loop-byte.n ≡ length wire = omega (arith, c.loop-byte.invariant.1.within, length-drop c.loop-byte.n wire, ap length rest) in
    c.loop-byte.invariant.1.output ∙ ap (λ (k : ℕ). starting (take k wire) c.args.out.now) all ∙ starting_all wire c.args.out.now
