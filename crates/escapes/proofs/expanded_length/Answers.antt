-- `escapes::expanded_length` meets its contract. Assumes nothing.
use mathlib.Core.Path.{◌≡◌, ap}
use Prim.Native.Nat.{◌≤◌}
use native.Mathlib.Omega.{arith}
use lib.ListN.{length, get_or, drop_of_length-le}
use Rattle.escapes.specs.Escape.{esc, syn, expanded}
use Rattle.escapes.proofs.Escaped.{special, expanded_plain, expanded_special}
use Rattle.escapes.proofs.expanded_length.Goals as goal
use Rattle.escapes.proofs.expanded_length.Goals.{in-169, in_default, in_default-via-then-byte-lt169, in_default-via-else-byte-lt169+else-byte-lt171}

pub loop-byte-preserved : goal.loop-byte-preserved
loop-byte-preserved c =
    let logical = c.args.logical.now in
    let i = c.loop-byte.byte-index in
    let b = get_or logical i 0 in
    elim c.if-byte-lt169.branch [
      | in-169 w ↦
          let low : esc ≤ b = omega arith in
          let high : b ≤ syn = omega arith in
          let next = expanded_special logical i c.loop-byte-test.true (special b low high) in
          (omega arith, omega (arith, w.n-is), omega (arith, w.n-is, ap length next))
      | in_default w ↦
          let no-esc : b ≡ esc → ⊥ = λ e. elim w.in_default.branch [ in_default-via-then-byte-lt169 w' ↦ omega arith | in_default-via-else-byte-lt169+else-byte-lt171 w' ↦ omega arith ] in
          let no-syn : b ≡ syn → ⊥ = λ e. elim w.in_default.branch [ in_default-via-then-byte-lt169 w' ↦ omega arith | in_default-via-else-byte-lt169+else-byte-lt171 w' ↦ omega arith ] in
          let next = expanded_plain logical i c.loop-byte-test.true no-esc no-syn in
          (omega arith, omega (arith, w.n-is), omega (arith, w.n-is, ap length next))
    ]

pub returns : goal.returns
unfolding expanded
returns c = omega (arith, ap (λ l. length (expanded l)) (drop_of_length-le c.args.logical.now c.loop-byte-test.false))
