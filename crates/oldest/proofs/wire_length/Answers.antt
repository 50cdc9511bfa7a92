-- `oldest::wire_length` meets its contract. Assumes nothing.
use mathlib.Core.Path.{◌≡◌, ap, ap₂}
use Prim.Native.Nat.{ℕ, ◌+◌, ◌-◌, ◌*◌}
use native.Mathlib.Nat.{sub-zero}
use native.Mathlib.Omega.{arith}
use lib.ListN.{drop}
use Rattle.oldest.specs.Oldest.{wire_length}
use Rattle.oldest.proofs.OldestLaws.{length_later}
use Rattle.oldest.proofs.wire_length.Goals as goal

pub loop-slot-init : goal.loop-slot-init
loop-slot-init c = (omega arith, omega (arith, ap (λ (n : ℕ). wire_length n c.args.slots.now) (sub-zero c.args.count)))

pub loop-slot-preserved : goal.loop-slot-preserved
loop-slot-preserved c =
    let slots = c.args.slots.now in
    let at = 13 * c.loop-slot.slot in
    let left = c.args.count - c.loop-slot.slot in
    let fewer : c.args.count - (c.loop-slot.slot + 1) ≡ left - 1 = omega arith in
    let next : 13 * (c.loop-slot.slot + 1) ≡ at + 13 = omega arith in
    let rest = ap₂ (λ (n k : ℕ). wire_length n (drop k slots)) fewer next in
    (omega arith, omega (arith, c.byte_at-data.ensures, rest, length_later slots at left (omega arith), c.loop-slot.invariant.1))

pub returns : goal.returns
unfolding wire_length
returns c =
    let done : c.args.count - c.loop-slot.slot ≡ 0 = omega arith in
    omega (arith, ap (λ (n : ℕ). wire_length n (drop (13 * c.loop-slot.slot) c.args.slots.now)) done, c.loop-slot.invariant.1)
