-- `oldest::marker` meets its contract. Assumes nothing.
use mathlib.Core.Path.{◌≡◌, sym, ap, ap₂, ◌∙◌}
use mathlib.Core.Bool.{Bool}
use Prim.Native.Nat.{ℕ, ◌+◌, ◌-◌, ◌*◌, ◌<◌}
use native.Mathlib.Nat.{sub-zero}
use native.Mathlib.Omega.{arith}
use lib.ListN.{get_or, drop}
use Rattle.lists.specs.Choice.{pick}
use Rattle.queues.specs.Queues.{queued_from}
use Rattle.oldest.specs.Oldest.{some_urgent, marker_of}
use Rattle.oldest.proofs.OldestLaws.{marker_some, urgent_here, urgent_later}
use Rattle.oldest.proofs.marker.Goals as goal

pub returns-then-count-eq0 : goal.returns-then-count-eq0
unfolding marker_of queued_from
returns-then-count-eq0 c =
    let none : c.args.count ≡ 0 = omega arith in
    sym (ap (λ (n : ℕ). marker_of (queued_from n c.args.slots.now)) none)

pub loop-slot-init : goal.loop-slot-init
loop-slot-init c = ap (λ (n : ℕ). some_urgent (queued_from n c.args.slots.now)) (sub-zero c.args.count)

pub returns-then-byte_at-eq1 : goal.returns-then-byte_at-eq1
returns-then-byte_at-eq1 c =
    let at = 13 * c.loop-slot.slot in
    let one : get_or c.args.slots.now at 0 ≡ 1 = omega (arith, c.byte_at.ensures) in
    let some : 0 < c.args.count = omega arith in
    sym (marker_some c.args.count c.args.slots.now some
    ∙ ap (λ (b : Bool). pick b 0 1) (sym c.loop-slot.invariant ∙ urgent_here c.args.slots.now at (c.args.count - c.loop-slot.slot) (omega arith) one))

pub loop-slot-preserved : goal.loop-slot-preserved
loop-slot-preserved c =
    let at = 13 * c.loop-slot.slot in
    let left = c.args.count - c.loop-slot.slot in
    let fewer : c.args.count - (c.loop-slot.slot + 1) ≡ left - 1 = omega arith in
    let next : 13 * (c.loop-slot.slot + 1) ≡ at + 13 = omega arith in
    ap₂ (λ (n k : ℕ). some_urgent (queued_from n (drop k c.args.slots.now))) fewer next
    ∙ urgent_later c.args.slots.now at left (omega arith) (λ one. omega (arith, c.byte_at.ensures, one)) ∙ c.loop-slot.invariant

pub returns : goal.returns
unfolding some_urgent queued_from
returns c =
    let some : 0 < c.args.count = omega arith in
    let done : c.args.count - c.loop-slot.slot ≡ 0 = omega arith in
    sym (marker_some c.args.count c.args.slots.now some
    ∙ ap (λ (b : Bool). pick b 0 1) (sym c.loop-slot.invariant ∙ ap (λ (n : ℕ). some_urgent (queued_from n (drop (13 * c.loop-slot.slot) c.args.slots.now))) done))
