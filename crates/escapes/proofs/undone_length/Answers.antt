-- `escapes::undone_length` meets its contract. Assumes nothing.
use Rattle.refusal.proofs.Exit.{exits}
use Rattle.std.specs.Prelude.{Ok, Err}
use mathlib.Core.Path.{◌≡◌, sym, ap, ◌∙◌}
use Prim.Native.Nat.{ℕ, ◌+◌, ◌-◌}
use native.Mathlib.Nat.{sub-zero, add-zero}
use native.Mathlib.Omega.{arith}
use lib.ListN.{length}
use Rattle.escapes.specs.Logical.{logical_at}
use Rattle.escapes.specs.Undo.{undone_from, undone}
use Rattle.escapes.proofs.LogicalBytes.{stands, none_left, turn_byte, turn_refused, counted, counted_none, counted_one}
use Rattle.escapes.proofs.undone_length.Goals as goal

pub loop-at-init : goal.loop-at-init
unfolding undone
loop-at-init c =
    let raw = c.args.raw.now in
    (omega arith, omega arith, ap (λ (m : ℕ). counted 0 (undone_from raw m 0)) (sub-zero (length raw)) ∙ counted_none (undone_from raw (length raw) 0))

pub overflow_add-n : goal.overflow_add-n
overflow_add-n c = omega arith

pub loop-at-smaller : goal.loop-at-smaller
loop-at-smaller c =
    let raw = c.args.raw.now in
    let at = c.loop-at.at in
    let n = c.loop-at.n in
    let b = c.in_ok-next.field-0-0 in
    let next = c.in_ok-next.next in
    let e : logical_at raw at ≡ Ok (b, next) = sym c.in_ok-next.ensures in
    let ahead = stands raw at b next e in
    omega arith

pub loop-at-preserved : goal.loop-at-preserved
loop-at-preserved c =
    let raw = c.args.raw.now in
    let at = c.loop-at.at in
    let n = c.loop-at.n in
    let b = c.in_ok-next.field-0-0 in
    let next = c.in_ok-next.next in
    let e : logical_at raw at ≡ Ok (b, next) = sym c.in_ok-next.ensures in
    let ahead = stands raw at b next e in (
      omega arith,
      ahead.1,
      sym (counted_one n b (undone_from raw (length raw - (n + 1)) next))
          ∙ ap (counted n) (sym (turn_byte raw n at c.loop-at.invariant.0 c.loop-at-test.true b next e)) ∙ c.loop-at.invariant.2,
    )

pub returns-in_err-next : goal.returns-in_err-next
returns-in_err-next c =
    let raw = c.args.raw.now in
    let at = c.loop-at.at in
    let n = c.loop-at.n in
    let e : logical_at raw at ≡ Err c.in_err-next.field-0.0 = sym c.in_err-next.ensures in
    exits c.from_residual.result c.in_err-next.field-0.0 c.from_residual.ensures.1
    ∙ (ap (counted n) (sym (turn_refused raw n at c.loop-at.invariant.0 c.loop-at-test.true _ e)) ∙ c.loop-at.invariant.2)

pub returns : goal.returns
returns c =
    let raw = c.args.raw.now in
    let at = c.loop-at.at in
    let n = c.loop-at.n in
    ap Ok (sym (add-zero n)) ∙ ap (counted n) (sym (none_left raw n at c.loop-at-test.false (length raw - n))) ∙ c.loop-at.invariant.2
