-- `capturedesk::walk::over_run` is safe and ends: each step goes through some of the bytes that are left, and through no more.
-- Assumes nothing.
use mathlib.Core.Path.{◌≡◌, ap, ◌∙◌}
use mathlib.Core.List.{List}
use Prim.Native.Nat.{ℕ, ◌+◌, ◌-◌, ◌≤◌, ◌<◌}
use native.Mathlib.Omega.{arith}
use lib.ListN.{length, take, drop, length-drop}
use Rattle.lists.proofs.All.{whole_rest}
use Rattle.captures.specs.Capture.{through_syn}
use Rattle.captures.proofs.Through.{through_size, through_some}
use Rattle.capturedesk.proofs.walk.over_run.Goals as goal

-- What is gone through of the bytes from i on: some, and no more than there are.
steps : (run : List ℕ) (i n : ℕ) → i < length run → n ≡ through_syn (take (length run - i) (drop i run)) → (0 < n) × (i + n ≤ length run)
steps run i n near is =
    let whole : n ≡ through_syn (drop i run) = is ∙ ap through_syn (whole_rest run i) in
    let some : 0 < length (drop i run) = omega (arith, length-drop i run) in
    (omega (arith, through_some (drop i run) some), omega (arith, length-drop i run, through_size (drop i run)))

pub overflow_add-i : goal.overflow_add-i
overflow_add-i c =
    let on = steps c.args.run.now c.loop-i.i c.through_syn-n.result c.loop-i-test.true c.through_syn-n.ensures in
    omega (arith, on.1)

pub loop-i-smaller : goal.loop-i-smaller
loop-i-smaller c =
    let on = steps c.args.run.now c.loop-i.i c.through_syn-n.result c.loop-i-test.true c.through_syn-n.ensures in
    omega (arith, on.0, on.1)
