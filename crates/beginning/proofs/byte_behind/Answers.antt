-- `beginning::byte_behind` meets its contract: a position of the first run, or one behind it. Assumes nothing.
use mathlib.Core.Path.{◌≡◌, sym, ap, ◌∙◌}
use mathlib.Core.List.{◌++◌}
use Prim.Native.Nat.{ℕ, ◌+◌, ◌-◌}
use native.Mathlib.Omega.{arith}
use lib.ListN.{length, get_or, get_or-append}
use lib.Seq.{get_or-append-add}
use Rattle.beginning.proofs.byte_behind.Goals as goal

pub returns-then-at-hand : goal.returns-then-at-hand
returns-then-at-hand c = sym (get_or-append c.args.hand.now c.args.run.now 0 c.args.at c.if-at-hand.true)

pub returns : goal.returns
returns c =
    let hand = c.args.hand.now in
    let run = c.args.run.now in
    let at = c.args.at in
    let there : length hand + (at - length hand) ≡ at = omega (arith, c.if-at-hand.false) in
    c.byte_at.ensures ∙ sym (get_or-append-add hand run (at - length hand) 0) ∙ ap (λ (i : ℕ). get_or (hand ++ run) i 0) there
