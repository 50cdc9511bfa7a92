-- `telegram::extent_at` meets its contract: the head, and then as many bytes as its LEN says and the check byte.
-- Assumes nothing.
use mathlib.Core.Path.{sym, ap, ◌∙◌}
use Prim.Native.Nat.{◌<◌}
use native.Mathlib.Omega.{arith}
use borrow.Author.Rules.{rules}
use Rattle.refusal.proofs.Exit.{exits}
use Rattle.telegram.specs.View.{extent_of}
use Rattle.telegram.proofs.TelegramRead.{some_head, head_told, head_refused}
use Rattle.telegram.proofs.extent_at.Goals as goal

pub returns-in_err-head : goal.returns-in_err-head
returns-in_err-head c =
    exits c.from_residual.result c.in_err-head.field-0.0 c.from_residual.ensures.1
    ∙ head_refused c.args.command c.args.run.now c.args.at _ c.in_err-head.ensures

pub collect-requires : goal.collect-requires
collect-requires c =
    let h = head_told c.args.command c.args.run.now c.args.at c.in_ok-head.head c.in_ok-head.ensures in
    let few : c.in_ok-head.head.value < 256 = search rules in
    record { n_bound = omega (arith, h.whole, some_head c.args.command); command_bound = λ e. omega (arith, h.whole) }

pub returns : goal.returns
returns c =
    let h = head_told c.args.command c.args.run.now c.args.at c.in_ok-head.head c.in_ok-head.ensures in
    c.collect.ensures h.bytes h.size h.final ∙ ap extent_of (sym h.then)
