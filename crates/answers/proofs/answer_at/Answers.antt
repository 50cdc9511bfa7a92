-- `answers::answer_at` meets its contract. A frame that the head check accepts as 03 has ten bytes, so that what it
-- carries can be read. Assumes nothing.
use mathlib.Core.Path.{sym, ◌∙◌}
use native.Mathlib.Omega.{arith}
use Rattle.refusal.proofs.Exit.{exits}
use Rattle.answers.proofs.ReaderOutcomes.{answer_refused, answer_end, found_long, answer_found}
use Rattle.answers.proofs.answer_at.Goals as goal

pub returns-in_err-subcommand : goal.returns-in_err-subcommand
returns-in_err-subcommand c =
    let args = c.args in
    let why = c.in_err-subcommand.field-0.0 in
    exits c.from_residual.result why c.from_residual.ensures.1 ∙ sym (answer_refused args.input.now args.at why (sym c.in_err-subcommand.ensures))

pub returns-then-subcommand-ne-FOUND : goal.returns-then-subcommand-ne-FOUND
returns-then-subcommand-ne-FOUND c =
    let args = c.args in
    sym (answer_end args.input.now args.at c.in_ok-subcommand.subcommand (sym c.in_ok-subcommand.ensures) c.if-subcommand-ne-FOUND.true)

pub found_at-requires : goal.found_at-requires
found_at-requires c =
    let args = c.args in
    omega (arith, found_long args.input.now args.at c.in_ok-subcommand.subcommand (sym c.in_ok-subcommand.ensures) c.if-subcommand-ne-FOUND.false)

pub returns : goal.returns
returns c =
    let args = c.args in
    c.found_at.ensures ∙ sym (answer_found args.input.now args.at c.in_ok-subcommand.subcommand (sym c.in_ok-subcommand.ensures) c.if-subcommand-ne-FOUND.false)
