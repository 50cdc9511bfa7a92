-- `requests::read_request` meets its contract. Assumes nothing.
use Rattle.std.specs.Prelude.{Ok}
use mathlib.Core.Path.{sym, ap, ◌∙◌}
use Rattle.refusal.proofs.Exit.{exits}
use Rattle.requests.proofs.ReaderOutcomes.{request_refused, request_asked}
use Rattle.requests.proofs.read_request.Goals as goal

pub returns-in_err-subcommand : goal.returns-in_err-subcommand
returns-in_err-subcommand c =
    let why = c.in_err-subcommand.field-0.0 in
    exits c.from_residual.result why c.from_residual.ensures.1 ∙ sym (request_refused c.args.input.now why (sym c.in_err-subcommand.ensures))

pub returns : goal.returns
returns c = ap Ok c.asked.ensures ∙ sym (request_asked c.args.input.now c.in_ok-subcommand.subcommand (sym c.in_ok-subcommand.ensures))
