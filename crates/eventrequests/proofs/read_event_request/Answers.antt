-- `eventrequests::read_event_request` meets its contract: a frame that the head check accepts has nine bytes. Assumes nothing.
use mathlib.Core.Path.{sym, ◌∙◌}
use native.Mathlib.Omega.{arith}
use Rattle.refusal.proofs.Exit.{exits}
use Rattle.eventrequests.proofs.ReaderOutcomes.{request_refused, request_long, request_asked}
use Rattle.eventrequests.proofs.read_event_request.Goals as goal

pub returns-in_err-head_at : goal.returns-in_err-head_at
returns-in_err-head_at c =
    let why = c.in_err-head_at.field-0.0 in
    exits c.from_residual.result why c.from_residual.ensures.1 ∙ sym (request_refused c.args.input.now why (sym c.in_err-head_at.ensures))

pub bounds-input-3 : goal.bounds-input-3
bounds-input-3 c = omega (arith, request_long c.args.input.now (sym c.in_ok-head_at.ensures))

pub bounds-input-4 : goal.bounds-input-4
bounds-input-4 c = omega (arith, request_long c.args.input.now (sym c.in_ok-head_at.ensures))

pub bounds-input-5 : goal.bounds-input-5
bounds-input-5 c = omega (arith, request_long c.args.input.now (sym c.in_ok-head_at.ensures))

pub bounds-input-6 : goal.bounds-input-6
bounds-input-6 c = omega (arith, request_long c.args.input.now (sym c.in_ok-head_at.ensures))

pub returns : goal.returns
returns c = sym (request_asked c.args.input.now (sym c.in_ok-head_at.ensures))
