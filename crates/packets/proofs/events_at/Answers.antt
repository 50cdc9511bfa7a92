-- `packets::events_at` meets its contract. Assumes nothing.
use mathlib.Core.Path.{sym, ◌∙◌}
use native.Mathlib.Omega.{arith}
use Rattle.refusal.proofs.Exit.{exits}
use Rattle.packets.proofs.ReaderOutcomes.{sender_long, sender_is, nothing_refused, nothing_said}
use Rattle.packets.proofs.events_at.Goals as goal

pub packet_at-requires : goal.packet_at-requires
packet_at-requires c = let args = c.args in
    let is = sym c.sender_at.ensures ∙ c.if-sender_at.true in
    (omega (arith, sender_long args.input.now args.at is), sender_is args.input.now args.at is)

pub returns-in_err-head_at : goal.returns-in_err-head_at
returns-in_err-head_at c =
    let args = c.args in
    let why = c.in_err-head_at.field-0.0 in
    exits c.from_residual.result why c.from_residual.ensures.1
    ∙ sym (nothing_refused args.input.now args.at (sym c.sender_at.ensures ∙ c.if-sender_at.false) why (sym c.in_err-head_at.ensures))

pub returns : goal.returns
returns c =
    let args = c.args in
    sym (nothing_said args.input.now args.at (sym c.sender_at.ensures ∙ c.if-sender_at.false) (sym c.in_ok-head_at.ensures))
