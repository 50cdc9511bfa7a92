-- `devices::ask` meets its contract: behind the guard the table is valid, and the buffer has room for any answer. Assumes nothing.
use mathlib.Core.Path.{sym, ap, subst, ◌∙◌}
use lib.ListN.{length}
use Rattle.table.specs.Table.{columns, valid}
use Rattle.guard.specs.Guard.{guard}
use Rattle.devices.specs.Calls.{answer_room}
use Rattle.turns.specs.Inner.{Writable}
use Rattle.guard.proofs.GuardCases.{guard_room, guard_valid}
use Rattle.turns.proofs.TurnKeeps.{respond_writable}
use Rattle.devices.proofs.ask.Goals as goal

pub respond-heard-requires : goal.respond-heard-requires
respond-heard-requires c = let t = columns c.args.serials.now c.args.addresses.now c.args.marks.now in
    let room = length c.args.answer.now in
    guard_valid answer_room room (valid t) (ap (guard answer_room room) (sym c.valid-ok.ensures) ∙ sym c.in_ok-admit.ensures)

pub write-requires : goal.write-requires
write-requires c = let t = columns c.args.serials.now c.args.addresses.now c.args.marks.now in
    let room = length c.args.answer.now in
    let passed = ap (guard answer_room room) (sym c.valid-ok.ensures) ∙ sym c.in_ok-admit.ensures in (
      subst Writable (sym c.respond-heard.ensures.answer_is) (respond_writable c.in_ok-request.request t (guard_valid answer_room room (valid t) passed)),
      guard_room answer_room room (valid t) passed,
    )
