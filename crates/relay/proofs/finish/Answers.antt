-- `relay::finish` meets its contract: refused by the guard, the running write stored and answered, or nothing. Assumes nothing.
use mathlib.Core.Path.{sym, ap, ◌∙◌}
use native.Mathlib.Omega.{arith}
use lib.ListN.{length}
use Rattle.guard.specs.Guard.{guard}
use Rattle.guard.proofs.GuardCases.{guard_room, guard_valid}
use Rattle.relay.specs.Device.{Relay, valid_relay}
use Rattle.relay.specs.Calls.{relay_room}
use Rattle.relay.proofs.Validity.{registers_long}
use Rattle.relay.proofs.CallCases.{behind_guard, refused_call, finish_refused, finish_running, finish_none}
use Rattle.relay.proofs.finish.Goals as goal

pub bounds-registers-register : goal.bounds-registers-register
bounds-registers-register c =
    let a = c.args in
    let d : Relay = record { registers = a.registers.now; access = a.access.now } in
    let room = length a.answer.now in
    let passed = behind_guard d room c.valid_relay-ok.result c.admit.result c.valid_relay-ok.ensures c.admit.ensures c.in_default.not-Err in
    let long = registers_long d (guard_valid relay_room room (valid_relay d) passed) in
    omega (arith, long)

pub say-requires : goal.say-requires
say-requires c =
    let a = c.args in
    let d : Relay = record { registers = a.registers.now; access = a.access.now } in
    let room = length a.answer.now in
    let passed = behind_guard d room c.valid_relay-ok.result c.admit.result c.valid_relay-ok.ensures c.admit.ensures c.in_default.not-Err in
    guard_room relay_room room (valid_relay d) passed

pub returns-in-Err : goal.returns-in-Err
returns-in-Err c =
    let a = c.args in
    let d : Relay = record { registers = a.registers.now; access = a.access.now } in
    let room = length a.answer.now in
    let why = c.in-Err.why in
    refused_call a.address a.answer.now d a.write why c.refused.result
    (finish_refused a.address a.answer.now d a.write why (sym (c.in-Err.ensures ∙ ap (guard relay_room room) c.valid_relay-ok.ensures))) c.refused.ensures

pub returns-in-Running : goal.returns-in-Running
returns-in-Running c =
    let a = c.args in
    let d : Relay = record { registers = a.registers.now; access = a.access.now } in
    let room = length a.answer.now in
    let passed = behind_guard d room c.valid_relay-ok.result c.admit.result c.valid_relay-ok.ensures c.admit.ensures c.in_default.not-Err in
    finish_running a.address a.answer.now d a.write c.in-Running.register c.in-Running.value c.say.result c.say.new.answer passed c.in-Running.is c.say.ensures

pub returns-in_default-write : goal.returns-in_default-write
returns-in_default-write c =
    let a = c.args in
    let d : Relay = record { registers = a.registers.now; access = a.access.now } in
    let room = length a.answer.now in
    let passed = behind_guard d room c.valid_relay-ok.result c.admit.result c.valid_relay-ok.ensures c.admit.ensures c.in_default.not-Err in
    finish_none a.address a.answer.now d a.write passed c.in_default-write.not-Running
