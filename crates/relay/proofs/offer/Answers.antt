-- `relay::offer` meets its contract: refused by the guard, refused by the reader, or answered. Assumes nothing.
use mathlib.Core.Path.{sym, ap, ◌∙◌, subst}
use lib.ListN.{length}
use Rattle.guard.specs.Guard.{guard}
use Rattle.guard.proofs.GuardCases.{guard_room, guard_valid}
use Rattle.relay.specs.Device.{Relay, valid_relay}
use Rattle.relay.specs.Calls.{Relaying, Relays, relayed, relay_room}
use Rattle.relay.proofs.Validity.{registers_long, access_long}
use Rattle.relay.proofs.CallCases.{behind_guard, refused_call, offer_refused, offer_unread, offer_found}
use Rattle.relay.proofs.offer.Goals as goal

pub respond-requires : goal.respond-requires
respond-requires c =
    let a = c.args in
    let d : Relay = record { registers = a.registers.now; access = a.access.now } in
    let room = length a.answer.now in
    let passed = behind_guard d room c.valid_relay-ok.result c.admit.result c.valid_relay-ok.ensures c.admit.ensures c.in_default.not-Err in
    (guard_room relay_room room (valid_relay d) passed, registers_long d (guard_valid relay_room room (valid_relay d) passed), access_long d (guard_valid relay_room room (valid_relay d) passed))

pub returns-in-Err : goal.returns-in-Err
returns-in-Err c =
    let a = c.args in
    let d : Relay = record { registers = a.registers.now; access = a.access.now } in
    let room = length a.answer.now in
    let why = c.in-Err.why in
    refused_call a.address a.answer.now d a.write why c.refused.result
    (offer_refused a.address a.answer.now d a.write a.input.now why (sym (c.in-Err.ensures ∙ ap (guard relay_room room) c.valid_relay-ok.ensures))) c.refused.ensures

pub returns-in-Err-read_packet : goal.returns-in-Err-read_packet
returns-in-Err-read_packet c =
    let a = c.args in
    let d : Relay = record { registers = a.registers.now; access = a.access.now } in
    let room = length a.answer.now in
    let passed = behind_guard d room c.valid_relay-ok.result c.admit.result c.valid_relay-ok.ensures c.admit.ensures c.in_default.not-Err in
    let why = c.in-Err-read_packet.why in
    refused_call a.address a.answer.now d a.write why c.refused-in-Err-read_packet.result
    (offer_unread a.address a.answer.now d a.write a.input.now why passed (sym c.in-Err-read_packet.ensures)) c.refused-in-Err-read_packet.ensures

pub returns-in-Ok : goal.returns-in-Ok
returns-in-Ok c =
    let a = c.args in
    let d : Relay = record { registers = a.registers.now; access = a.access.now } in
    let room = length a.answer.now in
    let passed = behind_guard d room c.valid_relay-ok.result c.admit.result c.valid_relay-ok.ensures c.admit.ensures c.in_default.not-Err in
    let p = c.in-Ok.packet in
    subst (λ (g : Relaying). Relays relayed g c.respond.result c.respond.new.answer a.registers.now)
    (offer_found a.address a.answer.now d a.write a.input.now p c.in-Ok.field-0-1 passed (sym c.in-Ok.ensures))
    c.respond.ensures
