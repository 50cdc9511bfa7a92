-- `relay::respond` meets its contract: a packet for another address, or the device's own. Assumes nothing.
use Rattle.relay.specs.Device.{Relay}
use Rattle.relay.proofs.CallCases.{for_another, for_us}
use Rattle.relay.proofs.respond.Goals as goal

pub returns-then-packet-address : goal.returns-then-packet-address
returns-then-packet-address c =
    let a = c.args in
    let d : Relay = record { registers = a.registers.now; access = a.access.now } in
    for_another a.address a.packet d a.write a.answer.now c.if-packet-address.true

pub returns : goal.returns
returns c =
    let a = c.args in
    let d : Relay = record { registers = a.registers.now; access = a.access.now } in
    for_us a.address a.packet d a.write a.answer.now c.on_message-response.result c.say.result c.say.new.answer c.if-packet-address.false c.on_message-response.ensures c.say.ensures
