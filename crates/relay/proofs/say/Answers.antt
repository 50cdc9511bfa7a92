-- `relay::say` meets its contract: nothing, or the packet, which the room takes. Assumes nothing.
use Rattle.relay.proofs.CallCases.{said_written, said_fits}
use Rattle.relay.proofs.say.Goals as goal

pub returns : goal.returns
returns c = let a = c.args in said_written a.address a.register a.said c.in-Some.message c.in-Some.is a.answer.now c.write_packet.new.out c.requires c.write_packet.result c.write_packet.ensures c.in_ok-size.size c.in_ok-size.was

pub returns-in_err-size : goal.returns-in_err-size
returns-in_err-size c = let a = c.args in said_fits a.address a.register a.said c.in-Some.message c.in-Some.is a.answer.now c.write_packet.new.out c.requires c.write_packet.result c.write_packet.ensures c.in_err-size.field-0.0 c.in_err-size.was
