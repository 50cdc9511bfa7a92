-- `railbus::write_packet` meets its contract. Assumes nothing.
use native.Mathlib.Omega.{arith}
use Rattle.railbus.proofs.Writer.{body_is, packet_wrote}
use Rattle.railbus.proofs.write_packet.Goals as goal

pub returns-in-Bare : goal.returns-in-Bare
returns-in-Bare c =
    packet_wrote c.args.packet _ _ c.args.out.now _
    c.write_checked.ensures
    (body_is c.args.packet _ _ _ _ _ _ (omega arith) (omega arith) c.in-Bare.is c.digit.ensures c.digit-2.ensures c.letter_of.ensures c.digit-3.ensures c.digit-4.ensures)

pub returns-in-With : goal.returns-in-With
returns-in-With c =
    packet_wrote c.args.packet _ _ c.args.out.now _
    c.write_long.ensures
    (body_is c.args.packet _ _ _ _ _ _ (omega arith) (omega arith) c.in-With.is c.digit.ensures c.digit-2.ensures c.letter_of.ensures c.digit-3.ensures c.digit-4.ensures)
