-- `packets::packet_at` meets its contract: its tests are those of the definition, in the same order. Assumes nothing.
use mathlib.Core.Path.{sym, ◌∙◌}
use native.Mathlib.Omega.{arith}
use Rattle.packets.proofs.ReaderOutcomes.{packet_second, packet_third}
use Rattle.packets.proofs.packet_at.Goals as goal

pub returns-then-input-at-ne-EXTENDED : goal.returns-then-input-at-ne-EXTENDED
returns-then-input-at-ne-EXTENDED c = let args = c.args in
    c.refused.ensures ∙ sym (packet_second args.input.now args.at c.requires.1 (omega arith) c.if-input-at-ne-EXTENDED.true)

pub returns-then-input-at-ne-PACKET : goal.returns-then-input-at-ne-PACKET
returns-then-input-at-ne-PACKET c = let args = c.args in
    c.refused-then-input-at-ne-PACKET.ensures ∙ sym (packet_third args.input.now args.at c.requires.1 (omega arith) c.if-input-at-ne-EXTENDED.false c.if-input-at-ne-PACKET.true)
