-- `crc::check_without_rows` meets its contract. Assumes nothing.
use Rattle.std.proofs.Common.{ap, ◌∙◌, ℕ, ◌%◌, arith}
use Rattle.std.specs.Int.Bits.{bit_xor}
use Rattle.crc.specs.BitByBit.{modbus_times}
use Rattle.crc.proofs.Byte.{modbus_turn, modbus_end}
use Rattle.crc.proofs.check_without_rows.Goals as goal

pub loop-byte-preserved : goal.loop-byte-preserved
loop-byte-preserved c =
    let frame = c.args.frame.now in
    let l = c.loop-byte in
    let entry = c.eight_steps.ensures ∙ ap (λ (b : ℕ). modbus_times 8 (bit_xor l.register b % 256)) c.from.ensures in
    modbus_turn frame l.byte-index l.register _ l.invariant c.loop-byte-test.true (omega (arith, c.type_inv.frame l.byte-index)) entry

pub returns : goal.returns
returns c = let l = c.loop-byte in modbus_end c.args.frame.now l.byte-index l.register l.invariant c.loop-byte-test.false
