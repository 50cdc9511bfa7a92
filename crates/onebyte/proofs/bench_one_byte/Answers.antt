-- `onebyte::bench_one_byte` meets its contract. Assumes nothing.
use Rattle.std.proofs.Common.{◌∙◌, ap, ℕ, ◌%◌, [], get_or, arith}
use Rattle.std.specs.Int.Bits.{bit_xor}
use Rattle.crc.proofs.Byte.{looked_up, modbus_turn, modbus_end}
use Rattle.onebyte.proofs.bench_one_byte.Goals as goal

pub loop-byte-preserved : goal.loop-byte-preserved
loop-byte-preserved c =
    let bytes = c.args.bytes.now in
    let l = c.loop-byte in
    let i = l.byte-index in
    let table = get_or c.modbus_rows-rows.result 0 [] in
    let entry = c.from-in-loop-byte.ensures ∙ ap (λ (b : ℕ). get_or table (bit_xor l.register b % 256) 0) c.from.ensures ∙ looked_up l.invariant.0 l.register (get_or bytes i 0) in
    (l.invariant.0, modbus_turn bytes i l.register _ l.invariant.1 c.loop-byte-test.true (omega (arith, c.type_inv.bytes i)) entry)

pub returns : goal.returns
returns c = let l = c.loop-byte in modbus_end c.args.bytes.now l.byte-index l.register l.invariant.1 c.loop-byte-test.false
