-- `railbus::hex::word_at` meets its contract. Assumes nothing.
use Prim.Native.Nat.{◌+◌}
use native.Mathlib.Omega.{arith}
use Rattle.railbus.proofs.Digits.{digits_two, spelled_word}
use Rattle.railbus.proofs.hex.word_at.Goals as goal

pub pair_at-requires : goal.pair_at-requires
pair_at-requires c = (omega arith, digits_two c.args.input.now c.args.at 8 c.args.at c.requires.0 (omega arith) (omega arith) c.requires.1)

pub pair_at-requires-2 : goal.pair_at-requires-2
pair_at-requires-2 c = (omega arith, digits_two c.args.input.now c.args.at 8 (c.args.at + 2) c.requires.0 (omega arith) (omega arith) c.requires.1)

pub pair_at-requires-3 : goal.pair_at-requires-3
pair_at-requires-3 c = (omega arith, digits_two c.args.input.now c.args.at 8 (c.args.at + 4) c.requires.0 (omega arith) (omega arith) c.requires.1)

pub pair_at-requires-4 : goal.pair_at-requires-4
pair_at-requires-4 c = (omega arith, digits_two c.args.input.now c.args.at 8 (c.args.at + 6) c.requires.0 (omega arith) (omega arith) c.requires.1)

pub returns : goal.returns
returns c = omega (arith, spelled_word c.args.input.now c.args.at c.requires.0, c.pair_at.ensures, c.pair_at-2.ensures, c.pair_at-3.ensures, c.pair_at-4.ensures)
