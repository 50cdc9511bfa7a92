-- `railbus::hex::value` meets its contract: a digit is one of the ten or one of the six. Assumes nothing.
use native.Mathlib.Omega.{arith}
use borrow.Author.Tests.{le-leb, lt-leb}
use Rattle.railbus.specs.Hex.{digit_value}
use Rattle.railbus.proofs.Digits.{digit_least, digit_most}
use Rattle.railbus.proofs.hex.value.Goals as goal

pub overflow_sub-result : goal.overflow_sub-result
overflow_sub-result c = digit_least _ c.requires

pub returns-then-c-le57 : goal.returns-then-c-le57
unfolding digit_value
returns-then-c-le57 c = (simp (le-leb _ _ c.if-c-le57.true), omega arith)

pub returns : goal.returns
unfolding digit_value
returns c = (simp (lt-leb _ _ c.if-c-le57.false), omega (arith, digit_most c.args.c c.requires))
