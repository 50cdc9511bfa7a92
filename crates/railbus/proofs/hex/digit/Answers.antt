-- `railbus::hex::digit` meets its contract. Assumes nothing.
use Rattle.railbus.proofs.Spelling.{low_digit, high_digit}
use Rattle.railbus.proofs.hex.digit.Goals as goal

pub returns-then-v-lt10 : goal.returns-then-v-lt10
returns-then-v-lt10 c = low_digit _ c.if-v-lt10.true

pub returns : goal.returns
returns c = high_digit _ c.if-v-lt10.false
