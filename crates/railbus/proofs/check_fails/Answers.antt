-- `railbus::check_fails` meets its contract. Assumes nothing.
use native.Mathlib.Omega.{arith}
use borrow.Author.Tests.{le-leb, lt-leb}
use Rattle.crc7.specs.Check.{examined}
use Rattle.railbus.proofs.Reader.{from_mark}
use Rattle.railbus.proofs.check_fails.Goals as goal

pub returns-then-sent-lt-EXAMINED : goal.returns-then-sent-lt-EXAMINED
returns-then-sent-lt-EXAMINED c = simp (lt-leb examined c.args.sent (omega arith))

pub returns : goal.returns
returns c = simp (le-leb examined c.args.sent (omega arith), c.checksum.ensures, from_mark c.args.place c.args.input.now)
