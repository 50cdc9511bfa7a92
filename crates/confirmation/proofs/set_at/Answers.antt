-- `confirmation::set_at` meets its contract: behind the end nothing is stored. Assumes nothing.
use mathlib.Core.Path.{sym}
use native.Mathlib.Omega.{arith}
use lib.Seq.{set_out}
use Rattle.confirmation.proofs.set_at.Goals as goal

pub returns-else-at-list : goal.returns-else-at-list
returns-else-at-list c = sym (set_out c.args.list.now c.args.at c.args.byte (omega arith))
