-- `oldest::drop_oldest` meets its contract: where events are dropped, both columns change. Assumes nothing.
use native.Mathlib.Omega.{arith}
use Rattle.oldest.proofs.DropCases.{dropped_is}
use Rattle.oldest.proofs.drop_oldest.Goals as goal

pub returns : goal.returns
returns c = dropped_is c.args.device c.args.events c.args.counts.now c.args.slots.now c.move_up.new.slots (omega arith) (omega arith) (omega arith) c.move_up.ensures
