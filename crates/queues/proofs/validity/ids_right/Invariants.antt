-- `queues::validity::ids_right` meets its contract: a place for each byte tells an id from those before it. Assumes nothing.
use Rattle.queues.proofs.Ids.{Seen}
use Rattle.queues.proofs.validity.ids_right.Given as goal

abbrev pub invariant-loop-id : goal.invariant-loop-id
invariant-loop-id l = Seen l.ids l.taken l.id-index
