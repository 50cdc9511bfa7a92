-- `queues::validity::ids_right` meets its contract. Assumes nothing.
use mathlib.Core.Path.{sym, ◌∙◌}
use native.Mathlib.Omega.{arith}
use Rattle.queues.proofs.Ids.{no_ids, next_id, ids_end, id_twice, id_wrong}
use Rattle.queues.proofs.validity.ids_right.Goals as goal
use Rattle.queues.proofs.validity.ids_right.Goals.{then-not-is_id-via-then-not-is_id, then-not-is_id-via-else-not-is_id+then-taken-at}

pub loop-id-init : goal.loop-id-init
loop-id-init c = no_ids c.args.ids.now

pub returns-then-not-is_id : goal.returns-then-not-is_id
returns-then-not-is_id c =
    let ids = c.args.ids.now in
    let at = c.loop-id.id-index in
    elim c.then-not-is_id.branch [ then-not-is_id-via-then-not-is_id w ↦ id_wrong ids at c.loop-id-test.true (sym c.is_id.ensures ∙ w.if-not-is_id.true) | then-not-is_id-via-else-not-is_id+then-taken-at w ↦ id_twice ids c.loop-id.taken at c.loop-id.invariant c.loop-id-test.true w.if-taken-at.true ]

pub loop-id-preserved : goal.loop-id-preserved
loop-id-preserved c =
    next_id c.args.ids.now c.loop-id.taken c.loop-id.id-index c.loop-id.invariant c.loop-id-test.true
    (sym c.is_id.ensures ∙ c.if-not-is_id.false) c.if-taken-at.false (omega arith)

pub returns : goal.returns
returns c = ids_end c.args.ids.now c.loop-id.taken c.loop-id.id-index c.loop-id.invariant c.loop-id-test.false
