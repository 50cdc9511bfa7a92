-- `framecalls::moor_write_request` meets its contract: the request is picked by its number.
-- Assumes nothing.
use lib.ListN.{length}
use Rattle.boundary.specs.ForC.{written_for_c}
use Rattle.refusal.proofs.Writer.{wrote_shown}
use Rattle.framecalls.proofs.RequestOutput.{wrote_start, wrote_continue, wrote_neither}
use Rattle.framecalls.proofs.moor_write_request.Goals as goal

pub returns-then-request-eq-START : goal.returns-then-request-eq-START
returns-then-request-eq-START c =
    let args = c.args in
    wrote_start args.request (length args.out.now) _ _ _ c.if-request-eq-START.true
    (wrote_shown written_for_c _ _ _ _ _ c.written_for_c.ensures c.write_request.ensures)

pub returns-then-request-eq-CONTINUE : goal.returns-then-request-eq-CONTINUE
returns-then-request-eq-CONTINUE c =
    let args = c.args in
    wrote_continue args.request (length args.out.now) _ _ _ c.if-request-eq-START.false
    c.if-request-eq-CONTINUE.true
    (wrote_shown written_for_c _ _ _ _ _ c.written_for_c-then-request-eq-CONTINUE.ensures c.write_request-then-request-eq-CONTINUE.ensures)

pub returns : goal.returns
returns c =
    let args = c.args in
    wrote_neither args.request (length args.out.now) _ args.out.now c.if-request-eq-START.false c.if-request-eq-CONTINUE.false c.refused_for_c.ensures
