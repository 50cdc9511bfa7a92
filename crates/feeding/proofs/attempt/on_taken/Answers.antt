-- `feeding::attempt::on_taken` meets its contract: by what was due.
-- Assumes nothing.
use native.Mathlib.Omega.{arith}
use Rattle.escapes.specs.Logical.{logicals_at}
use Rattle.feeding.proofs.Decided.{room_command, room_reply, command_kept, first_taken, second_taken}
use Rattle.feeding.proofs.attempt.on_taken.Goals as goal

pub keep-requires : goal.keep-requires
keep-requires c = ((_, c.requires.1), omega (arith, room_command c.args.m.due c.args.run.now c.args.len c.requires.1 c.if-m-lt-FIRST_REPLY.true))

pub overflow_cast-m : goal.overflow_cast-m
overflow_cast-m c = omega (arith, room_command c.args.m.due c.args.run.now c.args.len c.requires.1 c.if-m-lt-FIRST_REPLY.true)

pub returns-then-m-lt-FIRST_REPLY : goal.returns-then-m-lt-FIRST_REPLY
returns-then-m-lt-FIRST_REPLY c =
    let t = logicals_at c.args.run.now c.args.len 0 in
    command_kept c.args.m c.args.kept.now _ t c.args.n c.args.len c.requires.1.size c.if-m-lt-FIRST_REPLY.true c.keep.ensures c.due_behind.result c.due_behind.ensures

pub keep-requires-then-m-eq-FIRST_REPLY : goal.keep-requires-then-m-eq-FIRST_REPLY
keep-requires-then-m-eq-FIRST_REPLY c = ((_, c.requires.1), omega (arith, room_reply c.args.m.due c.args.run.now c.args.len c.requires.1 c.if-m-lt-FIRST_REPLY.false))

pub overflow_cast-m-then-m-eq-FIRST_REPLY : goal.overflow_cast-m-then-m-eq-FIRST_REPLY
overflow_cast-m-then-m-eq-FIRST_REPLY c = omega (arith, room_reply c.args.m.due c.args.run.now c.args.len c.requires.1 c.if-m-lt-FIRST_REPLY.false)

pub returns-then-m-eq-FIRST_REPLY : goal.returns-then-m-eq-FIRST_REPLY
returns-then-m-eq-FIRST_REPLY c =
    let t = logicals_at c.args.run.now c.args.len 0 in
    first_taken c.args.m c.args.kept.now _ t c.args.n c.args.len c.requires.1.size c.if-m-eq-FIRST_REPLY.true c.keep-then-m-eq-FIRST_REPLY.ensures

pub keep-requires-2 : goal.keep-requires-2
keep-requires-2 c = ((_, c.requires.1), omega (arith, room_reply c.args.m.due c.args.run.now c.args.len c.requires.1 c.if-m-lt-FIRST_REPLY.false))

pub overflow_cast-m-2 : goal.overflow_cast-m-2
overflow_cast-m-2 c = omega (arith, room_reply c.args.m.due c.args.run.now c.args.len c.requires.1 c.if-m-lt-FIRST_REPLY.false)

pub returns : goal.returns
returns c =
    let t = logicals_at c.args.run.now c.args.len 0 in
    second_taken c.args.m c.args.kept.now _ t c.args.n c.args.len c.requires.1.size c.if-m-lt-FIRST_REPLY.false c.if-m-eq-FIRST_REPLY.false c.keep-2.ensures
