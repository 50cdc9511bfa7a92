-- `feeding::attempt::on_nacked` meets its contract: by what was due.
-- Assumes nothing.
use native.Mathlib.Omega.{arith}
use Prim.Native.Nat.{◌≤◌}
use Rattle.escapes.specs.Logical.{logicals_at}
use Rattle.listening.specs.Listening.{first_reply}
use Rattle.feeding.proofs.Decided.{room_reply, command_nacked, first_nacked, twice_nacked}
use Rattle.feeding.proofs.attempt.on_nacked.Goals as goal

pub returns-then-m-eq-FIRST_COMMAND : goal.returns-then-m-eq-FIRST_COMMAND
returns-then-m-eq-FIRST_COMMAND c = command_nacked c.args.m c.args.kept.now (logicals_at c.args.run.now c.args.len 0) c.args.n c.args.place c.if-m-eq-FIRST_COMMAND.true

pub keep-requires : goal.keep-requires
keep-requires c =
    let reply : first_reply ≤ c.args.m.due = omega (arith, c.if-m-eq-FIRST_REPLY.true) in
    ((_, c.requires.2), omega (arith, room_reply c.args.m.due c.args.run.now c.args.len c.requires.2 reply))

pub overflow_cast-m : goal.overflow_cast-m
overflow_cast-m c =
    let reply : first_reply ≤ c.args.m.due = omega (arith, c.if-m-eq-FIRST_REPLY.true) in
    omega (arith, room_reply c.args.m.due c.args.run.now c.args.len c.requires.2 reply)

pub returns-then-m-eq-FIRST_REPLY : goal.returns-then-m-eq-FIRST_REPLY
returns-then-m-eq-FIRST_REPLY c =
    let t = logicals_at c.args.run.now c.args.len 0 in
    first_nacked c.args.m c.args.kept.now _ t c.args.n c.args.len c.requires.2.size c.args.place c.if-m-eq-FIRST_REPLY.true c.keep.ensures

pub returns : goal.returns
returns c = twice_nacked c.args.m c.args.kept.now (logicals_at c.args.run.now c.args.len 0) c.args.n c.args.place c.answers.result c.nacked_twice.result c.if-m-eq-FIRST_COMMAND.false c.if-m-eq-FIRST_REPLY.false c.nacked_twice.ensures c.answers.ensures
