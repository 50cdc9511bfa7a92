-- `exchange::judge::judge_at` meets its contract: the exchange goes on behind the command that was accepted.
-- Assumes nothing.
use mathlib.Core.Path.{sym, ◌∙◌}
use native.Mathlib.Omega.{arith}
use lib.ListN.{length}
use Rattle.refusal.proofs.Exit.{exits}
use Rattle.exchange.specs.Exchange.{exchange_at}
use Rattle.exchange.proofs.Buffers.{rooms_had, refuses, judges_same}
use Rattle.exchange.proofs.FromRun.{once_within, once_then, twice_within, twice_then, neither_then}
use Rattle.exchange.proofs.judge.judge_at.Goals as goal

pub returns-in_err-t : goal.returns-in_err-t
returns-in_err-t c =
    let why = c.in_err-t.field-0.0 in
    refuses (exchange_at c.args.run.now c.args.at) c.args.command.now c.args.reply_1.now c.args.reply_2.now why c.from_residual.result
    (neither_then c.args.run.now c.args.at why c.in_err-t.ensures.at_value) (exits c.from_residual.result why c.from_residual.ensures.1)

pub overflow_add-at : goal.overflow_add-at
overflow_add-at c = omega (arith, once_within c.args.run.now c.args.at c.in_ok-t.t c.in_ok-t.ensures.at_value c.in-Once.is)

pub bounds-run-at : goal.bounds-run-at
bounds-run-at c = once_within c.args.run.now c.args.at c.in_ok-t.t c.in_ok-t.ensures.at_value c.in-Once.is

pub returns-in_err-e-in-Once : goal.returns-in_err-e-in-Once
returns-in_err-e-in-Once c =
    let why = c.in_err-e-in-Once.field-0.0 in
    refuses (exchange_at c.args.run.now c.args.at) c.args.command.now c.args.reply_1.now c.args.reply_2.now why c.from_residual-in_err-e-in-Once.result
    (once_then c.args.run.now c.args.at c.in_ok-t.t c.in_ok-t.ensures.at_value c.in-Once.is ∙ sym (c.in_err-e-in-Once.ensures.outcome _)) (exits c.from_residual-in_err-e-in-Once.result why c.from_residual-in_err-e-in-Once.ensures.1)

pub finish-requires : goal.finish-requires
finish-requires c =
    let had = rooms_had (length c.args.command.now) (length c.args.reply_1.now) (length c.args.reply_2.now) c.requires in
    let ready = c.in_ok-t.ensures.ready.first in
    (ready, c.in_ok-e-in-Once.ensures.ready.0, c.in_ok-e-in-Once.ensures.ready.1, omega (arith, had.0, ready.room), had.1, had.2)

pub returns-in_ok-e-in-Once : goal.returns-in_ok-e-in-Once
returns-in_ok-e-in-Once c =
    judges_same (once_then c.args.run.now c.args.at c.in_ok-t.t c.in_ok-t.ensures.at_value c.in-Once.is ∙ sym (c.in_ok-e-in-Once.ensures.outcome _)) c.finish.ensures

pub overflow_add-second : goal.overflow_add-second
overflow_add-second c = omega (arith, twice_within c.args.run.now c.args.at c.in_ok-t.t c.in_ok-t.ensures.at_value c.in-Twice.is c.in_ok-t.ensures.ready)

pub bounds-run-second : goal.bounds-run-second
bounds-run-second c = twice_within c.args.run.now c.args.at c.in_ok-t.t c.in_ok-t.ensures.at_value c.in-Twice.is c.in_ok-t.ensures.ready

pub returns-in_err-e-in-Twice : goal.returns-in_err-e-in-Twice
returns-in_err-e-in-Twice c =
    let why = c.in_err-e-in-Twice.field-0.0 in
    refuses (exchange_at c.args.run.now c.args.at) c.args.command.now c.args.reply_1.now c.args.reply_2.now why c.from_residual-in_err-e-in-Twice.result
    (twice_then c.args.run.now c.args.at c.in_ok-t.t c.in_ok-t.ensures.at_value c.in-Twice.is c.in_ok-t.ensures.ready ∙ sym (c.in_err-e-in-Twice.ensures.outcome _)) (exits c.from_residual-in_err-e-in-Twice.result why c.from_residual-in_err-e-in-Twice.ensures.1)

pub finish-requires-in-Twice : goal.finish-requires-in-Twice
finish-requires-in-Twice c =
    let had = rooms_had (length c.args.command.now) (length c.args.reply_1.now) (length c.args.reply_2.now) c.requires in
    let ready = c.in_ok-t.ensures.ready.second in
    (ready, c.in_ok-e-in-Twice.ensures.ready.0, c.in_ok-e-in-Twice.ensures.ready.1, omega (arith, had.0, ready.room), had.1, had.2)

pub returns-in_ok-e-in-Twice : goal.returns-in_ok-e-in-Twice
returns-in_ok-e-in-Twice c =
    judges_same (twice_then c.args.run.now c.args.at c.in_ok-t.t c.in_ok-t.ensures.at_value c.in-Twice.is c.in_ok-t.ensures.ready ∙ sym (c.in_ok-e-in-Twice.ensures.outcome _)) c.finish-in-Twice.ensures
