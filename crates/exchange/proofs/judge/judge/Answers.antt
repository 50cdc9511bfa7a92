-- `exchange::judge::judge` meets its contract: the rooms, and then the exchange from where the command starts, of the bytes that are
-- read. Assumes nothing.
use mathlib.Core.Path.{sym, ap, ◌∙◌}
use lib.ListN.{length, take}
use Rattle.refusal.specs.Number.{output_short, at_place}
use Rattle.exchange.specs.Exchange.{exchange_at, exchange, judged}
use Rattle.exchange.proofs.Buffers.{judged_short, judged_roomy, read_length, read_part, refuses, judges_same}
use Rattle.exchange.proofs.judge.judge.Goals as goal

pub returns-then-not-have_room : goal.returns-then-not-have_room
returns-then-not-have_room c =
    let run = c.args.run.now in
    let command = c.args.command.now in
    let first = c.args.reply_1.now in
    let second = c.args.reply_2.now in
    refuses (judged run (length command) (length first) (length second)) command first second (at_place output_short 0) c.refused.result
    (judged_short (length command) (length first) (length second) run (sym c.have_room.ensures ∙ c.if-not-have_room.true)) c.refused.ensures

pub slice_bounds-read-end : goal.slice_bounds-read-end
slice_bounds-read-end c = read_length c.args.run.now c.read_of-n.result c.read_of-n.ensures

pub judge_at-requires : goal.judge_at-requires
judge_at-requires c = sym c.have_room.ensures ∙ c.if-not-have_room.false

pub returns : goal.returns
returns c =
    let run = c.args.run.now in
    let read = take c.read_of-n.result run in
    judges_same
    (judged_roomy (length c.args.command.now) (length c.args.reply_1.now) (length c.args.reply_2.now) run (sym c.have_room.ensures ∙ c.if-not-have_room.false)
    ∙ sym (ap exchange (read_part run c.read_of-n.result c.read_of-n.ensures)) ∙ sym (ap (exchange_at read) c.command_start.ensures))
    c.judge_at.ensures
