-- `polls::answer::respond` meets its contract: what the contest gives on the queues that confirmation left. Assumes nothing.
use mathlib.Core.Path.{ap, ◌∙◌}
use Rattle.table.specs.Table.{columns}
use Rattle.queues.specs.Queues.{queue_columns, valid_queues}
use Rattle.confirmation.specs.Confirmation.{confirmed}
use Rattle.confirmation.proofs.Kept.{confirmed_valid, left_queues}
use Rattle.polls.proofs.PollCases.{gives_poll}
use Rattle.polls.proofs.answer.respond.Goals as goal

pub contend-requires : goal.contend-requires
contend-requires c =
    let a = c.args in
    let t = columns a.serials.now a.addresses.now a.marks.now in
    let q = queue_columns a.flags.now a.lasts.now a.counts.now a.slots.now in
    let left = c.confirm.ensures in
    let flags = c.confirm.new.flags in
    let lasts = c.confirm.new.lasts in
    let counts = c.confirm.new.counts in
    let slots = c.confirm.new.slots in
    let is-after = left_queues (confirmed a.addresses.now a.request.confirmed a.request.flag q) flags lasts counts slots left in
    (ap (valid_queues t) is-after ∙ confirmed_valid t q a.request.confirmed a.request.flag c.requires.0, c.requires.1)

pub returns : goal.returns
returns c =
    let a = c.args in
    let t = columns a.serials.now a.addresses.now a.marks.now in
    let q = queue_columns a.flags.now a.lasts.now a.counts.now a.slots.now in
    let left = c.confirm.ensures in
    let flags = c.confirm.new.flags in
    let lasts = c.confirm.new.lasts in
    let counts = c.confirm.new.counts in
    let slots = c.confirm.new.slots in
    let is-after = left_queues (confirmed a.addresses.now a.request.confirmed a.request.flag q) flags lasts counts slots left in
    gives_poll a.request t q (queue_columns flags lasts counts slots) is-after a.answer.now c.contend.result c.contend.new.answer c.contend.new.lasts c.contend.ensures
