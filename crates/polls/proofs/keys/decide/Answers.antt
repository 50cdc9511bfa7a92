-- `polls::keys::decide` meets its contract: the first of the local array are the devices' keys. Assumes nothing.
use mathlib.Core.Path.{ap, ◌∙◌}
use lib.ListN.{length, take}
use Rattle.arbitration.specs.Contest.{decided}
use Rattle.lists.proofs.Filling.{start_of}
use Rattle.polls.specs.Poll.{poll_keys, poll_windows}
use Rattle.polls.specs.Inner.{queues_of}
use Rattle.polls.proofs.PollKeys.{keys_length}
use Rattle.polls.proofs.keys.decide.Goals as goal

pub returns : goal.returns
returns c =
    let a = c.args in
    let q = queues_of a.counts.now a.slots.now in
    let size = keys_length a.request a.ids.now q in
    c.contest.ensures ∙ ap (decided poll_windows) (ap (take (length a.ids.now)) c.put_keys.ensures ∙ start_of (poll_keys a.request a.ids.now q) _ (length a.ids.now) size)
