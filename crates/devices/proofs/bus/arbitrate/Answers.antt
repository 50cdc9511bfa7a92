-- `devices::bus::arbitrate` meets its contract: the first of the local array are the devices' keys. Assumes nothing.
use mathlib.Core.Path.{sym, ap, ◌∙◌}
use lib.ListN.{length, take}
use Rattle.arbitration.specs.Contest.{decided}
use Rattle.turns.specs.Request.{keys_of, windows}
use Rattle.lists.proofs.Filling.{start_of}
use Rattle.turns.proofs.Keys.{keys_length}
use Rattle.devices.proofs.bus.arbitrate.Goals as goal

pub slice_bounds-contest-end : goal.slice_bounds-contest-end
slice_bounds-contest-end c = let serials = c.args.serials.now in
    let size = keys_length serials c.args.marks.now c.requires.0 in
    sym (ap length (ap (take (length serials)) c.put_keys.ensures ∙ start_of (keys_of serials c.args.marks.now) _ (length serials) size) ∙ size)

pub returns : goal.returns
returns c = let serials = c.args.serials.now in
    let size = keys_length serials c.args.marks.now c.requires.0 in
    c.contest.ensures ∙ ap (decided windows) (ap (take (length serials)) c.put_keys.ensures ∙ start_of (keys_of serials c.args.marks.now) _ (length serials) size)
