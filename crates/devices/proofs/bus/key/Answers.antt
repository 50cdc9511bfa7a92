-- `devices::bus::key` meets its contract. Assumes nothing.
use mathlib.Core.Path.{sym}
use Rattle.turns.proofs.Keys.{key_unscanned, key_scanned}
use Rattle.devices.proofs.bus.key.Goals as goal

pub returns-then-mark-eq0 : goal.returns-then-mark-eq0
returns-then-mark-eq0 c = sym (key_unscanned c.args.mark c.args.serial c.if-mark-eq0.true)

pub returns : goal.returns
returns c = sym (key_scanned c.args.mark c.args.serial c.if-mark-eq0.false)
