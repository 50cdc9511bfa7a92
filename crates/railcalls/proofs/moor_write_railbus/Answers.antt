-- `railcalls::moor_write_railbus` meets its contract: the packet is picked by its letter.
-- Assumes nothing.
use mathlib.Core.Path.{sym, ◌∙◌}
use lib.ListN.{length}
use Rattle.refusal.proofs.Writer.{wrote_shown}
use Rattle.boundary.specs.ForC.{written_for_c}
use Rattle.railcalls.proofs.Shown.{wrote_letter, wrote_none}
use Rattle.railcalls.proofs.moor_write_railbus.Goals as goal

pub returns-then-not-is_letter : goal.returns-then-not-is_letter
returns-then-not-is_letter c = wrote_none c.args.letter c.args.address c.args.reg c.args.carried (length c.args.out.now) _ c.args.out.now (sym c.is_letter.ensures ∙ c.if-not-is_letter.true) c.refused_for_c.ensures

pub returns : goal.returns
returns c = wrote_letter c.args.letter c.args.address c.args.reg c.args.carried (length c.args.out.now) _ _ _ _ (sym c.is_letter.ensures ∙ c.if-not-is_letter.false) c.message_for.ensures (wrote_shown written_for_c _ _ _ _ _ c.written_for_c.ensures c.write_packet.ensures)
