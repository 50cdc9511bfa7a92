-- `railcalls::moor_finish_railbus` meets its contract: what the device gives, as numbers.
-- Assumes nothing.
use Rattle.relay.specs.Calls.{finish_call}
use Rattle.railcalls.proofs.Shown.{relays_shown}
use Rattle.railcalls.proofs.moor_finish_railbus.Goals as goal

pub returns : goal.returns
returns c = relays_shown (finish_call c.args.address c.args.answer.now (record { registers = c.args.registers.now; access = c.args.access.now })) _ _ _ _ _ _ c.remembered_from_c-remembered.ensures c.relayed_for_c.ensures c.finish.ensures
