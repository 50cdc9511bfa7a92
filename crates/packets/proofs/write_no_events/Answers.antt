-- `packets::write_no_events` meets its contract. Assumes nothing.
use Rattle.framing.specs.Framing.{frame}
use Rattle.packets.specs.Layout.{no_events_frame}
use Rattle.packets.specs.Writing.{write_no_events}
use Rattle.packets.proofs.write_no_events.Goals as goal

pub returns : goal.returns
unfolding frame no_events_frame write_no_events
returns c = c.write_closed.ensures
