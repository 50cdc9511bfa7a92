-- `eventrequests::write_event_request` meets its contract. Assumes nothing.
use Rattle.framing.specs.Framing.{frame}
use Rattle.eventrequests.specs.Layout.{event_request_bytes, event_request_frame}
use Rattle.eventrequests.specs.Writing.{write_event_request}
use Rattle.eventrequests.proofs.write_event_request.Goals as goal

pub returns : goal.returns
unfolding frame event_request_bytes event_request_frame write_event_request
returns c = c.write_closed.ensures
