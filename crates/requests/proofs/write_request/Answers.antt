-- `requests::write_request` meets its contract. Assumes nothing.
use Rattle.framing.specs.Framing.{frame}
use Rattle.requests.specs.Layout.{request_frame}
use Rattle.requests.specs.Writing.{write_request}
use Rattle.requests.proofs.write_request.Goals as goal

pub returns : goal.returns
unfolding frame request_frame write_request
returns c = simp (← c.subcommand_of.ensures) c.write_closed.ensures
