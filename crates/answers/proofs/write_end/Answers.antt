-- `answers::write_end` meets its contract. Assumes nothing.
use Rattle.framing.specs.Framing.{frame}
use Rattle.answers.specs.Layout.{end_frame}
use Rattle.answers.specs.Writing.{write_end}
use Rattle.answers.proofs.write_end.Goals as goal

pub returns : goal.returns
unfolding frame end_frame write_end
returns c = c.write_closed.ensures
