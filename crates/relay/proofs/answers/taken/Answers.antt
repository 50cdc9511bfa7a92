-- `relay::answers::taken` meets its contract. Assumes nothing.
use Rattle.std.specs.Prelude.{Option}
use Rattle.railbus.specs.declared.Message.{Message}
use mathlib.Core.Path.{ap}
use Rattle.relay.specs.Answers.{responding}
use Rattle.relay.specs.declared.Remembered.TheVariants.{Running}
use Rattle.relay.proofs.answers.taken.Goals as goal

pub returns : goal.returns
returns c = ap (λ (s : Option Message). responding s (Running c.args.register c.args.value)) c.special.ensures
