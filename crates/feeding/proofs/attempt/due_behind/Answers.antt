-- `feeding::attempt::due_behind` meets its contract: by the destination's kind.
-- Assumes nothing.
use mathlib.Core.Path.{sym, ap, ◌∙◌}
use Rattle.listening.specs.Listening.{due_behind}
use Rattle.feeding.proofs.attempt.due_behind.Goals as goal

pub returns-in-Broadcast : goal.returns-in-Broadcast
returns-in-Broadcast c = sym (ap due_behind (sym c.kind-k.ensures ∙ c.in-Broadcast.is))

pub returns-in-InitiatorInitiator : goal.returns-in-InitiatorInitiator
returns-in-InitiatorInitiator c = sym (ap due_behind (sym c.kind-k.ensures ∙ c.in-InitiatorInitiator.is))

pub returns-in-InitiatorTarget : goal.returns-in-InitiatorTarget
returns-in-InitiatorTarget c = sym (ap due_behind (sym c.kind-k.ensures ∙ c.in-InitiatorTarget.is))
