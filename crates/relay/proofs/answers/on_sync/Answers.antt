-- `relay::answers::on_sync` meets its contract: by whether a write runs. Assumes nothing.
use Rattle.relay.proofs.AnswerCases.{sync_running, sync_idle}
use Rattle.relay.proofs.answers.on_sync.Goals as goal

pub returns-in-Running : goal.returns-in-Running
returns-in-Running c = sync_running c.args.write c.in-Running.field-0 c.in-Running.field-1 c.in-Running.is c.special.ensures

pub returns-in_default : goal.returns-in_default
returns-in_default c =
    sync_idle c.args.write c.in_default.not-Running c.special-in_default.ensures
