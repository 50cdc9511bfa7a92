-- `relay::answers::on_message` meets its contract, message by message. Assumes nothing.
use mathlib.Core.Path.{◌∙◌}
use Rattle.railbus.specs.declared.Short.TheVariants.{Sync, NotAcknowledge}
use Rattle.relay.proofs.AnswerCases.{bare_asked, read_asked, write_asked, answer_heard}
use Rattle.relay.proofs.answers.on_message.Goals as goal

pub returns-in-ReadRequest : goal.returns-in-ReadRequest
returns-in-ReadRequest c = let a = c.args in c.behind_access.ensures
    ∙ read_asked a.access a.value a.register a.message a.write c.either.result c.in-Bare.short c.in-Bare.is c.in-ReadRequest.is c.either.ensures

pub returns-in-Sync : goal.returns-in-Sync
returns-in-Sync c = let a = c.args in c.on_sync.ensures ∙ bare_asked a.access a.value a.register a.message a.write c.in-Bare.short Sync c.in-Bare.is c.in-Sync.is

pub returns-in-NotAcknowledge : goal.returns-in-NotAcknowledge
returns-in-NotAcknowledge c = let a = c.args in bare_asked a.access a.value a.register a.message a.write c.in-Bare.short NotAcknowledge c.in-Bare.is c.in-NotAcknowledge.is

pub returns-in-WriteRequest : goal.returns-in-WriteRequest
returns-in-WriteRequest c = let a = c.args in c.behind_access-in-WriteRequest.ensures
    ∙ write_asked a.access a.value a.register a.message a.write c.either-in-WriteRequest.result c.in-With.long c.in-With.new c.on_write-response.result c.in-With.is c.in-WriteRequest.is c.either-in-WriteRequest.ensures c.on_write-response.ensures

pub returns-in_default : goal.returns-in_default
returns-in_default c = let a = c.args in answer_heard a.access a.value a.register a.message a.write c.in-With.long c.in-With.new c.in-With.is c.in_default.not-WriteRequest
