-- `relay::answers::on_write` meets its contract, by the write that is remembered. Assumes nothing.
use mathlib.Core.Path.{sym, ◌∙◌}
use Rattle.relay.proofs.AnswerCases.{write_first, copy_running, other_running, copy_finished, other_finished}
use Rattle.relay.proofs.answers.on_write.Goals as goal

pub returns-then-copy : goal.returns-then-copy
returns-then-copy c = let a = c.args in copy_running a.register a.value a.write c.in-Running.running c.in-Running.new c.in-Running.is (sym c.copy.ensures ∙ c.if-copy.true) c.special.ensures

pub returns-then-copy-2 : goal.returns-then-copy-2
returns-then-copy-2 c = let a = c.args in copy_finished a.register a.value a.write c.in-Finished.finished c.in-Finished.done c.in-Finished.is (sym c.copy-in-Finished.ensures ∙ c.if-copy-2.true) c.special-then-copy-2.ensures

pub returns-in-Idle : goal.returns-in-Idle
returns-in-Idle c = let a = c.args in c.taken.ensures ∙ write_first a.register a.value a.write c.in-Idle.is

pub returns-else-copy : goal.returns-else-copy
returns-else-copy c = let a = c.args in other_running a.register a.value a.write c.in-Running.running c.in-Running.new c.in-Running.is (sym c.copy.ensures ∙ c.if-copy.false) c.special-in-Running.ensures

pub returns-else-copy-2 : goal.returns-else-copy-2
returns-else-copy-2 c = let a = c.args in c.taken-in-Finished.ensures ∙ other_finished a.register a.value a.write c.in-Finished.finished c.in-Finished.done c.in-Finished.is (sym c.copy-in-Finished.ensures ∙ c.if-copy-2.false)
