-- `devices::trace::request_after` meets its contract. Assumes nothing.
use mathlib.Core.Path.{sym, ap}
use mathlib.Core.Bool.{Bool}
use borrow.Author.Tests.{eq-eqb, ne_eqb}
use Rattle.lists.specs.Choice.{pick}
use Rattle.requests.specs.declared.Request.TheVariants.{Start, Continue}
use Rattle.devices.proofs.trace.request_after.Goals as goal

pub returns-then-sent-eq0 : goal.returns-then-sent-eq0
returns-then-sent-eq0 c = ap (λ (b : Bool). pick b Start Continue) (sym (eq-eqb c.args.sent 0 c.if-sent-eq0.true))

pub returns : goal.returns
returns c = ap (λ (b : Bool). pick b Start Continue) (sym (ne_eqb c.args.sent 0 c.if-sent-eq0.false))
