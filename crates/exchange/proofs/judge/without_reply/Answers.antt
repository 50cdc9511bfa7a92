-- `exchange::judge::without_reply` meets its contract: no reply has no bytes.
-- Assumes nothing.
use Rattle.std.specs.Prelude.{Result, Ok, Err}
use mathlib.Core.Path.{sym, ap, ◌∙◌, subst}
use mathlib.Core.List.{[]}
use mathlib.Core.Bool.{false}
use Rattle.refusal.specs.declared.Refusal.{Refusal}
use Rattle.refusal.proofs.Exit.{exits}
use Rattle.escapes.specs.Logical.{logicals_at}
use Rattle.exchange.specs.Exchange.{syn_at}
use Rattle.exchange.specs.Inner.{replies_of, RepliesReady}
use Rattle.exchange.specs.declared.judge.Replies.{Replies as RepliesStruct}
use Rattle.exchange.proofs.OutcomeBySyn.{outcome_at}
use Rattle.attempts.proofs.FromRun.{ready_none}
use Rattle.exchange.proofs.judge.without_reply.Goals as goal

pub returns-in_err-accepted : goal.returns-in_err-accepted
returns-in_err-accepted c =
    let run = c.args.run.now in
    let at = c.args.at in
    let why = c.in_err-accepted.field-0.0 in
    let exit = exits c.from_residual.result why c.from_residual.ensures.1 in
    record {
      outcome = λ command.
          ap (λ (x : Result RepliesStruct Refusal). replies_of x run at command) exit
          ∙ outcome_at command [] [] c.args.kind c.args.commands 0 (syn_at run at) (Err why) c.in_err-accepted.ensures;
      ready = subst (RepliesReady run at) (sym exit) tt;
    }

pub returns : goal.returns
unfolding logicals_at
returns c =
    record {
      outcome = λ command. outcome_at command [] [] c.args.kind c.args.commands 0 (syn_at c.args.run.now c.args.at) (Ok c.in_ok-accepted.accepted) c.in_ok-accepted.ensures;
      ready = (ready_none false _ _, ready_none false _ _);
    }
