-- `feeding::attempt::turn` meets its contract: by what is due.
-- Assumes nothing.
use mathlib.Core.Path.{sym, ap, ◌∙◌}
use mathlib.Core.Bool.{true, false}
use borrow.Author.Tests.{lt-ltb, le-ltb}
use Rattle.listening.specs.declared.Listening.{Listening}
use Rattle.listening.specs.Listening.{syn_due}
use Rattle.feeding.specs.Inner.{state_of}
use Rattle.feeding.proofs.Decided.{shut_ends}
use Rattle.feeding.proofs.BehindHand.{by_due}
use Rattle.feeding.proofs.attempt.turn.Goals as goal

pub returns-then-m-ge-SYN_DUE : goal.returns-then-m-ge-SYN_DUE
returns-then-m-ge-SYN_DUE c =
    let kept = c.args.kept.now in
    let s = state_of c.args.m kept in
    record {
      kept_after = ap (λ (x : Listening). record { state = x; used = 1 }) (c.on_syn.ensures kept)
          ∙ sym (by_due s c.args.bytes.now c.args.held false (le-ltb c.args.m.due syn_due c.if-m-ge-SYN_DUE.true));
      ends = λ opened. absurd (shut_ends opened);
    }

pub returns : goal.returns
returns c =
    let s = state_of c.args.m c.args.kept.now in
    record { kept_after = c.decide.ensures.kept_after ∙ sym (by_due s c.args.bytes.now c.args.held true (lt-ltb c.args.m.due syn_due c.if-m-ge-SYN_DUE.false)); ends = c.decide.ensures.ends }
