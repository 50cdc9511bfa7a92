-- `feeding::attempt::on_syn` meets its contract: by the byte.
-- Assumes nothing.
use Rattle.feeding.proofs.Decided.{syn_ends, syn_missed}
use Rattle.feeding.proofs.attempt.on_syn.Goals as goal

pub returns-then-byte-eq-SYN : goal.returns-then-byte-eq-SYN
returns-then-byte-eq-SYN c = λ kept. syn_ends c.args.m c.args.byte c.answers.result kept c.if-byte-eq-SYN.true c.answers.ensures

pub returns : goal.returns
returns c = λ kept. syn_missed c.args.m c.args.byte c.answers-2.result kept c.if-byte-eq-SYN.false c.answers-2.ensures
