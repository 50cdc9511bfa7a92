-- `feeding::attempt::on_failed` meets its contract: by the end of the bytes, by what is thrown away, or by neither.
-- Assumes nothing.
use mathlib.Core.Path.{◌≡◌, refl, sym, ◌∙◌}
use native.Mathlib.Omega.{arith}
use Rattle.refusal.specs.Number.{run_ended}
use Rattle.feeding.proofs.Idle.{thrown_most, unless_none, unless_some}
use Rattle.feeding.proofs.Decided.{failed_open, failed_known, shut_ends}
use Rattle.feeding.specs.Inner.{state_of}
use Rattle.feeding.proofs.attempt.on_failed.Goals as goal

pub returns-then-why-eq-RUN_ENDED : goal.returns-then-why-eq-RUN_ENDED
returns-then-why-eq-RUN_ENDED c =
    let m = c.args.m in
    let bytes = c.args.bytes.now in
    let ended : c.args.why.number ≡ run_ended = omega arith in (
      λ kept. failed_open m bytes c.args.n c.args.why kept ended ∙ unless_none (state_of m kept) bytes c.args.held _ (c.requires.5 ended),
      λ _. (refl, c.requires.2 ended),
    )

pub begin_anew-requires : goal.begin_anew-requires
begin_anew-requires c = omega (arith, c.thrown_away-thrown.ensures, thrown_most c.args.m.due c.args.bytes.now c.args.held c.requires.4)

pub returns-then-thrown-ne0 : goal.returns-then-thrown-ne0
returns-then-thrown-ne0 c =
    let m = c.args.m in
    let bytes = c.args.bytes.now in (
      λ kept. c.begin_anew.ensures.0 kept bytes ∙ unless_some (state_of m kept) bytes c.args.held _ c.thrown_away-thrown.result c.thrown_away-thrown.ensures c.if-thrown-ne0.true,
      λ opened. absurd (shut_ends (sym c.begin_anew.ensures.1 ∙ opened)),
    )

pub overflow_add-m : goal.overflow_add-m
overflow_add-m c =
    let known : c.args.why.number ≡ run_ended → ⊥ = λ e. omega arith in
    omega (arith, c.requires.3 known)

pub returns : goal.returns
returns c =
    let m = c.args.m in
    let bytes = c.args.bytes.now in
    let known : c.args.why.number ≡ run_ended → ⊥ = λ e. omega arith in (
      λ kept. failed_known m bytes c.args.n c.args.why kept known c.answers.result c.answers.ensures ∙ unless_none (state_of m kept) bytes c.args.held _ (sym c.thrown_away-thrown.ensures ∙ c.if-thrown-ne0.false),
      λ opened. absurd (shut_ends opened),
    )
