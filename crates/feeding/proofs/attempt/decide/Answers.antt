-- `feeding::attempt::decide` meets its contract: each arm is what the attempt asks for.
-- Assumes nothing.
use Rattle.std.specs.Prelude.{Err}
use mathlib.Core.Bool.{true, false}
use mathlib.Core.Path.{sym, ap, ◌∙◌, subst}
use Prim.Native.Nat.{◌≤◌}
use native.Mathlib.Omega.{arith}
use lib.ListN.{length}
use Rattle.checkbyte.proofs.CheckByte.{Bytes}
use Rattle.attempts.specs.Attempt.{failed}
use Rattle.attempts.proofs.AttemptRead.{attempt_told, ended_told}
use Rattle.attempts.proofs.LongerRun.{OtherAttempt}
use Rattle.listening.specs.declared.Listening.{Listening}
use Rattle.feeding.specs.Inner.{state_of, command_due}
use Rattle.feeding.proofs.RefusedWithin.{attempt_within}
use Rattle.feeding.proofs.Decided.{shut_ends}
use Rattle.feeding.proofs.Attempted.{looks_at_one, decided_within_lem, undecided_short, tries_is}
use Rattle.feeding.proofs.Idle.{none_thrown, unless_none}
use Rattle.feeding.proofs.attempt.decide.Goals as goal

pub on_taken-requires : goal.on_taken-requires
on_taken-requires c =
    let m = c.args.m in
    let bytes = c.args.bytes.now in
    let a = c.attempt_at-a.result in
    let each : Bytes bytes = λ i. omega (arith, c.type_inv.bytes i) in
    let is = sym (ended_told c.requires.0 (command_due m) bytes 0 each a c.attempt_at-a.ensures.at_value c.in-Ok.ended c.in-Ok.is true c.if-ended.true) in
    let near : a.next ≤ length bytes = omega (arith, c.attempt_at-a.ensures.next_value, decided_within_lem (command_due m) bytes (subst OtherAttempt is tt)) in
    (omega (arith, c.max-n.ensures), c.attempt_at-a.ensures.ready c.in-Ok.ended c.in-Ok.is)

pub overflow_sub-a : goal.overflow_sub-a
overflow_sub-a c = omega (arith, c.attempt_at-a.ensures.next_value, looks_at_one (command_due c.args.m) c.args.bytes.now (omega arith))

pub on_nacked-requires : goal.on_nacked-requires
on_nacked-requires c =
    let m = c.args.m in
    let bytes = c.args.bytes.now in
    let a = c.attempt_at-a.result in
    let each : Bytes bytes = λ i. omega (arith, c.type_inv.bytes i) in
    let is = sym (ended_told c.requires.0 (command_due m) bytes 0 each a c.attempt_at-a.ensures.at_value c.in-Ok.ended c.in-Ok.is false c.if-ended.false) in
    let near : a.next ≤ length bytes = omega (arith, c.attempt_at-a.ensures.next_value, decided_within_lem (command_due m) bytes (subst OtherAttempt is tt)) in
    (omega (arith, c.max-n.ensures), omega (arith, c.max-n.ensures), c.attempt_at-a.ensures.ready c.in-Ok.ended c.in-Ok.is)

pub on_failed-requires : goal.on_failed-requires
on_failed-requires c =
    let m = c.args.m in
    let bytes = c.args.bytes.now in
    let a = c.attempt_at-a.result in
    let each : Bytes bytes = λ i. omega (arith, c.type_inv.bytes i) in
    let is = sym (attempt_told c.requires.0 (command_due m) bytes 0 each a c.attempt_at-a.ensures.at_value (Err c.in-Err.why) c.in-Err.is) in (
      omega arith,
      attempt_within (command_due m) bytes 0 (omega arith) c.in-Err.why (sym is),
      undecided_short (command_due m) bytes c.in-Err.why (sym is),
      λ other. omega (arith, c.max-n.ensures, c.attempt_at-a.ensures.next_value, decided_within_lem (command_due m) bytes (subst OtherAttempt is other)),
      omega arith,
      λ ended. none_thrown m.due bytes c.args.held (failed c.in-Err.why) is (λ early. let f : ⊥ = omega (arith, ended, early) in f),
    )

pub returns-then-ended : goal.returns-then-ended
returns-then-ended c =
    let m = c.args.m in
    let bytes = c.args.bytes.now in
    let a = c.attempt_at-a.result in
    let each : Bytes bytes = λ i. omega (arith, c.type_inv.bytes i) in
    let is = sym (ended_told c.requires.0 (command_due m) bytes 0 each a c.attempt_at-a.ensures.at_value c.in-Ok.ended c.in-Ok.is true c.if-ended.true) in
    let kept = c.args.kept.now in
    record { kept_after = ap (λ (x : Listening). record { state = x; used = c.max-n.result }) c.on_taken.ensures ∙ unless_none (state_of m kept) bytes c.args.held _ (none_thrown m.due bytes c.args.held _ is tt) ∙ tries_is (state_of m kept) bytes c.args.held c.max-n.result a.next _ c.max-n.ensures c.attempt_at-a.ensures.next_value is; ends = λ opened. absurd (shut_ends opened) }

pub returns-else-ended : goal.returns-else-ended
returns-else-ended c =
    let m = c.args.m in
    let bytes = c.args.bytes.now in
    let a = c.attempt_at-a.result in
    let each : Bytes bytes = λ i. omega (arith, c.type_inv.bytes i) in
    let is = sym (ended_told c.requires.0 (command_due m) bytes 0 each a c.attempt_at-a.ensures.at_value c.in-Ok.ended c.in-Ok.is false c.if-ended.false) in
    let kept = c.args.kept.now in
    record { kept_after = ap (λ (x : Listening). record { state = x; used = c.max-n.result }) c.on_nacked.ensures ∙ unless_none (state_of m kept) bytes c.args.held _ (none_thrown m.due bytes c.args.held _ is tt) ∙ tries_is (state_of m kept) bytes c.args.held c.max-n.result a.next _ c.max-n.ensures c.attempt_at-a.ensures.next_value is; ends = λ opened. absurd (shut_ends opened) }

pub returns-in-Err : goal.returns-in-Err
returns-in-Err c =
    let m = c.args.m in
    let bytes = c.args.bytes.now in
    let a = c.attempt_at-a.result in
    let each : Bytes bytes = λ i. omega (arith, c.type_inv.bytes i) in
    let is = sym (attempt_told c.requires.0 (command_due m) bytes 0 each a c.attempt_at-a.ensures.at_value (Err c.in-Err.why) c.in-Err.is) in
    let kept = c.args.kept.now in
    record { kept_after = c.on_failed.ensures.0 kept ∙ tries_is (state_of m kept) bytes c.args.held c.max-n.result a.next _ c.max-n.ensures c.attempt_at-a.ensures.next_value is; ends = c.on_failed.ensures.1 }
