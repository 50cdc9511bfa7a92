-- `exchange::tries::tries_at` meets its contract: each arm is what the first attempt asks for.
-- Assumes nothing.
use Rattle.std.specs.Prelude.{Result, Err}
use mathlib.Core.Path.{refl, sym, ap, ◌∙◌, subst}
use mathlib.Core.Bool.{true, false}
use Prim.Native.Nat.{ℕ}
use native.Mathlib.Omega.{arith}
use borrow.Author.Tests.{not-true, not-false}
use Rattle.refusal.specs.declared.Refusal.{Refusal}
use Rattle.refusal.proofs.Exit.{exits}
use Rattle.escapes.specs.Logical.{logicals_at}
use Rattle.checkbyte.proofs.CheckByte.{Bytes}
use Rattle.attempts.specs.Attempt.{attempt_at}
use Rattle.attempts.proofs.FromRun.{ready_none}
use Rattle.attempts.proofs.AttemptRead.{attempt_told, ended_told, nack_told}
use Rattle.exchange.specs.Exchange.{on_second, on_first, tries_at}
use Rattle.exchange.specs.Inner.{tries_of, TriesReady}
use Rattle.exchange.specs.declared.tries.Tries.{Tries as TriesStruct}
use Rattle.exchange.proofs.Attempts.{once_not_twice}
use Rattle.exchange.proofs.tries.tries_at.Goals as goal

pub returns-in_err-ended : goal.returns-in_err-ended
unfolding tries_at
returns-in_err-ended c =
    let run = c.args.run.now in
    let at = c.args.at in
    let command = c.args.command in
    let a = c.attempt_at-a.result in
    let why = c.in_err-ended.field-0.0 in
    let each : Bytes run = λ (i : ℕ). omega (arith, c.type_inv.run i) in
    let is = attempt_told c.requires command run at each a c.attempt_at-a.ensures.at_value (Err why) c.in_err-ended.was in
    let exit = exits c.from_residual.result why c.from_residual.ensures.1 in
    record {
      at_value = ap (λ (x : Result TriesStruct Refusal). tries_of x run at) exit ∙ sym (ap (on_first command run) is);
      ready = subst (TriesReady command run at) (sym exit) tt;
    }

pub returns-then-not-ended : goal.returns-then-not-ended
unfolding tries_at
returns-then-not-ended c =
    let run = c.args.run.now in
    let at = c.args.at in
    let command = c.args.command in
    let a = c.attempt_at-a.result in
    let ended = c.in_ok-ended.ended in
    let s = logicals_at run ended.len at in
    let each : Bytes run = λ (i : ℕ). omega (arith, c.type_inv.run i) in
    let nacked = not-true _ c.if-not-ended.true in
    let is = ended_told c.requires command run at each a c.attempt_at-a.ensures.at_value ended c.in_ok-ended.was false nacked in
    let behind = nack_told c.requires command run at each a c.attempt_at-a.ensures.at_value c.attempt_at-a.ensures.next_value ended c.in_ok-ended.was nacked in
    record {
      at_value = c.second_try.ensures.tries_value at ∙ ap (λ (k : ℕ). on_second command s (attempt_at command run k)) behind ∙ sym (ap (on_first command run) is);
      ready = c.second_try.ensures.ready at (c.attempt_at-a.ensures.ready ended c.in_ok-ended.was);
    }

pub returns : goal.returns
unfolding tries_at
returns c =
    let run = c.args.run.now in
    let at = c.args.at in
    let command = c.args.command in
    let a = c.attempt_at-a.result in
    let ended = c.in_ok-ended.ended in
    let each : Bytes run = λ (i : ℕ). omega (arith, c.type_inv.run i) in
    let is = ended_told c.requires command run at each a c.attempt_at-a.ensures.at_value ended c.in_ok-ended.was true (not-false _ c.if-not-ended.false) in
    record {
      at_value = sym (ap (on_first command run) is);
      ready =
          record {
            first = c.attempt_at-a.ensures.ready ended c.in_ok-ended.was;
            second = ready_none command run 0;
            second_read = λ told. once_not_twice refl told;
            alone = λ _. refl;
          };
    }
