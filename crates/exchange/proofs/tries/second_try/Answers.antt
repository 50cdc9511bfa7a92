-- `exchange::tries::second_try` meets its contract: each arm is what the second attempt asks for.
-- Assumes nothing.
use Rattle.std.specs.Prelude.{Result, Err}
use mathlib.Core.Path.{refl, sym, ap, ◌∙◌, subst}
use mathlib.Core.Bool.{true, false}
use Prim.Native.Nat.{ℕ, ◌-◌}
use native.Mathlib.Omega.{arith}
use borrow.Author.Tests.{not-true, not-false}
use Rattle.refusal.specs.Number.{at_place}
use Rattle.refusal.specs.declared.Refusal.{Refusal}
use Rattle.refusal.proofs.Exit.{exits}
use Rattle.escapes.specs.Logical.{logicals_at}
use Rattle.checkbyte.proofs.CheckByte.{Bytes}
use Rattle.attempts.proofs.AttemptRead.{taken_read, attempt_told, ended_told, nack_told}
use Rattle.exchange.specs.Exchange.{neither, on_second}
use Rattle.exchange.specs.Inner.{tries_of, TriesReady}
use Rattle.exchange.specs.declared.tries.Tries.{Tries as TriesStruct}
use Rattle.exchange.proofs.Attempts.{twice_not_once}
use Rattle.exchange.proofs.tries.second_try.Goals as goal

pub returns-in_err-ended : goal.returns-in_err-ended
returns-in_err-ended c =
    let run = c.args.run.now in
    let at = c.args.at in
    let command = c.args.command in
    let a = c.attempt_at-a.result in
    let why = c.in_err-ended.field-0.0 in
    let each : Bytes run = λ (i : ℕ). omega (arith, c.type_inv.run i) in
    let is = attempt_told c.requires command run at each a c.attempt_at-a.ensures.at_value (Err why) c.in_err-ended.was in
    let exit = exits c.from_residual.result why c.from_residual.ensures.1 in
    record {
      tries_value = λ start. ap (λ (x : Result TriesStruct Refusal). tries_of x run start) exit ∙ sym (ap (on_second command (logicals_at run c.args.len start)) is);
      ready = λ start _. subst (TriesReady command run start) (sym exit) tt;
    }

pub overflow_sub-a : goal.overflow_sub-a
overflow_sub-a c =
    let run = c.args.run.now in
    let at = c.args.at in
    let command = c.args.command in
    let a = c.attempt_at-a.result in
    let each : Bytes run = λ (i : ℕ). omega (arith, c.type_inv.run i) in
    let behind = nack_told c.requires command run at each a c.attempt_at-a.ensures.at_value c.attempt_at-a.ensures.next_value c.in_ok-ended.ended c.in_ok-ended.was (not-true _ c.if-not-ended.true) in
    omega (arith, behind)

pub returns-then-not-ended : goal.returns-then-not-ended
returns-then-not-ended c =
    let run = c.args.run.now in
    let at = c.args.at in
    let command = c.args.command in
    let a = c.attempt_at-a.result in
    let each : Bytes run = λ (i : ℕ). omega (arith, c.type_inv.run i) in
    let is = ended_told c.requires command run at each a c.attempt_at-a.ensures.at_value c.in_ok-ended.ended c.in_ok-ended.was false (not-true _ c.if-not-ended.true) in
    record {
      tries_value = λ start.
          ap (λ (x : Result TriesStruct Refusal). tries_of x run start) c.refused.ensures
          ∙ ap (λ (k : ℕ). neither (at_place k (a.next - 1))) c.nacked_twice.ensures
          ∙ sym (ap (on_second command (logicals_at run c.args.len start)) is);
      ready = λ start _. subst (TriesReady command run start) (sym c.refused.ensures) tt;
    }

pub returns : goal.returns
returns c =
    let run = c.args.run.now in
    let at = c.args.at in
    let command = c.args.command in
    let a = c.attempt_at-a.result in
    let ended = c.in_ok-ended.ended in
    let each : Bytes run = λ (i : ℕ). omega (arith, c.type_inv.run i) in
    let is = ended_told c.requires command run at each a c.attempt_at-a.ensures.at_value ended c.in_ok-ended.was true (not-false _ c.if-not-ended.false) in
    record {
      tries_value = λ start. sym (ap (on_second command (logicals_at run c.args.len start)) is);
      ready = λ start ready.
          record {
            first = ready;
            second = c.attempt_at-a.ensures.ready ended c.in_ok-ended.was;
            second_read = λ _. taken_read command run at (logicals_at run ended.len at) a.next is;
            alone = λ told. twice_not_once refl told;
          };
    }
