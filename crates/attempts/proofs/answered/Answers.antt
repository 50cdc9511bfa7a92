-- `attempts::answered` meets its contract: each arm is what the acknowledge byte asks for, and that byte decides.
-- Assumes nothing.
use Rattle.std.specs.Prelude.{Result, Ok}
use mathlib.Core.Path.{◌≡◌, sym, ap, ◌∙◌}
use Prim.Native.Nat.{◌+◌, ◌-◌}
use native.Mathlib.Omega.{arith}
use Rattle.refusal.proofs.Exit.{exits}
use Rattle.refusal.specs.declared.Refusal.{Refusal}
use Rattle.escapes.specs.Logical.{logicals_at}
use Rattle.attempts.specs.Attempt.{on_acknowledge, nacked, settled_by}
use Rattle.attempts.specs.View.{ended_as}
use Rattle.attempts.specs.Inner.{acknowledge_of, right_by}
use Rattle.attempts.specs.declared.Ended.{Ended as EndedStruct}
use Rattle.attempts.proofs.answered.Goals as goal

pub returns-in_err-byte : goal.returns-in_err-byte
returns-in_err-byte c =
    let run = c.args.run.now in
    let start = c.args.start in
    let t = c.args.t in
    let why = c.in_err-byte.field-0.0 in
    let exit = exits c.from_residual.result why c.from_residual.ensures.1 in
    record {
      start_value = ap (λ (x : Result EndedStruct Refusal). ended_as x (t.next + 1) run start) exit
          ∙ ap (λ a. settled_by (right_by c.args.tables.now run start) (on_acknowledge (logicals_at run t.len start) t.last a)) c.in_err-byte.ensures;
      length_value = λ ended is. cc;
    }

pub returns-in-Positive : goal.returns-in-Positive
returns-in-Positive c =
    let run = c.args.run.now in
    let start = c.args.start in
    let t = c.args.t in
    let is = sym c.in_ok-byte.ensures ∙ ap (λ b. acknowledge_of (Ok b) t.next) c.in-Positive.is in
    record {
      start_value = c.settle.ensures.start_value (t.next + 1)
          ∙ sym (ap (λ a. settled_by (right_by c.args.tables.now run start) (on_acknowledge (logicals_at run t.len start) t.last a)) is);
      length_value = c.settle.ensures.length_value;
    }

pub returns-in-Negative : goal.returns-in-Negative
returns-in-Negative c =
    let run = c.args.run.now in
    let start = c.args.start in
    let t = c.args.t in
    let s = logicals_at run t.len start in
    let is = sym c.in_ok-byte.ensures ∙ ap (λ b. acknowledge_of (Ok b) t.next) c.in-Negative.is in
    let back : t.next + 1 - 1 ≡ t.next = omega arith in
    record {
      start_value = ap (nacked s) back
          ∙ sym (ap (λ a. settled_by (right_by c.args.tables.now run start) (on_acknowledge s t.last a)) is);
      length_value = λ ended is. cc;
    }
