-- `attempts::settle` meets its contract: the answer is picked by the check of the raw bytes.
-- Assumes nothing.
use Rattle.std.specs.Prelude.{Result}
use mathlib.Core.Path.{sym, ap, ◌∙◌}
use mathlib.Core.Bool.{true, false}
use Prim.Native.Nat.{ℕ}
use lib.Dec.{eqb}
use borrow.Author.Tests.{eq-eqb, ne_eqb}
use Rattle.refusal.specs.declared.Refusal.{Refusal}
use Rattle.attempts.specs.View.{ended_as}
use Rattle.attempts.specs.declared.Ended.{Ended as EndedStruct}
use Rattle.attempts.proofs.FromRun.{settled_by_lem}
use Rattle.attempts.proofs.settle.Goals as goal

pub returns-then-wire_check-t : goal.returns-then-wire_check-t
returns-then-wire_check-t c =
    let run = c.args.run.now in
    let start = c.args.start in
    let t = c.args.t in
    let told = sym (ap (λ (k : ℕ). eqb k t.value) c.wire_check.ensures) ∙ eq-eqb _ _ c.if-wire_check-t.true in
    record { start_value = λ next. sym (settled_by_lem c.args.tables.now run start t c.requires next true told); length_value = λ ended is. cc }

pub returns : goal.returns
returns c =
    let run = c.args.run.now in
    let start = c.args.start in
    let t = c.args.t in
    let told = sym (ap (λ (k : ℕ). eqb k t.value) c.wire_check.ensures) ∙ ne_eqb _ _ c.if-wire_check-t.false in
    record {
      start_value = λ next.
          ap (λ (x : Result EndedStruct Refusal). ended_as x next run start) c.refused.ensures
          ∙ sym (settled_by_lem c.args.tables.now run start t c.requires next false told);
      length_value = λ ended is. cc;
    }
