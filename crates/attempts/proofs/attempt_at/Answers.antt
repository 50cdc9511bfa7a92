-- `attempts::attempt_at` meets its contract: a telegram that was read is settled at once, or by its acknowledge byte.
-- Assumes nothing.
use mathlib.Core.Path.{◌≡◌, sym, ap, ◌∙◌, subst}
use mathlib.Core.Bool.{true, false}
use Prim.Native.Nat.{ℕ}
use native.Mathlib.Omega.{arith}
use lib.ListN.{length}
use lib.Seq.{take-length}
use Rattle.attempts.specs.View.{Ready}
use Rattle.attempts.proofs.FromRun.{all_of_it, ready_read, read_from, second_within, attempt_is, looked_is, attempt_refused, looked_refused, place_within}
use Rattle.attempts.proofs.attempt_at.Goals as goal

pub slice_bounds-extent_at-end : goal.slice_bounds-extent_at-end
slice_bounds-extent_at-end c = sym (ap length (take-length c.args.run.now))

pub is_unanswered-requires : goal.is_unanswered-requires
is_unanswered-requires c =
    let args = c.args in
    second_within args.command args.run.now args.at c.in-Ok.t (all_of_it args.command args.run.now args.at c.in-Ok.ensures)

pub settle-requires : goal.settle-requires
settle-requires c =
    let args = c.args in
    read_from args.command args.run.now args.at c.in-Ok.t (all_of_it args.command args.run.now args.at c.in-Ok.ensures)

pub returns-then-is_unanswered : goal.returns-then-is_unanswered
returns-then-is_unanswered c =
    let run = c.args.run.now in
    let at = c.args.at in
    let command = c.args.command in
    let t = c.in-Ok.t in
    let told = all_of_it command run at c.in-Ok.ensures in
    let none = sym c.is_unanswered.ensures ∙ c.if-is_unanswered.true in
    record {
      at_value = c.settle.ensures.start_value t.next ∙ sym (attempt_is command run at t told true none c.args.tables.now);
      next_value = sym (looked_is command run at t told true none);
      ready = λ ended is. subst (Ready command run at) (sym (c.settle.ensures.length_value ended is)) (ready_read command run at t told);
    }

pub overflow_add-result : goal.overflow_add-result
overflow_add-result c =
    let args = c.args in
    let t = read_from args.command args.run.now args.at c.in-Ok.t (all_of_it args.command args.run.now args.at c.in-Ok.ensures) in
    omega (arith, t.behind)

pub answered-requires : goal.answered-requires
answered-requires c =
    let args = c.args in
    read_from args.command args.run.now args.at c.in-Ok.t (all_of_it args.command args.run.now args.at c.in-Ok.ensures)

pub returns-else-is_unanswered : goal.returns-else-is_unanswered
returns-else-is_unanswered c =
    let run = c.args.run.now in
    let at = c.args.at in
    let command = c.args.command in
    let t = c.in-Ok.t in
    let told = all_of_it command run at c.in-Ok.ensures in
    let some = sym c.is_unanswered.ensures ∙ c.if-is_unanswered.false in
    record {
      at_value = c.answered.ensures.start_value ∙ sym (attempt_is command run at t told false some c.args.tables.now);
      next_value = sym (looked_is command run at t told false some);
      ready = λ ended is. subst (Ready command run at) (sym (c.answered.ensures.length_value ended is)) (ready_read command run at t told);
    }

pub known_behind-requires : goal.known_behind-requires
known_behind-requires c =
    let args = c.args in
    place_within args.command args.run.now args.at c.in-Err.why (all_of_it args.command args.run.now args.at c.in-Err.ensures)

pub returns-in-Err : goal.returns-in-Err
returns-in-Err c =
    let run = c.args.run.now in
    let at = c.args.at in
    let command = c.args.command in
    let why = c.in-Err.why in
    let told = all_of_it command run at c.in-Err.ensures in
    record {
      at_value = sym (attempt_refused command run at why told c.args.tables.now);
      next_value = c.known_behind.ensures ∙ sym (looked_refused command run at why told);
      ready = λ ended is. let z : ◌≡◌ {A = ℕ} 0 1 = cc in let f : ⊥ = omega arith in absurd f;
    }
