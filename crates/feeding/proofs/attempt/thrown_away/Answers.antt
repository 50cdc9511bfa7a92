-- `feeding::attempt::thrown_away` meets its contract: only before the first command.
-- Assumes nothing.
use mathlib.Core.Path.{◌≡◌, sym, ap, ◌∙◌}
use mathlib.Core.Bool.{Bool}
use Prim.Native.Nat.{◌-◌}
use native.Mathlib.Omega.{arith}
use lib.ListN.{length, take, drop, length-drop}
use lib.Seq.{length-take-le, take_all}
use borrow.Author.Tests.{eq-eqb, ne_eqb}
use Rattle.lists.specs.Choice.{pick}
use Rattle.beginning.specs.Beginning.{passed_over}
use Rattle.listening.specs.Listening.{first_command}
use Rattle.feeding.proofs.attempt.thrown_away.Goals as goal

pub slice_bounds-passed_over-end : goal.slice_bounds-passed_over-end
slice_bounds-passed_over-end c = sym (length-take-le c.args.held c.args.bytes.now c.requires)

pub returns-then-due-eq-FIRST_COMMAND : goal.returns-then-due-eq-FIRST_COMMAND
returns-then-due-eq-FIRST_COMMAND c =
    let bytes = c.args.bytes.now in
    let held = c.args.held in
    let due = c.args.due in
    let first : due ≡ first_command = omega arith in
    c.passed_over.ensures
    ∙ ap (passed_over (take held bytes)) (take_all (length bytes - held) (drop held bytes) (omega (arith, length-drop held bytes)))
    ∙ sym (ap (λ (t : Bool). pick t (passed_over (take held bytes) (drop held bytes)) 0) (eq-eqb due first_command first))

pub returns : goal.returns
returns c =
    let bytes = c.args.bytes.now in
    let held = c.args.held in
    let due = c.args.due in
    let later : due ≡ first_command → ⊥ = λ first. omega arith in
    sym (ap (λ (t : Bool). pick t (passed_over (take held bytes) (drop held bytes)) 0) (ne_eqb due first_command later))
