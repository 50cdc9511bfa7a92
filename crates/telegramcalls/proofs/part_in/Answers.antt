-- `telegramcalls::part_in` meets its contract: the part is picked by whether the buffer holds data.
-- Assumes nothing.
use mathlib.Core.Path.{sym, ap, ◌∙◌}
use mathlib.Core.Bool.{Bool}
use mathlib.Core.List.{List}
use Prim.Native.Nat.{ℕ}
use native.Mathlib.Omega.{arith}
use Rattle.lists.specs.Choice.{pick}
use Rattle.replies.proofs.Data.{held_within}
use Rattle.boundary.specs.declared.MoorPart.{MoorPart}
use Rattle.replies.specs.Data.{behind_length, empty_start}
use Rattle.boundary.specs.ForC.{part_for_c}
use Rattle.telegramcalls.proofs.part_in.Goals as goal

abbrev picked : ℕ → List ℕ → Bool → MoorPart
picked attempt buffer t = part_for_c (pick t (behind_length attempt buffer) empty_start)

pub bounds-buffer-0 : goal.bounds-buffer-0
bounds-buffer-0 c = omega (arith, (held_within c.args.buffer.now (sym c.holds_data.ensures ∙ c.if-holds_data.true)).0)

pub overflow_cast-result : goal.overflow_cast-result
overflow_cast-result c = record { fits = omega (arith, c.type_inv.buffer 0) }

pub returns-then-holds_data : goal.returns-then-holds_data
returns-then-holds_data c = ap (picked c.args.attempt c.args.buffer.now) (sym c.if-holds_data.true ∙ c.holds_data.ensures)

pub returns : goal.returns
returns c = c.empty_start.ensures ∙ ap (picked c.args.attempt c.args.buffer.now) (sym c.if-holds_data.false ∙ c.holds_data.ensures)
