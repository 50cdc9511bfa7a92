-- `captures::next_exchange` meets its contract: idle time is passed over from the position on, and then the bytes through the next SYN.
-- Assumes nothing.
use native.Mathlib.Omega.{arith}
use Rattle.captures.proofs.Through.{start_within, end_within, is_next}
use Rattle.captures.proofs.next_exchange.Goals as goal

pub overflow_add-start : goal.overflow_add-start
overflow_add-start c = omega (arith, start_within c.args.capture.now c.min-from.result c.command_start.result (omega (arith, c.min-from.ensures)) c.command_start.ensures)

pub slice_bounds-through_syn-count : goal.slice_bounds-through_syn-count
slice_bounds-through_syn-count c = start_within c.args.capture.now c.min-from.result c.command_start.result (omega (arith, c.min-from.ensures)) c.command_start.ensures

pub slice_bounds-through_syn-start : goal.slice_bounds-through_syn-start
slice_bounds-through_syn-start c = start_within c.args.capture.now c.min-from.result c.command_start.result (omega (arith, c.min-from.ensures)) c.command_start.ensures

pub overflow_add-end : goal.overflow_add-end
overflow_add-end c = omega (arith, end_within c.args.capture.now c.min-from.result c.command_start.result (omega (arith, c.min-from.ensures)) c.command_start.ensures c.through_syn.result c.through_syn.ensures)

pub returns : goal.returns
returns c = is_next c.args.capture.now c.min-from.result c.command_start.result (omega (arith, c.min-from.ensures)) c.command_start.ensures c.through_syn.result c.through_syn.ensures c.args.at c.min-from.ensures
