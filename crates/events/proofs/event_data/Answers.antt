-- `events::event_data` meets its contract: the part lies between the event's head and its end. Assumes nothing.
use mathlib.Core.Path.{sym, ◌∙◌}
use native.Mathlib.Omega.{arith}
use Rattle.events.proofs.EventAt.{found_next, found_within, shows_data, shows_nothing}
use Rattle.events.proofs.event_data.Goals as goal

pub slice_bounds-result-count : goal.slice_bounds-result-count
slice_bounds-result-count c =
    let args = c.args in
    let found = sym c.event_at.ensures ∙ c.in-Some.is in
    omega (arith, found_next args.input.now args.at found, found_within args.input.now args.at found)

pub slice_bounds-result-start : goal.slice_bounds-result-start
slice_bounds-result-start c =
    let args = c.args in
    let found = sym c.event_at.ensures ∙ c.in-Some.is in
    omega (arith, found_next args.input.now args.at found, found_within args.input.now args.at found)

pub slice_bounds-result-end : goal.slice_bounds-result-end
slice_bounds-result-end c =
    let args = c.args in
    let found = sym c.event_at.ensures ∙ c.in-Some.is in
    omega (arith, found_next args.input.now args.at found, found_within args.input.now args.at found)

pub returns-in-Some : goal.returns-in-Some
returns-in-Some c = let args = c.args in shows_data args.input.now args.at args.input.ref_ptr (sym c.event_at.ensures ∙ c.in-Some.is)

pub returns-in-None : goal.returns-in-None
returns-in-None c = let args = c.args in shows_nothing args.input.now args.at args.input.ref_ptr (sym c.event_at.ensures ∙ c.in-None.is)
