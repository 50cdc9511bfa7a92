-- `replies::reply_data` meets its contract: the attempt picks the buffer, and the part lies behind its LEN.
-- Assumes nothing.
use mathlib.Core.Path.{◌≡◌, sym, ◌∙◌}
use mathlib.Core.Bool.{true}
use Prim.Native.Nat.{◌<◌}
use native.Mathlib.Omega.{arith}
use lib.ListN.{length}
use Rattle.replies.specs.Data.{holds_data}
use Rattle.replies.proofs.Data.{held_within, part_held, part_none, asked_first, asked_second, no_attempt, shows_first, shows_second, shows_nothing}
use borrow.Author.Rules.{rules}
use Rattle.replies.proofs.reply_data.Goals as goal

pub bounds-first-0 : goal.bounds-first-0
bounds-first-0 c = let held : holds_data c.args.first.now ≡ true = sym c.holds_data.ensures ∙ c.if-holds_data.true in
    let within = held_within c.args.first.now held in
    omega (arith, within.0)

pub overflow_cast-end : goal.overflow_cast-end
overflow_cast-end c = let held : holds_data c.args.first.now ≡ true = sym c.holds_data.ensures ∙ c.if-holds_data.true in
    let within = held_within c.args.first.now held in
    let below : length c.args.first.now < 18446744073709551616 = search rules in
    record { fits = omega (arith, within.1) }

pub overflow_add-end : goal.overflow_add-end
overflow_add-end c = let held : holds_data c.args.first.now ≡ true = sym c.holds_data.ensures ∙ c.if-holds_data.true in
    let within = held_within c.args.first.now held in
    let below : length c.args.first.now < 18446744073709551616 = search rules in
    record { fits = omega (arith, within.1) }

pub slice_bounds-result-end : goal.slice_bounds-result-end
slice_bounds-result-end c = let held : holds_data c.args.first.now ≡ true = sym c.holds_data.ensures ∙ c.if-holds_data.true in
    let within = held_within c.args.first.now held in
    omega (arith, within.1)

pub returns-then-holds_data : goal.returns-then-holds_data
returns-then-holds_data c = shows_first c.args.first.now c.args.second.now c.args.attempt c.args.first.ref_ptr c.args.second.ref_ptr (asked_first c.args.first.now c.args.second.now c.args.attempt c.if-attempt-eq1.true ∙ part_held 1 c.args.first.now (sym c.holds_data.ensures ∙ c.if-holds_data.true))

pub returns-then-attempt-eq1 : goal.returns-then-attempt-eq1
returns-then-attempt-eq1 c = shows_nothing c.args.first.now c.args.second.now c.args.attempt c.args.first.ref_ptr c.args.second.ref_ptr (asked_first c.args.first.now c.args.second.now c.args.attempt c.if-attempt-eq1.true ∙ part_none 1 c.args.first.now (sym c.holds_data.ensures ∙ c.if-holds_data.false))

pub bounds-second-0 : goal.bounds-second-0
bounds-second-0 c = let held : holds_data c.args.second.now ≡ true = sym c.holds_data-then-attempt-eq2.ensures ∙ c.if-holds_data-2.true in
    let within = held_within c.args.second.now held in
    omega (arith, within.0)

pub overflow_cast-end-then-holds_data-2 : goal.overflow_cast-end-then-holds_data-2
overflow_cast-end-then-holds_data-2 c = let held : holds_data c.args.second.now ≡ true = sym c.holds_data-then-attempt-eq2.ensures ∙ c.if-holds_data-2.true in
    let within = held_within c.args.second.now held in
    let below : length c.args.second.now < 18446744073709551616 = search rules in
    record { fits = omega (arith, within.1) }

pub overflow_add-end-then-holds_data-2 : goal.overflow_add-end-then-holds_data-2
overflow_add-end-then-holds_data-2 c = let held : holds_data c.args.second.now ≡ true = sym c.holds_data-then-attempt-eq2.ensures ∙ c.if-holds_data-2.true in
    let within = held_within c.args.second.now held in
    let below : length c.args.second.now < 18446744073709551616 = search rules in
    record { fits = omega (arith, within.1) }

pub slice_bounds-result-end-then-holds_data-2 : goal.slice_bounds-result-end-then-holds_data-2
slice_bounds-result-end-then-holds_data-2 c = let held : holds_data c.args.second.now ≡ true = sym c.holds_data-then-attempt-eq2.ensures ∙ c.if-holds_data-2.true in
    let within = held_within c.args.second.now held in
    omega (arith, within.1)

pub returns-then-holds_data-2 : goal.returns-then-holds_data-2
returns-then-holds_data-2 c = shows_second c.args.first.now c.args.second.now c.args.attempt c.args.first.ref_ptr c.args.second.ref_ptr (asked_second c.args.first.now c.args.second.now c.args.attempt c.if-attempt-eq1.false c.if-attempt-eq2.true ∙ part_held 2 c.args.second.now (sym c.holds_data-then-attempt-eq2.ensures ∙ c.if-holds_data-2.true))

pub returns-then-attempt-eq2 : goal.returns-then-attempt-eq2
returns-then-attempt-eq2 c = shows_nothing c.args.first.now c.args.second.now c.args.attempt c.args.first.ref_ptr c.args.second.ref_ptr (asked_second c.args.first.now c.args.second.now c.args.attempt c.if-attempt-eq1.false c.if-attempt-eq2.true ∙ part_none 2 c.args.second.now (sym c.holds_data-then-attempt-eq2.ensures ∙ c.if-holds_data-2.false))

pub returns : goal.returns
returns c = shows_nothing c.args.first.now c.args.second.now c.args.attempt c.args.first.ref_ptr c.args.second.ref_ptr (no_attempt c.args.first.now c.args.second.now c.args.attempt c.if-attempt-eq1.false c.if-attempt-eq2.false)
