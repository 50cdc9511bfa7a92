-- `railbus::found_in` meets its contract: the digits that are spelled are those that were asked for before. Assumes nothing.
use mathlib.Core.Path.{refl, sym, ◌∙◌}
use native.Mathlib.Omega.{arith}
use lib.Dec.{lit≤}
use Rattle.railbus.proofs.Reader.{length_least, found_digit, all_right, pair_fixed, pair_last, found_check, found_packet}
use Rattle.railbus.proofs.found_in.Goals as goal

pub returns-then-wrong-input : goal.returns-then-wrong-input
returns-then-wrong-input c =
    let args = c.args in
    simp (c.refused.ensures, found_digit args.letter args.input.now c.no_digit-wrong.result c.no_digit-wrong.ensures c.if-wrong-input.true)

pub overflow_sub-place : goal.overflow_sub-place
overflow_sub-place c = omega (arith, length_least c.args.letter c.args.input.now c.requires)

pub pair_at-sent-requires : goal.pair_at-sent-requires
pair_at-sent-requires c =
    let args = c.args in
    (omega (arith, length_least args.letter args.input.now c.requires), pair_last args.letter args.input.now c.requires c.no_digit-wrong.result c.no_digit-wrong.ensures c.if-wrong-input.false)

pub check_fails-requires : goal.check_fails-requires
check_fails-requires c = let least = length_least c.args.letter c.args.input.now c.requires in (omega (arith, least), omega (arith, least))

pub returns-then-check_fails : goal.returns-then-check_fails
returns-then-check_fails c =
    let args = c.args in
    c.refused-then-check_fails.ensures ∙ sym (found_check args.letter args.input.now c.requires c.no_digit-wrong.result c.no_digit-wrong.ensures c.if-wrong-input.false c.pair_at-sent.result c.pair_at-sent.ensures (sym c.check_fails.ensures ∙ c.if-check_fails.true))

pub pair_at-requires : goal.pair_at-requires
pair_at-requires c =
    let args = c.args in
    (omega (arith, length_least args.letter args.input.now c.requires), pair_fixed args.letter args.input.now c.requires c.no_digit-wrong.result c.no_digit-wrong.ensures c.if-wrong-input.false 2 (lit≤ tt) refl refl)

pub pair_at-requires-2 : goal.pair_at-requires-2
pair_at-requires-2 c =
    let args = c.args in
    (omega (arith, length_least args.letter args.input.now c.requires), pair_fixed args.letter args.input.now c.requires c.no_digit-wrong.result c.no_digit-wrong.ensures c.if-wrong-input.false 5 (lit≤ tt) refl refl)

pub message_of-requires : goal.message_of-requires
message_of-requires c =
    let args = c.args in
    (c.requires, all_right args.letter args.input.now c.requires c.no_digit-wrong.result c.no_digit-wrong.ensures c.if-wrong-input.false)

pub returns : goal.returns
returns c =
    let args = c.args in
    (simp (c.pair_at.ensures, c.pair_at-2.ensures, c.message_of.ensures))
    ∙ sym (found_packet args.letter args.input.now c.requires c.no_digit-wrong.result c.no_digit-wrong.ensures c.if-wrong-input.false c.pair_at-sent.result c.pair_at-sent.ensures (sym c.check_fails.ensures ∙ c.if-check_fails.false))
