-- `railbus::message_of` meets its contract. Assumes nothing.
use mathlib.Core.Path.{sym, ap, ◌∙◌}
use Rattle.railbus.specs.Reading.{message_for}
use Rattle.railbus.proofs.Reader.{data_digits_lem, data_said}
use Rattle.railbus.proofs.message_of.Goals as goal

pub returns-then-is_short : goal.returns-then-is_short
returns-then-is_short c = c.message_for.ensures ∙ simp (sym c.is_short.ensures ∙ c.if-is_short.true)

pub word_at-requires : goal.word_at-requires
word_at-requires c = data_digits_lem c.args.letter c.args.input.now c.requires.0 (sym c.is_short.ensures ∙ c.if-is_short.false) c.requires.1

pub returns : goal.returns
returns c =
    c.message_for-2.ensures
    ∙ ap (message_for c.args.letter) c.word_at.ensures
    ∙ data_said c.args.letter c.args.input.now c.requires.0 (sym c.is_short.ensures ∙ c.if-is_short.false)
