-- `railbus::read_packet` meets its contract: its tests are those of the definition, in the order of the refusals. Assumes nothing.
use mathlib.Core.Path.{sym, ◌∙◌}
use native.Mathlib.Omega.{arith}
use Rattle.railbus.proofs.Reader.{read_short, read_first, read_second, read_letter, read_length, read_framed}
use Rattle.railbus.proofs.read_packet.Goals as goal

pub returns-then-input-lt-SHORT_LENGTH : goal.returns-then-input-lt-SHORT_LENGTH
returns-then-input-lt-SHORT_LENGTH c = simp (c.refused.ensures, read_short c.args.input.now (omega arith))

pub returns-then-input-ne-MARK_FIRST : goal.returns-then-input-ne-MARK_FIRST
returns-then-input-ne-MARK_FIRST c = simp (c.refused-then-input-ne-MARK_FIRST.ensures, read_first c.args.input.now (omega arith) c.if-input-ne-MARK_FIRST.true)

pub returns-then-input-ne-MARK_SECOND : goal.returns-then-input-ne-MARK_SECOND
returns-then-input-ne-MARK_SECOND c = simp (c.refused-then-input-ne-MARK_SECOND.ensures, read_second c.args.input.now (omega arith) c.if-input-ne-MARK_FIRST.false c.if-input-ne-MARK_SECOND.true)

pub returns-then-not-is_letter : goal.returns-then-not-is_letter
returns-then-not-is_letter c =
    let refuses = sym c.is_letter.ensures ∙ c.if-not-is_letter.true in
    c.refused-then-not-is_letter.ensures ∙ sym (read_letter c.args.input.now (omega arith) c.if-input-ne-MARK_FIRST.false c.if-input-ne-MARK_SECOND.false refuses)

pub returns-then-input-length_for : goal.returns-then-input-length_for
returns-then-input-length_for c =
    let takes = sym c.is_letter.ensures ∙ c.if-not-is_letter.false in
    c.refused-then-input-length_for.ensures
    ∙ sym (read_length c.args.input.now (omega arith) c.if-input-ne-MARK_FIRST.false c.if-input-ne-MARK_SECOND.false takes (λ same. omega (arith, same, c.length_for.ensures)))

pub found_in-requires : goal.found_in-requires
found_in-requires c = omega (arith, c.length_for.ensures)

pub returns : goal.returns
returns c =
    let takes = sym c.is_letter.ensures ∙ c.if-not-is_letter.false in
    c.found_in.ensures
    ∙ sym (read_framed c.args.input.now (omega arith) c.if-input-ne-MARK_FIRST.false c.if-input-ne-MARK_SECOND.false takes (omega (arith, c.length_for.ensures)))
