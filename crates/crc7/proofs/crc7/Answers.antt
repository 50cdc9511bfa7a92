-- `crc7::crc7` meets its contract. Assumes nothing.
use Rattle.std.proofs.Common.{ap, ◌∙◌, sym, subst, ℕ, ◌<◌}
use Rattle.std.specs.Int.Bits.{bit_xor}
use Rattle.crc.specs.Register.{left, steps}
use Rattle.crc.proofs.Fitting.{below}
use Rattle.crc7.specs.Check.{crc7_polynomial}
use Rattle.crc7.proofs.Character.{added_byte, steps_byte, turn, ended}
use Rattle.crc7.proofs.crc7.Goals as goal

pub four_steps-register-requires : goal.four_steps-register-requires
four_steps-register-requires c =
    let l = c.loop-character in
    let byte = subst (λ (b : ℕ). b < 256) (sym c.from.ensures) (below _ (c.type_inv.characters l.character-index)) in
    subst (λ (x : ℕ). x < 256) (sym c.four_steps.ensures) (steps_byte 4 _ (added_byte _ _ l.invariant.fits byte))

pub loop-character-preserved : goal.loop-character-preserved
loop-character-preserved c =
    let l = c.loop-character in
    let four = c.four_steps.ensures ∙ ap (λ (b : ℕ). steps left 8 crc7_polynomial 4 (bit_xor l.register b)) c.from.ensures in
    turn _ _ _ _ _ l.invariant c.loop-character-test.true (below _ (c.type_inv.characters _)) four c.four_steps-register.ensures

pub returns : goal.returns
returns c = ended _ _ _ c.loop-character.invariant c.loop-character-test.false
