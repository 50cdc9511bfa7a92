-- `packets::listing_at` meets its contract: its tests are those of the definition, in the same order. Assumes nothing.
use mathlib.Core.Path.{sym, ◌∙◌}
use native.Mathlib.Omega.{arith}
use Rattle.packets.proofs.Listings.{listing_short, listing_length, listing_uneven, listing_over, listing_even}
use Rattle.packets.proofs.listing_at.Goals as goal

pub returns-then-left-lt8 : goal.returns-then-left-lt8
returns-then-left-lt8 c = let args = c.args in sym (listing_short args.input.now args.at (omega arith) (omega arith))

pub returns-then-input-at : goal.returns-then-input-at
returns-then-input-at c = let args = c.args in sym (listing_length args.input.now args.at (omega arith) (omega arith) (λ e. omega (arith, e)))

pub returns-in_err-count : goal.returns-in_err-count
returns-in_err-count c =
    let args = c.args in
    c.from_residual.ensures ∙ sym (listing_uneven args.input.now args.at (omega arith) (omega arith) (omega arith) (sym c.in_err-count.ensures))

pub returns-then-input-at-2 : goal.returns-then-input-at-2
returns-then-input-at-2 c = let args = c.args in sym (listing_over args.input.now args.at (omega arith) (omega arith) (omega arith) (sym c.in_ok-count.ensures) (omega arith))

pub returns : goal.returns
returns c = let args = c.args in sym (listing_even args.input.now args.at (omega arith) (omega arith) (omega arith) (sym c.in_ok-count.ensures) (omega arith))
