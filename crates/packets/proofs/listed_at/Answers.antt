-- `packets::listed_at` meets its contract: what is carried is looked at before the check. Assumes nothing.
use mathlib.Core.Path.{sym, ◌∙◌}
use native.Mathlib.Omega.{arith}
use Rattle.packets.specs.Listing.{carried_at}
use Rattle.packets.proofs.ReaderOutcomes.{packet_unfit, packet_check, packet_read}
use Rattle.packets.proofs.Listings.{unfit, fit, fit_long}
use Rattle.packets.proofs.listed_at.Goals as goal

pub returns-in_default : goal.returns-in_default
returns-in_default c = let args = c.args in
    let pre = c.requires in
    c.refused.ensures ∙ sym (packet_unfit args.input.now args.at pre.1 (omega arith) pre.2 pre.3 (unfit (carried_at args.input.now args.at) (sym c.listing_at.ensures ∙ c.in_default.is)))

pub returns-then-not-closed_at : goal.returns-then-not-closed_at
returns-then-not-closed_at c = let args = c.args in
    let pre = c.requires in
    let fits = fit (carried_at args.input.now args.at) (sym c.listing_at.ensures ∙ c.in-Some.is) in
    c.refused-then-not-closed_at.ensures ∙ sym (packet_check args.input.now args.at pre.1 (omega arith) pre.2 pre.3 fits.0 (sym c.closed_at.ensures ∙ c.if-not-closed_at.true))

pub bounds-input-at-4 : goal.bounds-input-at-4
bounds-input-at-4 c = let args = c.args in
    let fits = fit (carried_at args.input.now args.at) (sym c.listing_at.ensures ∙ c.in-Some.is) in
    omega (arith, fit_long args.input.now args.at (omega arith) fits.0)

pub returns : goal.returns
returns c = let args = c.args in
    let pre = c.requires in
    let fits = fit (carried_at args.input.now args.at) (sym c.listing_at.ensures ∙ c.in-Some.is) in
    sym (packet_read args.input.now args.at pre.1 (omega arith) pre.2 pre.3 fits.0 _ fits.1 (sym c.closed_at.ensures ∙ c.if-not-closed_at.false))
