-- `escapes::expand` meets its contract: the length is worked out first, and the output is written only where it fits.
-- Assumes nothing.
use Rattle.std.specs.Prelude.{Ok}
use mathlib.Core.Path.{◌≡◌, sym, ap}
use lib.ListN.{length}
use Rattle.refusal.specs.Output.{bytes, written}
use Rattle.refusal.proofs.Writer.{wrote_short, wrote_all}
use Rattle.escapes.specs.Escape.{expanded}
use Rattle.escapes.proofs.expand.Goals as goal

pub returns-then-out-length : goal.returns-then-out-length
returns-then-out-length c =
    let wire = expanded c.args.logical.now in
    let old = c.args.out.now in
    let n = c.expanded_length-length.result in
    let e : written (bytes wire) ≡ Ok n = ap Ok (sym c.expanded_length-length.ensures) in
    wrote_short (bytes wire) (length old) old n e c.refused.result c.if-out-length.true c.refused.ensures

pub returns : goal.returns
returns c =
    let wire = expanded c.args.logical.now in
    let old = c.args.out.now in
    let n = c.expanded_length-length.result in
    let e : written (bytes wire) ≡ Ok n = ap Ok (sym c.expanded_length-length.ensures) in
    wrote_all (bytes wire) (length old) old n e c.expand_into.new.out c.if-out-length.false c.expand_into.ensures
