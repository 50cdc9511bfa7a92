-- `escapes::undo` meets its contract: the length is worked out first, and the output is written only where it fits.
-- Assumes nothing.
use Rattle.std.specs.Prelude.{Ok}
use mathlib.Core.Path.{◌≡◌, sym, ap, ◌∙◌}
use mathlib.Core.List.{List}
use Prim.Native.Nat.{ℕ}
use native.Mathlib.Omega.{arith}
use lib.ListN.{length, take}
use Rattle.lists.specs.Starting.{starting}
use Rattle.lists.proofs.Filling.{put_whole}
use Rattle.refusal.specs.Output.{content, written}
use Rattle.refusal.proofs.Writer.{accepted, accepted_length, wrote_short, wrote_all}
use Rattle.escapes.specs.Logical.{logicals_at}
use Rattle.escapes.specs.Undo.{undone}
use Rattle.escapes.proofs.LogicalBytes.{undone_logicals}
use Rattle.escapes.proofs.undo.Goals as goal

pub returns-then-out-n : goal.returns-then-out-n
returns-then-out-n c =
    let out = undone c.args.raw.now in
    let old = c.args.out.now in
    let n = c.in_ok-n.n in
    let e : written out ≡ Ok n = sym c.in_ok-n.ensures in
    wrote_short out (length old) old n e c.refused.result c.if-out-n.true c.refused.ensures

pub returns : goal.returns
returns c =
    let out = undone c.args.raw.now in
    let old = c.args.out.now in
    let n = c.in_ok-n.n in
    let e : written out ≡ Ok n = sym c.in_ok-n.ensures in
    let all = content out in
    let size : length all ≡ n = accepted_length out n e in
    let whole : logicals_at c.args.raw.now n 0 ≡ all =
    ap (λ (k : ℕ). logicals_at c.args.raw.now k 0) (sym size) ∙ undone_logicals c.args.raw.now all (accepted out n e) in
    wrote_all out (length old) old n e c.put_logical.new.out c.if-out-n.false
    (c.put_logical.ensures ∙ ap (λ (l : List ℕ). starting (take (length old) l) old) whole ∙ put_whole all old (omega (arith, c.if-out-n.false)))
