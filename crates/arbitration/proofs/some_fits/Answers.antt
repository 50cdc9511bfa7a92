-- `arbitration::some_fits` meets its contract: a key has 32 bits, and fits the windows where it has none above them.
-- Assumes nothing.
use Rattle.std.proofs.Common.{◌≡◌, ◌∙◌, sym, ap, ℕ, zero, suc, arith}
use Rattle.std.specs.Prelude.{Bool, not}
use Rattle.std.proofs.Math.Dec.{eqb, ltb}
use borrow.Author.Tests.{ne_eqb, lt-ltb}
use Rattle.lists.proofs.Counting.{any_counted}
use Rattle.lists.proofs.Tests.{any_cong}
use Rattle.arbitration.specs.Prefix.{starts}
use Rattle.arbitration.proofs.Contenders.{fits_is, all_fit}
use Rattle.arbitration.proofs.some_fits.Goals as goal

-- not empty
some : (n : ℕ) (empty : Bool) → empty ≡ eqb n 0 → not empty ≡ ltb 0 n
some zero empty e = ap not e
some (suc n) empty e = ap not (e ∙ ne_eqb (suc n) 0 (omega arith)) ∙ sym (lt-ltb 0 (suc n) (omega arith))

pub returns-then-windows-ge-KEY_BITS : goal.returns-then-windows-ge-KEY_BITS
returns-then-windows-ge-KEY_BITS c =
    some _ _ c.is_empty.ensures ∙ all_fit c.args.windows 32 c.args.keys.now (omega (arith, c.if-windows-ge-KEY_BITS.true)) (λ i h. (c.type_inv.keys i).fits)

pub returns : goal.returns
returns c =
    let windows = c.args.windows in
    let keys = c.args.keys.now in
    ap (ltb 0) c.how_many.ensures ∙ any_counted (starts windows 0) keys ∙ any_cong (fits_is windows) keys
