-- `arbitration::contest` meets its contract: nobody, more windows than a key has bits, or the windows as they are.
-- Assumes nothing.
use mathlib.Core.Path.{◌≡◌, sym, ◌∙◌}
use mathlib.Core.Bool.{true}
use Prim.Native.Nat.{ℕ, ◌-◌, ◌^◌, ◌≤◌, ◌<◌}
use native.Mathlib.Omega.{arith}
use lib.ListN.{length, get_or}
use lib.Pow.{pow_mono}
use borrow.Author.Tests.{ltb-true}
use Rattle.lists.specs.Tests.{any}
use Rattle.arbitration.specs.Contest.{fits}
use Rattle.lists.proofs.Tests.{any_cong}
use Rattle.arbitration.proofs.Contenders.{fits_is, from_the_first, all_fit, nobody_decided}
use Rattle.arbitration.proofs.SmallestWins.{decided_above}
use Rattle.arbitration.proofs.contest.Goals as goal

pub returns-then-not-some_fits : goal.returns-then-not-some_fits
returns-then-not-some_fits c =
    nobody_decided c.args.windows c.args.keys.now (sym c.some_fits.ensures ∙ c.if-not-some_fits.true)

pub over_windows-requires : goal.over_windows-requires
over_windows-requires c =
    let windows = c.args.windows in
    let keys = c.args.keys.now in
    let below : (i : ℕ) → i < length keys → get_or keys i 0 < 2 ^ 32 = λ i h. (c.type_inv.keys i).fits in
    let more : 32 ≤ windows = omega (arith, c.if-windows-gt-KEY_BITS.true) in
    let somebody : any (fits windows) keys ≡ true = sym c.some_fits.ensures ∙ c.if-not-some_fits.false in
    (omega arith, omega arith, omega arith, any_cong (fits_is 32) keys ∙ sym (all_fit 32 32 keys (omega arith) below) ∙ all_fit windows 32 keys more below ∙ somebody)

pub returns-then-windows-gt-KEY_BITS : goal.returns-then-windows-gt-KEY_BITS
returns-then-windows-gt-KEY_BITS c =
    let windows = c.args.windows in
    let keys = c.args.keys.now in
    let below : (i : ℕ) → i < length keys → get_or keys i 0 < 2 ^ 32 = λ i h. (c.type_inv.keys i).fits in
    let more : 32 ≤ windows = omega (arith, c.if-windows-gt-KEY_BITS.true) in
    let somebody : any (fits windows) keys ≡ true = sym c.some_fits.ensures ∙ c.if-not-some_fits.false in
    c.over_windows.ensures ∙ decided_above 32 (windows - 32) windows keys (omega arith) (ltb-true 0 (length keys) (all_fit windows 32 keys more below ∙ somebody)) below

pub over_windows-requires-2 : goal.over_windows-requires-2
over_windows-requires-2 c =
    let windows = c.args.windows in
    let keys = c.args.keys.now in
    let few : windows ≤ 32 = omega (arith, c.if-windows-gt-KEY_BITS.false) in
    let somebody : any (fits windows) keys ≡ true = sym c.some_fits.ensures ∙ c.if-not-some_fits.false in
    (few, omega (arith, pow_mono few), omega arith, any_cong (fits_is windows) keys ∙ somebody)

pub returns : goal.returns
returns c =
    c.over_windows-2.ensures ∙ from_the_first c.args.windows c.args.keys.now
