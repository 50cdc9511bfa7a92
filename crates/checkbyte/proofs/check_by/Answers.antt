-- `checkbyte::check_by` meets its contract. Assumes nothing.
use mathlib.Core.Path.{◌≡◌, refl, sym, ap, ◌∙◌}
use mathlib.Core.List.{List, ◌∷◌}
use Prim.Native.Nat.{ℕ, ◌+◌, ◌-◌, ◌<◌}
use native.Mathlib.Omega.{arith}
use lib.Bits.{bit_xor, xor_lt}
use lib.ListN.{get_or, drop, drop_of_length-le}
use Rattle.escapes.specs.Escape.{expanded}
use Rattle.escapes.proofs.Escaped.{expanded_next, expanded_plain}
use Rattle.checkbyte.specs.Check.{ebus_bytes, ebus_check}
use Rattle.checkbyte.proofs.CheckByte.{above, long_enough, both_long, two_bytes}
use Rattle.checkbyte.proofs.check_by.Goals as goal

pub loop-i-init : goal.loop-i-init
loop-i-init c = (omega arith, omega arith, omega arith, refl)

pub bounds-logical-i : goal.bounds-logical-i
bounds-logical-i c = omega (arith, c.loop-i-test.true)

pub overflow_cast-both : goal.overflow_cast-both
overflow_cast-both c = omega (arith, c.type_inv.logical c.loop-i.i)

pub bounds-table-logical : goal.bounds-table-logical
bounds-table-logical c = omega (arith, long_enough c.args.table.now c.requires.0, c.type_inv.logical c.loop-i.i)

pub overflow_add-both : goal.overflow_add-both
overflow_add-both c = omega (arith, c.loop-i-test.true)

pub bounds-logical-i-then-pair_at : goal.bounds-logical-i-then-pair_at
bounds-logical-i-then-pair_at c = omega (arith, (c.pair_at.ensures c.if-pair_at.true).1.0)

pub bounds-table-running : goal.bounds-table-running
bounds-table-running c = omega (arith, both_long (c.requires.1 c.if-pairs.true))

pub overflow_cast-running : goal.overflow_cast-running
overflow_cast-running c = omega (arith, c.type_inv.table c.loop-i.running)

pub overflow_cast-running-then-pair_at : goal.overflow_cast-running-then-pair_at
overflow_cast-running-then-pair_at c =
    let i = c.loop-i.i in
    let logical = c.args.logical.now in
    let table = c.args.table.now in
    let first : get_or table (get_or logical i 0) 0 < 256 = omega (arith, c.type_inv.table (get_or logical i 0)) in
    let byte : (k : ℕ) → get_or logical k 0 < 256 = λ k. omega (arith, c.type_inv.logical k) in
    let x = get_or table (get_or logical i 0) 0 in
    omega (arith, xor_lt 8 x (get_or logical (i + 1) 0) first (byte (i + 1)), xor_lt 8 x (get_or logical (i + 0) 0) first (byte (i + 0)))

pub overflow_add-running : goal.overflow_add-running
overflow_add-running c =
    let i = c.loop-i.i in
    let logical = c.args.logical.now in
    let table = c.args.table.now in
    let first : get_or table (get_or logical i 0) 0 < 256 = omega (arith, c.type_inv.table (get_or logical i 0)) in
    let byte : (k : ℕ) → get_or logical k 0 < 256 = λ k. omega (arith, c.type_inv.logical k) in
    let x = get_or table (get_or logical i 0) 0 in
    omega (arith, xor_lt 8 x (get_or logical (i + 1) 0) first (byte (i + 1)), xor_lt 8 x (get_or logical (i + 0) 0) first (byte (i + 0)))

pub overflow_add-i : goal.overflow_add-i
overflow_add-i c = omega (arith, (c.pair_at.ensures c.if-pair_at.true).1.0)

pub loop-i-smaller-then-pair_at : goal.loop-i-smaller-then-pair_at
loop-i-smaller-then-pair_at c = omega (arith, (c.pair_at.ensures c.if-pair_at.true).1.0)

pub loop-i-preserved-then-pair_at : goal.loop-i-preserved-then-pair_at
loop-i-preserved-then-pair_at c =
    let logical = c.args.logical.now in
    let table = c.args.table.now in
    let l = c.loop-i in
    let i = l.i in
    let r = l.running - 256 in
    let hr : r < 256 = omega arith in
    let a = get_or logical i 0 in
    let b = get_or logical (i + 1) 0 in
    let ha : a < 256 = omega (arith, c.type_inv.logical i) in
    let hb : b < 256 = omega (arith, c.type_inv.logical (i + 1)) in
    let pair = c.pair_at.ensures c.if-pair_at.true in
    let t = c.requires.1 c.if-pairs.true in
    let rest = expanded (drop (i + 1 + 1) logical) in
    let first : get_or table a 0 < 256 = omega (arith, c.type_inv.table a) in
    let y = bit_xor (get_or table a 0) b in
    let hy : y < 256 = xor_lt 8 (get_or table a 0) b first hb in
    let x = get_or table l.running 0 in
    let hx : x < 256 = omega (arith, c.type_inv.table l.running) in
    let wide : bit_xor x (256 + y) ≡ 256 + bit_xor x y = above x y hx hy in
    let low8 : bit_xor x y < 256 = xor_lt 8 x y hx hy in
    let narrow : bit_xor x (256 + y) - 256 ≡ bit_xor x y = omega arith in
    let is : l.running ≡ 256 + r = omega arith in
    let two : i + 1 + 1 ≡ i + 2 = omega arith in
    let turn : ebus_bytes r (expanded (drop i logical)) ≡ ebus_bytes (bit_xor (get_or table (256 + r) 0) y) rest =
    ap (ebus_bytes r) (expanded_plain logical i pair.0.0 pair.0.1 pair.0.2 ∙ ap (λ (k : List ℕ). a ∷ k) (expanded_plain logical (i + 1) pair.1.0 pair.1.1 pair.1.2)) ∙ two_bytes t r a b hr ha hb rest in
    let next : ebus_bytes (bit_xor x (256 + y) - 256) (expanded (drop (i + 2) logical)) ≡ ebus_bytes (bit_xor (get_or table (256 + r) 0) y) rest =
    ap (λ (k : ℕ). ebus_bytes k (expanded (drop (i + 2) logical))) (narrow ∙ ap (λ (k : ℕ). bit_xor (get_or table k 0) y) is) ∙ sym (ap (λ (k : ℕ). ebus_bytes (bit_xor (get_or table (256 + r) 0) y) (expanded (drop k logical))) two) in
    (omega (arith, pair.1.0), omega arith, omega arith, next ∙ sym turn ∙ l.invariant.3)

pub bounds-logical-i-in-loop-i : goal.bounds-logical-i-in-loop-i
bounds-logical-i-in-loop-i c = omega (arith, c.loop-i-test.true)

pub entered-running-requires : goal.entered-running-requires
entered-running-requires c = (c.requires.0, c.loop-i.invariant.1, c.loop-i.invariant.2)

pub overflow_add-i-in-loop-i : goal.overflow_add-i-in-loop-i
overflow_add-i-in-loop-i c = omega (arith, c.loop-i-test.true)

pub loop-i-smaller : goal.loop-i-smaller
loop-i-smaller c = omega (arith, c.loop-i-test.true)

pub loop-i-preserved : goal.loop-i-preserved
loop-i-preserved c =
    let logical = c.args.logical.now in
    let l = c.loop-i in
    let i = l.i in
    let after = c.entered-running.ensures in
    let turn = ap (ebus_bytes (l.running - 256)) (expanded_next logical i c.loop-i-test.true) ∙ after.2 (expanded (drop (i + 1) logical)) in
    (omega (arith, c.loop-i-test.true), after.0, after.1, sym turn ∙ l.invariant.3)

pub overflow_sub-result : goal.overflow_sub-result
overflow_sub-result c = omega arith

pub overflow_cast-result : goal.overflow_cast-result
overflow_cast-result c = omega arith

pub returns : goal.returns
unfolding ebus_bytes expanded ebus_check
returns c =
    let l = c.loop-i in
    sym (ap (λ (rest : List ℕ). ebus_bytes (l.running - 256) (expanded rest)) (drop_of_length-le c.args.logical.now c.loop-i-test.false)) ∙ l.invariant.3
