-- `checkbyte::wire_check` meets its contract. Assumes nothing.
use Rattle.std.proofs.Common.{◌≡◌, ◌∙◌, refl, sym, ap, ℕ, ◌+◌, ◌-◌, ◌<◌, length, get_or, take, drop, length-drop, arith}
use Rattle.std.specs.Int.Bits.{bit_xor}
use lib.Bits.{xor_lt}
use lib.Seq.{take_all}
use Rattle.checkbyte.specs.BitByBit.{check_from}
use Rattle.checkbyte.proofs.CheckByte.{above, check_pair, check_last, check_none, part_bytes}
use Rattle.checkbyte.proofs.wire_check.Goals as goal

pub loop-left-init : goal.loop-left-init
loop-left-init c = (λ (i : ℕ). omega (arith, c.type_inv.raw i), omega arith, omega arith, refl)

pub loop-left-preserved : goal.loop-left-preserved
loop-left-preserved c =
    let tables = c.args.tables.now in
    let l = c.loop-left in
    let left = l.left.now in
    let r = l.running - 256 in
    let a = get_or left 0 0 in
    let b = get_or left 1 0 in
    let entry : get_or tables a 0 < 256 = omega (arith, c.type_inv.entries a) in
    let x = get_or tables l.running 0 in
    let hx : x < 256 = omega (arith, c.type_inv.entries l.running) in
    let y = bit_xor (get_or tables a 0) b in
    let hy : y < 256 = xor_lt 8 (get_or tables a 0) b entry (l.invariant.0 1) in
    let wide : bit_xor x (256 + y) ≡ 256 + bit_xor x y = above x y hx hy in
    let low8 : bit_xor x y < 256 = xor_lt 8 x y hx hy in
    let narrow : bit_xor x (256 + y) - 256 ≡ bit_xor x y = omega arith in
    let is : l.running ≡ 256 + r = omega arith in
    let rest : take (length left - 2) (drop 2 left) ≡ drop 2 left = take_all (length left - 2) (drop 2 left) (omega (arith, length-drop 2 left)) in (
      search (part_bytes, l.invariant.0),
      omega arith,
      omega arith,
      ap (check_from tables (bit_xor x (256 + y) - 256)) rest
          ∙ ap (λ (n : ℕ). check_from tables n (drop 2 left)) (narrow ∙ ap (λ (n : ℕ). bit_xor (get_or tables n 0) y) is)
          ∙ sym (check_pair tables left 0 r (omega arith)) ∙ l.invariant.3,
    )

pub returns-in-len1 : goal.returns-in-len1
returns-in-len1 c =
    let l = c.loop-left in
    sym (check_last c.args.tables.now l.left.now 0 (l.running - 256) (omega arith) (omega arith)) ∙ l.invariant.3

pub returns-in_default-left : goal.returns-in_default-left
returns-in_default-left c =
    let l = c.loop-left in
    sym (check_none c.args.tables.now l.left.now 0 (l.running - 256) (omega arith)) ∙ l.invariant.3
