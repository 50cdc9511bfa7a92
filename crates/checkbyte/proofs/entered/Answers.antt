-- `checkbyte::entered` meets its contract: the running value is the register, of 8 bits, with a bit above, which goes through
-- each addition.
-- Assumes nothing.
use mathlib.Core.Path.{◌≡◌, sym, ap, ◌∙◌}
use mathlib.Core.List.{List}
use Prim.Native.Nat.{ℕ, ◌+◌, ◌-◌, ◌≤◌, ◌<◌}
use native.Mathlib.Omega.{arith}
use lib.Bits.{bit_xor}
use lib.Dec.{lit<}
use lib.ListN.{get_or}
use Rattle.escapes.specs.Escape.{esc, syn}
use Rattle.escapes.proofs.Escaped.{special}
use Rattle.checkbyte.specs.Check.{ebus_bytes}
use Rattle.checkbyte.proofs.CheckByte.{above, long_enough, low_lt, one_lt, enters_plain, enters_special}
use Rattle.checkbyte.proofs.entered.Goals as goal
use Rattle.checkbyte.proofs.entered.Goals.{in_default-via-else-byte-lt169+else-byte-lt171, in_default-via-then-byte-lt169}

pub bounds-table-at : goal.bounds-table-at
bounds-table-at c = omega (arith, long_enough c.args.table.now c.requires.0)

pub overflow_cast-second : goal.overflow_cast-second
overflow_cast-second c = omega (arith, one_lt c.args.table.now c.requires.0 (c.args.running - 256) esc (omega arith) (lit< tt))

pub bounds-table-second : goal.bounds-table-second
bounds-table-second c =
    let table = c.args.table.now in
    omega (arith, long_enough table c.requires.0, one_lt table c.requires.0 (c.args.running - 256) esc (omega arith) (lit< tt))

pub overflow_cast-result : goal.overflow_cast-result
overflow_cast-result c =
    let table = c.args.table.now in
    let second = one_lt table c.requires.0 (c.args.running - 256) esc (omega arith) (lit< tt) in
    omega (arith, low_lt table c.requires.0 _ second, low_lt table c.requires.0 (c.args.running - 256) (omega arith))

pub bounds-table-at-in_default : goal.bounds-table-at-in_default
bounds-table-at-in_default c = omega (arith, long_enough c.args.table.now c.requires.0)

pub overflow_cast-result-in_default : goal.overflow_cast-result-in_default
overflow_cast-result-in_default c = omega (arith, low_lt c.args.table.now c.requires.0 (c.args.running - 256) (omega arith))

pub returns-in-169 : goal.returns-in-169
returns-in-169 c =
    let table = c.args.table.now in
    let t = c.requires.0 in
    let r = c.args.running - 256 in
    let b = c.args.byte in
    let hr : r < 256 = omega arith in
    let low : esc ≤ b = omega arith in
    let high : b ≤ syn = omega arith in
    let half : b - esc < 256 = omega arith in
    let second = one_lt table t r esc hr (lit< tt) in
    let x = get_or table (bit_xor (get_or table r 0) esc) 0 in
    let wide : bit_xor x (256 + (b - esc)) ≡ 256 + bit_xor x (b - esc) = above x (b - esc) (low_lt table t _ second) half in
    let low8 : bit_xor x (b - esc) < 256 = one_lt table t (bit_xor (get_or table r 0) esc) (b - esc) second half in
    let narrow : bit_xor x (256 + (b - esc)) - 256 ≡ bit_xor x (b - esc) = omega arith in
    (omega arith, omega arith, λ (rest : List ℕ). enters_special table t r b hr (special b low high) half rest ∙ ap (λ (k : ℕ). ebus_bytes k rest) (sym narrow))

pub returns-in_default : goal.returns-in_default
returns-in_default c =
    let table = c.args.table.now in
    let t = c.requires.0 in
    let r = c.args.running - 256 in
    let b = c.args.byte in
    let hr : r < 256 = omega arith in
    let hb : b < 256 = omega arith in
    let no-esc : b ≡ esc → ⊥ = λ e. elim c.in_default.branch [ in_default-via-then-byte-lt169 w ↦ omega arith | in_default-via-else-byte-lt169+else-byte-lt171 w ↦ omega arith ] in
    let no-syn : b ≡ syn → ⊥ = λ e. elim c.in_default.branch [ in_default-via-then-byte-lt169 w ↦ omega arith | in_default-via-else-byte-lt169+else-byte-lt171 w ↦ omega arith ] in
    let x = get_or table r 0 in
    let wide : bit_xor x (256 + b) ≡ 256 + bit_xor x b = above x b (low_lt table t r hr) hb in
    let low8 : bit_xor x b < 256 = one_lt table t r b hr hb in
    let narrow : bit_xor x (256 + b) - 256 ≡ bit_xor x b = omega arith in
    (omega arith, omega arith, λ (rest : List ℕ). enters_plain table t r b hr hb no-esc no-syn rest ∙ ap (λ (k : ℕ). ebus_bytes k rest) (sym narrow))
