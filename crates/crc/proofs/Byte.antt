-- What a byte does to the Modbus register, with the first row's entry looked up or worked out, what two bytes do to it by
-- both rows, and one turn of a loop that takes either: the bytes from i on enter the register, and what is left starts
-- behind them.
-- Assumes nothing.
use mathlib.Core.Path.{◌≡◌, sym, ap, ◌∙◌, subst}
use mathlib.Core.List.{List, [], ◌∷◌}
use Prim.Native.Nat.{ℕ, ◌+◌, ◌*◌, ◌/◌, ◌%◌, ◌^◌, ◌≤◌, ◌<◌}
use native.Mathlib.Nat.{mod-lt, div-eq_of_lt, add_comm}
use native.Mathlib.Omega.{arith}
use lib.Bits.{bit_xor, xor_lt, xor_shr, xor_zero_r, xor_comm, xor_shifted}
use lib.Count.{ones}
use lib.Dec.{lit<, lit≤}
use lib.ListN.{length, get_or, drop, drop_of_length-le}
use Rattle.lists.proofs.Filling.{drop_next}
use Rattle.crc.specs.Register.{right, steps}
use Rattle.crc.specs.Check.{modbus_polynomial, modbus_bytes, modbus_check}
use Rattle.crc.specs.BitByBit.{modbus_times, ModbusTable, ModbusRows}
use Rattle.crc.proofs.Xor.{xor_assoc}
use Rattle.crc.proofs.Register.{steps_lt, right_later}
use Rattle.crc.proofs.Table.{byte_lt, by_entry, by_entry_on}
use Rattle.crc.proofs.BitByBit.{many_steps}

-- an entry as the code works it out: the byte k at two places, and p where k has an odd number of ones
abbrev pub worked_out : ℕ → ℕ → ℕ → ℕ → ℕ
worked_out a b p k = bit_xor (bit_xor (k * a) (k * b)) (ones k % 2 * p)

-- the entry of a byte that enters the register
abbrev pub Entry : ℕ → ℕ → ℕ → Type 0
Entry r b e = e ≡ modbus_times 8 (bit_xor r b % 256)

-- looked up
pub looked_up : {table : List ℕ} → ModbusTable table → (r b : ℕ) → Entry r b (get_or table (bit_xor r b % 256) 0)
looked_up t r b = t.entry (bit_xor r b % 256) (mod-lt (bit_xor r b) (lit< tt))

module _ (r b e : ℕ) (is : Entry r b e) where
  as_steps : e ≡ steps right 16 modbus_polynomial 8 (bit_xor r b % 256)
  as_steps = is ∙ sym (many_steps 8 (bit_xor r b % 256))

  pub entry_fits : e < 2 ^ 16
  entry_fits =
      subst (λ (x : ℕ). x < 2 ^ 16) (sym as_steps)
      (byte_lt right 16 modbus_polynomial (lit< tt) (lit≤ tt) (bit_xor r b % 256) (mod-lt (bit_xor r b) (lit< tt)))

  module _ (hr : r < 2 ^ 16) (hb : b < 256) where
    added_lt : bit_xor r b < 2 ^ 16
    added_lt = xor_lt 16 r b hr (omega arith)

    modbus_byte : steps right 16 modbus_polynomial 8 (bit_xor r b) ≡ bit_xor (r / 256) e
    modbus_byte =
        by_entry right 16 modbus_polynomial (lit< tt) (lit≤ tt) (bit_xor r b) e added_lt as_steps
        ∙ ap (λ (x : ℕ). bit_xor x e) (xor_shr r b 8 ∙ ap (bit_xor (r / 256)) (div-eq_of_lt hb) ∙ xor_zero_r (r / 256))

    modbus_lt : bit_xor (r / 256) e < 2 ^ 16
    modbus_lt = subst (λ (x : ℕ). x < 2 ^ 16) modbus_byte (steps_lt right 16 modbus_polynomial (lit< tt) 8 (bit_xor r b) added_lt)

-- ---- two bytes a step

-- sixteen steps by the rows: the low byte's entry of the second and the high byte's of the first
abbrev pub by_rows : List (List ℕ) → ℕ → ℕ
by_rows rows x = bit_xor (get_or (get_or rows 1 []) (x % 256) 0) (get_or (get_or rows 0 []) (x / 256) 0)

-- the law of one byte, with eight steps more
sixteen : {rows : List (List ℕ)} → ModbusRows rows → (x : ℕ) → x < 2 ^ 16 → steps right 16 modbus_polynomial 16 x ≡ by_rows rows x
sixteen {rows} t x hx =
    let e = get_or (get_or rows 1 []) (x % 256) 0 in
    let low : e ≡ steps right 16 modbus_polynomial 16 (x % 256) = t.two.entry (x % 256) (mod-lt x (lit< tt)) ∙ sym (many_steps 16 (x % 256)) in
    let high : get_or (get_or rows 0 []) (x / 256) 0 ≡ steps right 16 modbus_polynomial 8 (x / 256) =
    t.one.entry (x / 256) (omega arith) ∙ sym (many_steps 8 (x / 256)) in
    by_entry_on right 16 modbus_polynomial (lit< tt) (lit≤ tt) 8 x e hx low
    ∙ xor_comm (steps right 16 modbus_polynomial 8 (x / 256)) e
    ∙ ap (bit_xor e) (sym high)

pub both_lt : (r a b : ℕ) → r < 2 ^ 16 → a < 256 → b < 256 → bit_xor r (a + b * 256) < 2 ^ 16
both_lt r a b hr ha hb = xor_lt 16 r (a + b * 256) hr (omega arith)

module _ {rows : List (List ℕ)} (t : ModbusRows rows) (r a b : ℕ) (hr : r < 2 ^ 16) (ha : a < 256) (hb : b < 256) where
  -- the second byte enters behind eight steps, or at once, eight places up
  modbus_both : steps right 16 modbus_polynomial 8 (bit_xor (steps right 16 modbus_polynomial 8 (bit_xor r a)) b) ≡ by_rows rows (bit_xor r (a + b * 256))
  modbus_both =
      let sum : bit_xor a (b * 256) ≡ a + b * 256 = xor_comm a (b * 256) ∙ xor_shifted b 8 a ha ∙ add_comm (b * 256) a in
      sym (right_later 16 modbus_polynomial 8 8 (bit_xor r a) b (lit< tt) (xor_lt 16 r a hr (omega arith)) (omega arith))
      ∙ ap (steps right 16 modbus_polynomial 16) (xor_assoc r a (b * 256) ∙ ap (bit_xor r) sum)
      ∙ sixteen t (bit_xor r (a + b * 256)) (both_lt r a b hr ha hb)

  modbus_both_lt : by_rows rows (bit_xor r (a + b * 256)) < 2 ^ 16
  modbus_both_lt =
      subst (λ (x : ℕ). x < 2 ^ 16) (sixteen t (bit_xor r (a + b * 256)) (both_lt r a b hr ha hb))
      (steps_lt right 16 modbus_polynomial (lit< tt) 16 (bit_xor r (a + b * 256)) (both_lt r a b hr ha hb))

-- ---- the check's loop, whichever way it finds the entries

-- before byte i: the register has 16 bits, and gives over the bytes from i on what FFFF gives over all
abbrev pub Running : List ℕ → ℕ → ℕ → Type 0
Running bytes r i = (i ≤ length bytes) × (r < 2 ^ 16) × (modbus_bytes r (drop i bytes) ≡ modbus_bytes 0xFFFF bytes)

pub modbus_turn : (bytes : List ℕ) (i r e : ℕ) → Running bytes r i → i < length bytes → get_or bytes i 0 < 256 → Entry r (get_or bytes i 0) e
    → Running bytes (bit_xor (r / 256) e) (i + 1)
unfolding modbus_bytes
modbus_turn bytes i r e now hi hb is = (
  omega arith,
  modbus_lt r (get_or bytes i 0) e is now.1 hb,
  sym
      (ap (modbus_bytes r) (drop_next bytes i hi) ∙ ap (λ (x : ℕ). modbus_bytes x (drop (i + 1) bytes)) (modbus_byte r (get_or bytes i 0) e is now.1 hb))
      ∙ now.2,
)

-- .. two bytes on, by the rows
pub modbus_two : (bytes : List ℕ) {rows : List (List ℕ)} → ModbusRows rows → (i r : ℕ) → Running bytes r i → i + 1 < length bytes
    → get_or bytes i 0 < 256 → get_or bytes (i + 1) 0 < 256
    → Running bytes (by_rows rows (bit_xor r (get_or bytes i 0 + get_or bytes (i + 1) 0 * 256))) (i + 2)
unfolding modbus_bytes
modbus_two bytes {rows} t i r now hi ha hb =
    let a = get_or bytes i 0 in
    let b = get_or bytes (i + 1) 0 in
    let two : i + 1 + 1 ≡ i + 2 = omega arith in (
      omega arith,
      modbus_both_lt t r a b now.1 ha hb,
      sym
          (ap (modbus_bytes r)
          (drop_next bytes i (omega arith) ∙ ap (λ (l : List ℕ). a ∷ l) (drop_next bytes (i + 1) hi ∙ ap (λ (k : ℕ). b ∷ drop k bytes) two))
          ∙ ap (λ (x : ℕ). modbus_bytes x (drop (i + 2) bytes)) (modbus_both t r a b now.1 ha hb))
          ∙ now.2,
    )

pub modbus_end : (bytes : List ℕ) (i r : ℕ) → Running bytes r i → length bytes ≤ i → r ≡ modbus_check bytes
unfolding modbus_bytes modbus_check
modbus_end bytes i r now end = sym (ap (modbus_bytes r) (drop_of_length-le bytes end)) ∙ now.2
