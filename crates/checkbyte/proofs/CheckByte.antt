-- What a byte does to the eBUS register, by any table that passes the test of crc/proofs/Table.antt, and what an escaped one
-- and two bytes at once do to it.
-- Assumes nothing.
use mathlib.Core.Path.{◌≡◌, refl, sym, ap, ap₂, ◌∙◌, subst}
use mathlib.Core.List.{List, [], ◌∷◌, ◌++◌}
use mathlib.Core.Logic.{◌⊎◌}
use Prim.Native.Nat.{ℕ, zero, suc, ◌+◌, ◌-◌, ◌*◌, ◌≤◌, ◌<◌}
use native.Mathlib.Nat.{mod-one, div-one, mod-eq_of_lt}
use native.Mathlib.Omega.{arith}
use lib.Bits.{bit_xor, xor_lt, xor_comm, xor_shifted}
use lib.Dec.{lit<, lit≤}
use lib.ListN.{length, get_or, replicate, take, drop, drop_of_length-le, length-take, length-drop}
use lib.Seq.{get_or-take, get_or-drop, take_all}
use Rattle.crc.specs.Register.{left, steps, enter, bits}
use Rattle.crc.proofs.Xor.{xor_assoc}
use Rattle.crc.proofs.Register.{steps_xor, enter_spelled, bits_are_bits, spelled_bits}
use Rattle.crc.proofs.Table.{IsTable, entry_lt, by_table}
use Rattle.lists.proofs.Filling.{drop_next}
use Rattle.escapes.specs.Escape.{esc, syn, escaped}
use Rattle.escapes.proofs.Escaped.{escaped_plain, escaped_special}
use Rattle.checkbyte.specs.Check.{ebus_polynomial, ebus_bytes}
use Rattle.checkbyte.specs.BitByBit.{ebus_all, EbusTable, EbusTables, check_from, check_by}
use Rattle.checkbyte.proofs.BitByBit.{ebus_table}

module _ {table : List ℕ} (t : IsTable left 8 ebus_polynomial table) (r b : ℕ) (hr : r < 256) (hb : b < 256) where
  -- the whole register falls out, so eight steps are the lookup alone
  eight_left : steps left 8 ebus_polynomial 8 r ≡ get_or table r 0
  eight_left =
      by_table left 8 ebus_polynomial table t (lit< tt) (lit≤ tt) r hr (omega arith)
      ∙ ap₂ (λ (x y : ℕ). bit_xor (x * 256) (get_or table y 0)) (mod-one r) (div-one r)

  pub ebus_byte : enter 8 ebus_polynomial r (bits 8 b) ≡ bit_xor (get_or table r 0) b
  unfolding bits
  ebus_byte =
      enter_spelled 8 ebus_polynomial r (bits 8 b) (lit< tt) (lit≤ tt) (bits_are_bits 8 b) hr
      ∙ ap₂ bit_xor eight_left (spelled_bits 8 b ∙ mod-eq_of_lt hb)

-- ---- a bit above the register's eight goes through an addition without carry

pub above : (x y : ℕ) → x < 256 → y < 256 → bit_xor x (256 + y) ≡ 256 + bit_xor x y
above x y hx hy =
    ap (bit_xor x) (sym (xor_shifted 1 8 y hy))
    ∙ sym (xor_assoc x 256 y)
    ∙ ap (λ (k : ℕ). bit_xor k y) (xor_comm x 256)
    ∙ xor_assoc 256 x y
    ∙ xor_shifted 1 8 (bit_xor x y) (xor_lt 8 x y hx hy)

-- ---- a byte, by the table that the first 256 entries are

module _ (tables : List ℕ) (t : EbusTable (take 256 tables)) where
  is_table : IsTable left 8 ebus_polynomial (take 256 tables)
  is_table = ebus_table t

  low : (k : ℕ) → k < 256 → get_or (take 256 tables) k 0 ≡ get_or tables k 0
  low k h = get_or-take 256 tables k 0 h

  pub low_lt : (k : ℕ) → k < 256 → get_or tables k 0 < 256
  low_lt k h =
      subst (λ (x : ℕ). x < 256) (low k h) (entry_lt left 8 ebus_polynomial (take 256 tables) is_table (lit< tt) (lit≤ tt) k h)

  -- there are so many
  pub long_enough : 256 ≤ length tables
  long_enough = omega (arith, t.size, length-take 256 tables)

  -- eight steps, by the table
  eight : (k : ℕ) → k < 256 → steps left 8 ebus_polynomial 8 k ≡ get_or tables k 0
  eight k h = eight_left is_table k 0 h (lit< tt) ∙ low k h

  module _ (r b : ℕ) (hr : r < 256) (hb : b < 256) where
    pub one_lt : bit_xor (get_or tables r 0) b < 256
    one_lt = xor_lt 8 (get_or tables r 0) b (low_lt r hr) hb

    pub one_byte : (rest : List ℕ) → ebus_bytes r (b ∷ rest) ≡ ebus_bytes (bit_xor (get_or tables r 0) b) rest
    unfolding ebus_bytes
    one_byte rest = ap (λ (x : ℕ). ebus_bytes x rest) (ebus_byte is_table r b hr hb ∙ ap (λ (x : ℕ). bit_xor x b) (low r hr))

    pub enters_plain : (b ≡ esc → ⊥) → (b ≡ syn → ⊥) → (rest : List ℕ) → ebus_bytes r (escaped b ++ rest) ≡ ebus_bytes (bit_xor (get_or tables r 0) b) rest
    enters_plain no_esc no_syn rest = ap (λ (l : List ℕ). ebus_bytes r (l ++ rest)) (escaped_plain b no_esc no_syn) ∙ one_byte rest

  pub enters_special : (r b : ℕ) → r < 256 → (b ≡ esc) ⊎ (b ≡ syn) → b - esc < 256 → (rest : List ℕ)
      → ebus_bytes r (escaped b ++ rest) ≡ ebus_bytes (bit_xor (get_or tables (bit_xor (get_or tables r 0) esc) 0) (b - esc)) rest
  enters_special r b hr which half rest =
      ap (λ (l : List ℕ). ebus_bytes r (l ++ rest)) (escaped_special b which)
      ∙ one_byte r esc hr (lit< tt) ((b - esc) ∷ rest)
      ∙ one_byte (bit_xor (get_or tables r 0) esc) (b - esc) (one_lt r esc hr (lit< tt)) half rest

-- a table alone is its own start
pub whole_table : (table : List ℕ) → EbusTable table → EbusTable (take 256 table)
whole_table table t = subst EbusTable (sym (take_all 256 table (omega (arith, t.size)))) t

-- ---- two bytes a step, by both tables

module _ {tables : List ℕ} (t : EbusTables tables) where
  pub both_long : 512 ≤ length tables
  both_long = omega (arith, t.two.size, length-drop 256 tables)

  -- sixteen steps are eight tables t.one and then eight tables t.one
  twice : (r : ℕ) → r < 256 → get_or tables (256 + r) 0 ≡ get_or tables (get_or tables r 0) 0
  unfolding ebus_all
  twice r hr =
      let first : ebus_all r (replicate 8 0) ≡ get_or tables r 0 = sym (t.one.entry r hr) ∙ low tables t.one r hr in
      let hx = low_lt tables t.one r hr in
      sym (get_or-drop 256 tables r 0)
      ∙ t.two.entry r hr
      ∙ ap (λ (k : ℕ). ebus_all k (replicate 8 0)) first
      ∙ sym (t.one.entry (get_or tables r 0) hx) ∙ low tables t.one (get_or tables r 0) hx

  pub high_lt : (r : ℕ) → r < 256 → get_or tables (256 + r) 0 < 256
  high_lt r hr = subst (λ (x : ℕ). x < 256) (sym (twice r hr)) (low_lt tables t.one (get_or tables r 0) (low_lt tables t.one r hr))

  module _ (r a b : ℕ) (hr : r < 256) (ha : a < 256) (hb : b < 256) where
    -- the table is linear over xor
    both : get_or tables (bit_xor (get_or tables r 0) a) 0 ≡ bit_xor (get_or tables (256 + r) 0) (get_or tables a 0)
    both =
        let x = get_or tables r 0 in
        let hx : x < 256 = low_lt tables t.one r hr in
        sym (eight tables t.one (bit_xor x a) (xor_lt 8 x a hx ha))
        ∙ steps_xor left 8 ebus_polynomial (lit< tt) 8 x a hx ha
        ∙ ap₂ bit_xor (eight tables t.one x hx ∙ sym (twice r hr)) (eight tables t.one a ha)

    pub two_lt : bit_xor (get_or tables (256 + r) 0) (bit_xor (get_or tables a 0) b) < 256
    two_lt = xor_lt 8 _ _ (high_lt r hr) (one_lt tables t.one a b ha hb)

    pub two_bytes : (rest : List ℕ) → ebus_bytes r (a ∷ b ∷ rest) ≡ ebus_bytes (bit_xor (get_or tables (256 + r) 0) (bit_xor (get_or tables a 0) b)) rest
    two_bytes rest =
        one_byte tables t.one r a hr ha (b ∷ rest)
        ∙ one_byte tables t.one (bit_xor (get_or tables r 0) a) b (one_lt tables t.one r a hr ha) hb rest
        ∙ ap (λ (x : ℕ). ebus_bytes x rest) (ap (λ (x : ℕ). bit_xor x b) both ∙ xor_assoc (get_or tables (256 + r) 0) (get_or tables a 0) b)

-- ---- raw bytes, in which escapes are expanded already, by any two tables

-- one turn of a loop over them, and its end
pub check_pair : (tables raw : List ℕ) (i r : ℕ) → i + 1 < length raw
    → check_from tables r (drop i raw)
    ≡ check_from tables (bit_xor (get_or tables (256 + r) 0) (bit_xor (get_or tables (get_or raw i 0) 0) (get_or raw (i + 1) 0))) (drop (i + 2) raw)
unfolding check_from
check_pair tables raw i r h =
    let two : i + 1 + 1 ≡ i + 2 = omega arith in
    ap (check_from tables r)
    (drop_next raw i (omega arith) ∙ ap (λ (l : List ℕ). get_or raw i 0 ∷ l) (drop_next raw (i + 1) h ∙ ap (λ (k : ℕ). get_or raw (i + 1) 0 ∷ drop k raw) two))

pub check_last : (tables raw : List ℕ) (i r : ℕ) → i < length raw → length raw ≤ i + 1
    → check_from tables r (drop i raw) ≡ bit_xor (get_or tables r 0) (get_or raw i 0)
unfolding check_from
check_last tables raw i r h none =
    ap (check_from tables r) (drop_next raw i h ∙ ap (λ (l : List ℕ). get_or raw i 0 ∷ l) (drop_of_length-le raw none))

pub check_none : (tables raw : List ℕ) (i r : ℕ) → length raw ≤ i → check_from tables r (drop i raw) ≡ r
unfolding check_from
check_none tables raw i r h = ap (check_from tables r) (drop_of_length-le raw h)

abbrev pub Bytes : List ℕ → Type 0
Bytes raw = (i : ℕ) → get_or raw i 0 < 256

-- a part of bytes is bytes
first_bytes : (raw : List ℕ) (n : ℕ) → Bytes raw → Bytes (take n raw)
first_bytes raw zero each i = lit< tt
first_bytes [] (suc n) each i = lit< tt
first_bytes (b ∷ bs) (suc n) each zero = each 0
first_bytes (b ∷ bs) (suc n) each (suc i) = first_bytes bs n (λ (k : ℕ). each (suc k)) i

pub part_bytes : (raw : List ℕ) (from n : ℕ) → Bytes raw → Bytes (take n (drop from raw))
part_bytes raw from n each = first_bytes (drop from raw) n (λ (i : ℕ). subst (λ (x : ℕ). x < 256) (sym (get_or-drop from raw i 0)) (each (from + i)))

-- by the eBUS tables it is the eBUS check
by_register : {tables : List ℕ} → EbusTables tables → (raw : List ℕ) (r : ℕ) → r < 256 → Bytes raw → check_from tables r raw ≡ ebus_bytes r raw
unfolding check_from ebus_bytes
by_register t [] r hr each = refl
by_register {tables} t (b ∷ []) r hr each = sym (one_byte tables t.one r b hr (each 0) [])
by_register {tables} t (a ∷ b ∷ rest) r hr each =
    by_register t rest (bit_xor (get_or tables (256 + r) 0) (bit_xor (get_or tables a 0) b)) (two_lt t r a b hr (each 0) (each 1)) (λ (i : ℕ). each (suc (suc i)))
    ∙ sym (two_bytes t r a b hr (each 0) (each 1) rest)

pub by_ebus_tables : {tables : List ℕ} → EbusTables tables → (raw : List ℕ) → Bytes raw → check_by tables raw ≡ ebus_bytes 0x00 raw
by_ebus_tables t raw each = by_register t raw 0x00 (lit< tt) each
