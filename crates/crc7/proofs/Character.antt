-- What a character does to the register of the CRC7, and one turn of a loop that takes one: the characters from i on enter the register,
-- and what is left starts behind them.
-- Assumes nothing.
use mathlib.Core.Path.{◌≡◌, sym, ap, ◌∙◌, subst}
use mathlib.Core.List.{List, [], ◌∷◌}
use Prim.Native.Nat.{ℕ, suc, ◌+◌, ◌*◌, ◌/◌, ◌%◌, ◌≤◌, ◌<◌}
use native.Mathlib.Omega.{arith}
use lib.Bits.{bit_xor, xor_lt}
use lib.Dec.{lit<}
use lib.ListN.{length, get_or, drop, drop_of_length-le}
use mir.Syntax.{w8, w32}
use mir.Val.{Fits}
use Rattle.lists.proofs.Filling.{drop_next}
use Rattle.crc.specs.Register.{left, steps}
use Rattle.crc.proofs.Register.{steps_lt, steps_more}
use Rattle.crc7.specs.Check.{crc7_polynomial, crc7_bytes, crc7}

-- four steps as the code works them out: the low half of the register one half up, and the high half k at two places
abbrev pub four_steps : ℕ → ℕ → ℕ → ℕ → ℕ → ℕ
four_steps half up a b r = bit_xor (bit_xor (r % half * up) (r / half * a)) (r / half * b)

-- a character, whichever it is, fits the type of the register
pub as_u32 : (x : ℕ) → Fits w8 x → Fits w32 x
as_u32 x h = omega (arith, h)

-- the register after four steps is one of eight bits again
pub steps_byte : (n r : ℕ) → r < 256 → steps left 8 crc7_polynomial n r < 256
steps_byte n r h = steps_lt left 8 crc7_polynomial (lit< tt) n r h

pub added_byte : (r c : ℕ) → r < 256 → c < 256 → bit_xor r c < 256
added_byte r c hr hc = xor_lt 8 r c hr hc

-- twice four steps are eight
pub twice_four : (r : ℕ) → steps left 8 crc7_polynomial 4 (steps left 8 crc7_polynomial 4 r) ≡ steps left 8 crc7_polynomial 8 r
twice_four r = sym (steps_more left 8 crc7_polynomial 4 4 r)

-- ---- the loop

-- i characters were taken and are in the register
pub record Running (characters : List ℕ) (register i : ℕ) : Type 0 where
  pub within : i ≤ length characters
  pub fits : register < 256
  pub rest : crc7_bytes 0 characters ≡ crc7_bytes register (drop i characters)

pub turn : (characters : List ℕ) (i r first next : ℕ) → Running characters r i → i < length characters → get_or characters i 0 < 256
    → first ≡ steps left 8 crc7_polynomial 4 (bit_xor r (get_or characters i 0)) → next ≡ steps left 8 crc7_polynomial 4 first
    → Running characters next (i + 1)
unfolding crc7_bytes
turn characters i r first next running more hc four eight =
    let c = get_or characters i 0 in
    let is : steps left 8 crc7_polynomial 8 (bit_xor r c) ≡ next = sym (eight ∙ ap (steps left 8 crc7_polynomial 4) four ∙ twice_four (bit_xor r c)) in
    record {
      within = omega arith;
      fits = subst (λ (x : ℕ). x < 256) is (steps_byte 8 (bit_xor r c) (added_byte r c running.fits hc));
      rest = running.rest ∙ ap (crc7_bytes r) (drop_next characters i more) ∙ ap (λ (x : ℕ). crc7_bytes x (drop (i + 1) characters)) is;
    }

pub ended : (characters : List ℕ) (i r : ℕ) → Running characters r i → length characters ≤ i → r / 2 ≡ crc7 characters
unfolding crc7_bytes crc7
ended characters i r running over = sym (ap (λ (x : ℕ). x / 2) (running.rest ∙ ap (crc7_bytes r) (drop_of_length-le characters over)))

-- ---- seven bits

pub bytes_lt : (r : ℕ) (characters : List ℕ) → r < 256 → ((i : ℕ) → get_or characters i 0 < 256) → crc7_bytes r characters < 256
unfolding crc7_bytes
bytes_lt r [] hr hc = hr
bytes_lt r (c ∷ cs) hr hc = bytes_lt (steps left 8 crc7_polynomial 8 (bit_xor r c)) cs (steps_byte 8 (bit_xor r c) (added_byte r c hr (hc 0))) (λ i. hc (suc i))

pub crc7_lt : (characters : List ℕ) → ((i : ℕ) → get_or characters i 0 < 256) → crc7 characters < 128
unfolding crc7
crc7_lt characters hc = omega (arith, bytes_lt 0 characters (lit< tt) hc)
