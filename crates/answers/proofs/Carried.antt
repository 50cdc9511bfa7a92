-- What the frame of a device found carries, written and read back.
-- Assumes nothing.
use mathlib.Core.Path.{◌≡◌, ap}
use mathlib.Core.List.{List, [], ◌∷◌, ◌++◌}
use Prim.Native.Nat.{ℕ, ◌+◌, ◌*◌, ◌/◌, ◌%◌, ◌<◌}
use native.Mathlib.Omega.{arith}
use lib.ListN.{length, get_or}
use Rattle.answers.specs.Layout.{serial_bytes, found_bytes}
use Rattle.answers.specs.Reading.{serial_of, address_of}

module _ (serial address : ℕ) where
  pub serial_back : serial_of (found_bytes serial address) ≡ serial
  unfolding serial_of serial_bytes found_bytes
  serial_back = joined serial
    where
      joined : (n : ℕ) → ((n / 0x1000000 * 256 + n / 0x10000 % 256) * 256 + n / 0x100 % 256) * 256 + n % 256 ≡ n
      joined n = omega arith

apart : (a b c d : ℕ) → b < 256 → c < 256 → d < 256 → serial_bytes (((a * 256 + b) * 256 + c) * 256 + d) ≡ a ∷ b ∷ c ∷ d ∷ []
unfolding serial_bytes
apart a b c d hb hc hd =
    let n = ((a * 256 + b) * 256 + c) * 256 + d in
    let ea : n / 0x1000000 ≡ a = omega arith in
    let eb : n / 0x10000 % 256 ≡ b = omega arith in
    let ec : n / 0x100 % 256 ≡ c = omega arith in
    let ed : n % 256 ≡ d = omega arith in
    cc

-- five bytes are those of the serial and the address that are read from them
pub carried_exact : (carried : List ℕ) → length carried ≡ 5 → ((k : ℕ) → k < 5 → get_or carried k 0 < 256)
    → found_bytes (serial_of carried) (address_of carried) ≡ carried
unfolding serial_of found_bytes
carried_exact (a ∷ b ∷ c ∷ d ∷ e ∷ []) five bytes =
    ap (λ (l : List ℕ). l ++ e ∷ []) (apart a b c d (bytes 1 (omega arith)) (bytes 2 (omega arith)) (bytes 3 (omega arith)))
carried_exact [] five bytes = absurd (omega arith)
carried_exact (a ∷ []) five bytes = absurd (omega arith)
carried_exact (a ∷ b ∷ []) five bytes = absurd (omega arith)
carried_exact (a ∷ b ∷ c ∷ []) five bytes = absurd (omega arith)
carried_exact (a ∷ b ∷ c ∷ d ∷ []) five bytes = absurd (omega arith)
carried_exact (a ∷ b ∷ c ∷ d ∷ e ∷ f ∷ more) five bytes = absurd (omega arith)
