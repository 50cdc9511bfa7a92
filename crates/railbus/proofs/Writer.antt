-- The text of a packet as the writer puts it down: its digits with the code's numbers, and how long it is.
-- Assumes nothing.
use Rattle.std.specs.Prelude.{Result}
use Rattle.refusal.specs.declared.Refusal.{Refusal}
use mathlib.Core.Path.{◌≡◌, refl, sym, ap, ap₂, ◌∙◌}
use mathlib.Core.List.{List, [], ◌∷◌, ◌++◌}
use Prim.Native.Nat.{ℕ, zero, suc, ◌+◌, ◌/◌, ◌%◌, ◌^◌, ◌≤◌, ◌<◌}
use native.Mathlib.Omega.{arith}
use mathlib.Mathlib.Logic.Function.Defs.{id}
use lib.ListN.{length, get_or, set, take, length-append}
use Rattle.lists.specs.Starting.{starting}
use Rattle.lists.proofs.Filling.{put_whole}
use Rattle.refusal.specs.Output.{bytes, fitting, Wrote}
use Rattle.refusal.proofs.Writer.{wrote_same}
use Rattle.framing.specs.Framing.{frame}
use Rattle.framing.proofs.CheckBehind.{two_behind}
use Rattle.crc7.specs.Check.{checksum}
use Rattle.railbus.specs.Hex.{digit, digits}
use Rattle.railbus.specs.Layout.{letter_of, check_digits, first_of, data_digits, carried_of, packet_body, packet_text}
use Rattle.railbus.specs.Writing.{write_packet}
use Rattle.railbus.specs.declared.Message.{Message}
use Rattle.railbus.specs.declared.Message.TheVariants.{Bare, With}
use Rattle.railbus.specs.declared.Packet.{Packet}

-- ---- digits

pub length_digits : (n v : ℕ) → length (digits n v) ≡ n
unfolding digits
length_digits zero v = refl
length_digits (suc n) v = ap suc (length_digits n v)

-- a byte
pub byte_digits : (b : ℕ) → b < 256 → digits 2 b ≡ digit (b / 16) ∷ digit (b % 16) ∷ []
unfolding digits
byte_digits b h =
    let high : b / 16 % 16 ≡ b / 16 = omega arith in
    let low : b / 1 % 16 ≡ b % 16 = omega arith in
    ap₂ (λ (x y : ℕ). digit x ∷ digit y ∷ []) high low

-- 32 bits
pub word_digits : (v : ℕ) → v < 2 ^ 32
    → digits 8 v
    ≡ digit (v / 0x10000000) ∷ digit (v / 0x1000000 % 16) ∷ digit (v / 0x100000 % 16) ∷ digit (v / 0x10000 % 16)
    ∷ digit (v / 0x1000 % 16) ∷ digit (v / 0x100 % 16) ∷ digit (v / 0x10 % 16) ∷ digit (v % 16) ∷ []
unfolding digits
word_digits v h =
    let high : v / 0x10000000 % 16 ≡ v / 0x10000000 = omega arith in
    let low : v / 1 % 16 ≡ v % 16 = omega arith in
    ap₂
    (λ (x y : ℕ). digit x ∷ digit (v / 0x1000000 % 16) ∷ digit (v / 0x100000 % 16) ∷ digit (v / 0x10000 % 16)
    ∷ digit (v / 0x1000 % 16) ∷ digit (v / 0x100 % 16) ∷ digit (v / 0x10 % 16) ∷ digit y ∷ [])
    high low

-- seven characters one by one, and more behind them
seven_then : (head more : List ℕ) → length head ≡ 7
    → get_or head 0 0 ∷ get_or head 1 0 ∷ get_or head 2 0 ∷ get_or head 3 0 ∷ get_or head 4 0 ∷ get_or head 5 0 ∷ get_or head 6 0 ∷ more ≡ head ++ more
seven_then (a ∷ b ∷ c ∷ d ∷ e ∷ f ∷ g ∷ []) more seven = refl
seven_then (a ∷ b ∷ c ∷ d ∷ e ∷ f ∷ g ∷ h ∷ l) more seven = let z : ⊥ = omega arith in absurd z
seven_then (a ∷ b ∷ c ∷ d ∷ e ∷ f ∷ []) more seven = let z : ⊥ = omega arith in absurd z
seven_then (a ∷ b ∷ c ∷ d ∷ e ∷ []) more seven = let z : ⊥ = omega arith in absurd z
seven_then (a ∷ b ∷ c ∷ d ∷ []) more seven = let z : ⊥ = omega arith in absurd z
seven_then (a ∷ b ∷ c ∷ []) more seven = let z : ⊥ = omega arith in absurd z
seven_then (a ∷ b ∷ []) more seven = let z : ⊥ = omega arith in absurd z
seven_then (a ∷ []) more seven = let z : ⊥ = omega arith in absurd z
seven_then [] more seven = let z : ⊥ = omega arith in absurd z

-- seven characters and then the code's digits of 32 bits
pub long_is : (head : List ℕ) (v a b c d e f g h : ℕ) → length head ≡ 7 → v < 2 ^ 32
    → a ≡ digit (v / 0x10000000) → b ≡ digit (v / 0x1000000 % 16) → c ≡ digit (v / 0x100000 % 16) → d ≡ digit (v / 0x10000 % 16)
    → e ≡ digit (v / 0x1000 % 16) → f ≡ digit (v / 0x100 % 16) → g ≡ digit (v / 0x10 % 16) → h ≡ digit (v % 16)
    → get_or head 0 0 ∷ get_or head 1 0 ∷ get_or head 2 0 ∷ get_or head 3 0 ∷ get_or head 4 0 ∷ get_or head 5 0 ∷ get_or head 6 0 ∷ a ∷ b ∷ c ∷ d ∷ e ∷ f ∷ g ∷ h ∷ [] ≡ head ++ digits 8 v
long_is head v a b c d e f g h seven small is_a is_b is_c is_d is_e is_f is_g is_h =
    seven_then head (a ∷ b ∷ c ∷ d ∷ e ∷ f ∷ g ∷ h ∷ []) seven ∙ simp (word_digits v small, is_a, is_b, is_c, is_d, is_e, is_f, is_g, is_h)

-- ---- the checksum behind the characters

pub length_checked : (characters : List ℕ) → length (characters ++ check_digits characters) ≡ length characters + 2
length_checked characters =
    length-append characters (check_digits characters) ∙ ap (λ (n : ℕ). length characters + n) (length_digits 2 (checksum characters))

-- the output after the characters were put at its start, and then each digit of their checksum
pub check_behind : (characters old out : List ℕ) (sum high low : ℕ) → out ≡ starting (take (length old) characters) old
    → sum ≡ checksum characters → sum < 256 → high ≡ digit (sum / 16) → low ≡ digit (sum % 16) → length characters + 2 ≤ length old
    → set (set out (length characters) high) (length characters + 1) low ≡ starting (characters ++ check_digits characters) old
check_behind characters old out sum high low put right small is_high is_low room =
    ap (λ (l : List ℕ). set (set l (length characters) high) (length characters + 1) low) (put ∙ put_whole characters old (omega arith))
    ∙ two_behind characters old high low room
    ∙ ap (λ (l : List ℕ). starting (characters ++ l) old)
    (ap₂ (λ (x y : ℕ). x ∷ y ∷ []) is_high is_low ∙ sym (byte_digits sum small) ∙ ap (digits 2) right)

-- what was written with the checksum behind it, under another name
pub checked_wrote : (characters characters' : List ℕ) (r : Result ℕ Refusal) (old new : List ℕ)
    → Wrote id (fitting (length old) (bytes (characters ++ check_digits characters))) r old new → characters ≡ characters'
    → Wrote id (fitting (length old) (bytes (characters' ++ check_digits characters'))) r old new
checked_wrote characters characters' r old new wrote is =
    wrote_same (bytes (characters ++ check_digits characters)) (bytes (characters' ++ check_digits characters')) (length old) old new r
    (ap (λ (l : List ℕ). bytes (l ++ check_digits l)) is) wrote

-- ---- a packet

-- all before the checksum, with the code's digits: mark, address, letter and register, and then the data
pub body_is : (p : Packet) (message : Message) (a b letter c d : ℕ) → p.address < 256 → p.register < 256 → p.message ≡ message
    → a ≡ digit (p.address / 16) → b ≡ digit (p.address % 16) → letter ≡ letter_of p.message
    → c ≡ digit (p.register / 16) → d ≡ digit (p.register % 16)
    → 0x52 ∷ 0x50 ∷ a ∷ b ∷ letter ∷ c ∷ d ∷ data_digits message ≡ packet_body p
unfolding packet_body
body_is p message a b letter c d address register is_message is_a is_b is_letter is_c is_d =
    simp (is_a, is_b, is_letter, is_c, is_d, ← is_message, byte_digits p.address address, byte_digits p.register register)

-- .. and so for the whole packet
pub packet_wrote : (p : Packet) (characters : List ℕ) (r : Result ℕ Refusal) (old new : List ℕ)
    → Wrote id (fitting (length old) (bytes (characters ++ check_digits characters))) r old new → characters ≡ packet_body p
    → Wrote id (write_packet p (length old)) r old new
unfolding frame packet_body packet_text write_packet
packet_wrote p characters r old new wrote is = checked_wrote characters (packet_body p) r old new wrote is

-- how long it is
length_data : (message : Message) → length (data_digits message) ≤ 8
length_data (Bare short) = omega arith
length_data (With long value) = omega (arith, length_digits 8 value)

pub length_carried : (p : Packet) → length (carried_of p) ≡ 2 + length (data_digits p.message)
length_carried p =
    length-append (digits 2 p.register) (data_digits p.message) ∙ ap (λ (n : ℕ). n + length (data_digits p.message)) (length_digits 2 p.register)

pub length_body : (p : Packet) → length (packet_body p) ≡ 7 + length (data_digits p.message)
unfolding packet_body
length_body p =
    omega (arith, length-append (first_of p) (letter_of p.message ∷ carried_of p), length_digits 2 p.address, length_carried p)

pub packet_length : (p : Packet) → length (packet_text p) ≤ 17
unfolding frame packet_body packet_text
packet_length p = omega (arith, length_checked (packet_body p), length_body p, length_data p.message)
