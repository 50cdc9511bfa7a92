-- Laws of xor that lib.Bits does not have: associativity, doubling, and multiples of a bit.
-- Assumes nothing.
use mathlib.Core.Path.{◌≡◌, refl, sym, ap, ap₂, ◌∙◌}
use Prim.Native.Nat.{ℕ, zero, suc, ◌+◌, ◌*◌, ◌/◌, ◌%◌, ◌<◌}
use native.Mathlib.Nat.{mod-lt, zero-mul, add-zero}
use native.Mathlib.Omega.{arith}
use lib.Arith.{bin_ind, digits_mod}
use lib.Bits.{bit_xor, differ, xor_step, xor_shr, xor_comm, xor_self, xor_zero_r, xor_block}
use lib.Dec.{lit<}

-- what holds of 0 and of 1 holds of every bit
pub bit_cases : (P : ℕ → Type 0) → P 0 → P 1 → (x : ℕ) → x < 2 → P x
bit_cases P p0 p1 zero h = p0
bit_cases P p0 p1 (suc zero) h = p1
bit_cases P p0 p1 (suc (suc x)) h = let z : ⊥ = omega arith in absurd z

differ_lt : (x y : ℕ) → x < 2 → y < 2 → differ x y < 2
differ_lt x y hx hy = bit_cases (λ (u : ℕ). differ u y < 2) hy (bit_cases (λ (v : ℕ). differ 1 v < 2) (lit< tt) (lit< tt) y hy) x hx

differ_assoc : (x y z : ℕ) → x < 2 → y < 2 → z < 2 → differ (differ x y) z ≡ differ x (differ y z)
differ_assoc x y z hx hy hz =
    bit_cases (λ (u : ℕ). differ (differ u y) z ≡ differ u (differ y z)) refl
    (bit_cases (λ (v : ℕ). differ (differ 1 v) z ≡ differ 1 (differ v z)) refl (bit_cases (λ (t : ℕ). differ (differ 1 1) t ≡ differ 1 (differ 1 t)) refl refl z hz) y hy)
    x hx

two_pos : zero < 2
two_pos = lit< tt

-- the low digit of a xor
xor_low : (a b : ℕ) → bit_xor a b % 2 ≡ differ (a % 2) (b % 2)
xor_low a b =
    ap (λ (x : ℕ). x % 2) (xor_step a b)
    ∙ digits_mod (bit_xor (a / 2) (b / 2)) (differ_lt (a % 2) (b % 2) (mod-lt a two_pos) (mod-lt b two_pos))

xor_half : (a b : ℕ) → bit_xor a b / 2 ≡ bit_xor (a / 2) (b / 2)
xor_half a b = xor_shr a b 1

join : {r r' c c' : ℕ} → r ≡ r' → c ≡ c' → r * 2 + c ≡ r' * 2 + c'
join p q = ap₂ (λ (x y : ℕ). x * 2 + y) p q

pub xor_assoc : (a b c : ℕ) → bit_xor (bit_xor a b) c ≡ bit_xor a (bit_xor b c)
xor_assoc a =
    bin_ind (λ (n : ℕ). (b c : ℕ) → bit_xor (bit_xor n b) c ≡ bit_xor n (bit_xor b c)) (λ b c. refl)
    (λ n ih b c.
    xor_step (bit_xor n b) c
    ∙ join
    (ap (λ (x : ℕ). bit_xor x (c / 2)) (xor_half n b) ∙ ih (b / 2) (c / 2) ∙ ap (bit_xor (n / 2)) (sym (xor_half b c)))
    (ap (λ (x : ℕ). differ x (c % 2)) (xor_low n b)
    ∙ differ_assoc (n % 2) (b % 2) (c % 2) (mod-lt n two_pos) (mod-lt b two_pos) (mod-lt c two_pos)
    ∙ ap (differ (n % 2)) (sym (xor_low b c)))
    ∙ sym (xor_step n (bit_xor b c)))
    a

-- two sums added part by part
pub xor_medial : (a b c d : ℕ) → bit_xor (bit_xor a b) (bit_xor c d) ≡ bit_xor (bit_xor a c) (bit_xor b d)
xor_medial a b c d =
    xor_assoc a b (bit_xor c d)
    ∙ ap (bit_xor a) (sym (xor_assoc b c d) ∙ ap (λ (x : ℕ). bit_xor x d) (xor_comm b c) ∙ xor_assoc c b d)
    ∙ sym (xor_assoc a c (bit_xor b d))

-- doubling passes through
pub xor_double : (a b : ℕ) → bit_xor a b * 2 ≡ bit_xor (a * 2) (b * 2)
xor_double a b =
    sym
    (ap₂ bit_xor (sym (add-zero (a * 2))) (sym (add-zero (b * 2)))
    ∙ xor_block 1 a b 0 0 (lit< tt) (lit< tt)
    ∙ add-zero (bit_xor a b * 2))

-- a multiple of a bit: the bits add as the multiples do
pub xor_times : (p x y : ℕ) → x < 2 → y < 2 → bit_xor x y * p ≡ bit_xor (x * p) (y * p)
xor_times p x y hx hy =
    bit_cases (λ (u : ℕ). bit_xor u y * p ≡ bit_xor (u * p) (y * p)) (ap (λ (z : ℕ). bit_xor z (y * p)) (sym (zero-mul p)))
    (bit_cases (λ (v : ℕ). bit_xor 1 v * p ≡ bit_xor (1 * p) (v * p))
    (sym (ap (bit_xor (1 * p)) (zero-mul p) ∙ xor_zero_r (1 * p)))
    (zero-mul p ∙ sym (xor_self (1 * p))) y hy)
    x hx
