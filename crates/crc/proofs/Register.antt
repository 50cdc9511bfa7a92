-- Laws of the register step, proved once over direction, width and polynomial: results below 2^w, linearity over
-- xor, and how n steps split into what only moves and what falls out.
-- Assumes nothing.
use mathlib.Core.Path.{◌≡◌, refl, sym, ap, ap₂, ◌∙◌, subst}
use mathlib.Core.List.{List, [], ◌∷◌}
use Prim.Native.Nat.{ℕ, zero, suc, ◌+◌, ◌-◌, ◌*◌, ◌/◌, ◌%◌, ◌^◌, ◌≤◌, ◌<◌}
use native.Mathlib.Nat.{mod-lt, mod-eq_of_lt, div-eq_of_lt, div-le_self, div-lt_iff_lt-mul, zero-mul, zero-add, suc-add, lt_of_le_of_lt, lt_of_lt_of_le, mul_assoc, mul_comm, mul-one, pow-suc, mul-lt-mul_of_pos_right, mod-one}
use native.Mathlib.Numerals.{one-add}
use native.Mathlib.Omega.{arith}
use lib.Bits.{bit_xor, xor_lt, xor_mod, xor_shr, xor_zero_r, xor_comm, xor_shifted, shifted_half, shifted_even}
use lib.Dec.{lit<}
use lib.ListN.{length}
use lib.Pow.{pow-add, pow_pos, split, pow_mono, mod-pow-add, shl_lt}
use Rattle.crc.specs.Register.{Direction, left, right, moved, fallen, step, steps, enter, bits}
use Rattle.crc.proofs.Xor.{bit_cases, xor_assoc, xor_medial, xor_double, xor_times}

-- ---- one step

-- one bit falls out
fallen_bit : (d : Direction) (w r : ℕ) → r < 2 ^ w → fallen d w r < 2
fallen_bit left w r h = (div-lt_iff_lt-mul (pow_pos w)).1 (subst (λ (n : ℕ). r * 2 < n) (mul_comm (2 ^ w) 2) (mul-lt-mul_of_pos_right h (lit< tt)))
fallen_bit right w r h = mod-lt r (lit< tt)

moved_lt : (d : Direction) (w r : ℕ) → r < 2 ^ w → moved d w r < 2 ^ w
moved_lt left w r h = mod-lt (r * 2) (pow_pos w)
moved_lt right w r h = lt_of_le_of_lt (div-le_self r 2) h

times_lt : (p n x : ℕ) → p < n → x < 2 → x * p < n
times_lt p n x hp hx = bit_cases (λ (u : ℕ). u * p < n) (omega arith) (omega arith) x hx

moved_xor : (d : Direction) (w a b : ℕ) → moved d w (bit_xor a b) ≡ bit_xor (moved d w a) (moved d w b)
moved_xor left w a b = ap (λ (x : ℕ). x % 2 ^ w) (xor_double a b) ∙ xor_mod (a * 2) (b * 2) w
moved_xor right w a b = xor_shr a b 1

fallen_xor : (d : Direction) (w a b : ℕ) → fallen d w (bit_xor a b) ≡ bit_xor (fallen d w a) (fallen d w b)
fallen_xor left w a b = ap (λ (x : ℕ). x / 2 ^ w) (xor_double a b) ∙ xor_shr (a * 2) (b * 2) w
fallen_xor right w a b = xor_mod a b 1

module _ (d : Direction) (w p : ℕ) where
  -- where nothing falls out, a step only moves
  pub step_quiet : (r : ℕ) → fallen d w r ≡ 0 → step d w p r ≡ moved d w r
  unfolding step
  step_quiet r e = ap (λ (f : ℕ). bit_xor (moved d w r) (f * p)) e ∙ ap (bit_xor (moved d w r)) (zero-mul p) ∙ xor_zero_r (moved d w r)

  -- a step is linear over xor
  pub step_xor : (a b : ℕ) → a < 2 ^ w → b < 2 ^ w → step d w p (bit_xor a b) ≡ bit_xor (step d w p a) (step d w p b)
  unfolding step
  step_xor a b ha hb =
      ap₂ bit_xor (moved_xor d w a b)
      (ap (λ (f : ℕ). f * p) (fallen_xor d w a b) ∙ xor_times p (fallen d w a) (fallen d w b) (fallen_bit d w a ha) (fallen_bit d w b hb))
      ∙ xor_medial (moved d w a) (moved d w b) (fallen d w a * p) (fallen d w b * p)

  module _ (hp : p < 2 ^ w) where
    -- the result has w bits
    pub step_lt : (r : ℕ) → r < 2 ^ w → step d w p r < 2 ^ w
    unfolding step
    step_lt r h = xor_lt w (moved d w r) (fallen d w r * p) (moved_lt d w r h) (times_lt p (2 ^ w) (fallen d w r) hp (fallen_bit d w r h))

    pub steps_lt : (n r : ℕ) → r < 2 ^ w → steps d w p n r < 2 ^ w
    unfolding steps
    steps_lt zero r h = h
    steps_lt (suc n) r h = steps_lt n (step d w p r) (step_lt r h)

    -- n steps are linear over xor
    pub steps_xor : (n a b : ℕ) → a < 2 ^ w → b < 2 ^ w → steps d w p n (bit_xor a b) ≡ bit_xor (steps d w p n a) (steps d w p n b)
    unfolding steps
    steps_xor zero a b ha hb = refl
    steps_xor (suc n) a b ha hb =
        ap (steps d w p n) (step_xor a b ha hb) ∙ steps_xor n (step d w p a) (step d w p b) (step_lt a ha) (step_lt b hb)

-- n steps and then m more
pub steps_more : (d : Direction) (w p n m r : ℕ) → steps d w p (n + m) r ≡ steps d w p m (steps d w p n r)
unfolding steps
steps_more d w p zero m r = ap (λ (k : ℕ). steps d w p k r) (zero-add m)
steps_more d w p (suc n) m r = ap (λ (k : ℕ). steps d w p k r) (suc-add n m) ∙ steps_more d w p n m (step d w p r)

-- ---- n steps of what does not fall out

-- to the left: a number of k bits, over n places
pub left_quiet : (w p n k r : ℕ) → n + k ≤ w → r < 2 ^ k → steps left w p n r ≡ r * 2 ^ n
unfolding steps
left_quiet w p zero k r room h = sym (mul-one r)
left_quiet w p (suc n) k r room h =
    let double : r * 2 < 2 ^ suc k = subst (λ (x : ℕ). r * 2 < x) (sym (pow-suc 2 k)) (mul-lt-mul_of_pos_right h (lit< tt)) in
    let fits : r * 2 < 2 ^ w = lt_of_lt_of_le double (pow_mono (omega arith)) in
    ap (steps left w p n) (step_quiet left w p r (div-eq_of_lt fits) ∙ mod-eq_of_lt fits)
    ∙ left_quiet w p n (suc k) (r * 2) (omega arith) double
    ∙ mul_assoc r 2 (2 ^ n)
    ∙ ap (λ (x : ℕ). r * x) (mul_comm 2 (2 ^ n) ∙ sym (pow-suc 2 n))

-- to the right: a multiple of 2^n, over n places
pub right_quiet : (w p n h : ℕ) → steps right w p n (h * 2 ^ n) ≡ h
unfolding steps
right_quiet w p zero h = mul-one h
right_quiet w p (suc n) h =
    ap (steps right w p n) (step_quiet right w p (h * 2 ^ suc n) (shifted_even h n) ∙ shifted_half h n) ∙ right_quiet w p n h

-- .. so what is added n places up is added behind n steps
pub right_later : (w p n m r b : ℕ) → p < 2 ^ w → r < 2 ^ w → b * 2 ^ n < 2 ^ w
    → steps right w p (n + m) (bit_xor r (b * 2 ^ n)) ≡ steps right w p m (bit_xor (steps right w p n r) b)
right_later w p n m r b hp hr hb =
    steps_more right w p n m (bit_xor r (b * 2 ^ n))
    ∙ ap (steps right w p m)
    (steps_xor right w p hp n r (b * 2 ^ n) hr hb ∙ ap (bit_xor (steps right w p n r)) (right_quiet w p n b))

-- ---- the split of a register over n places: what falls out, and what only moves

-- the end of the register that falls out within n places, as a number by itself, and where it stands in the register
abbrev pub outgoing : Direction → ℕ → ℕ → ℕ → ℕ
outgoing left w n r = r / 2 ^ (w - n)
outgoing right w n r = r % 2 ^ n

abbrev pub placed : Direction → ℕ → ℕ → ℕ → ℕ
placed left w n x = x * 2 ^ (w - n)
placed right w n x = x

pub placed_lt : (d : Direction) (w n x : ℕ) → n ≤ w → x < 2 ^ n → placed d w n x < 2 ^ w
placed_lt left w n x h hx = subst (λ (k : ℕ). x * 2 ^ (w - n) < 2 ^ k) (omega arith) (shl_lt n (w - n) hx)
placed_lt right w n x h hx = lt_of_lt_of_le hx (pow_mono h)

-- the rest, after it has moved n places
abbrev pub carried : Direction → ℕ → ℕ → ℕ → ℕ
carried left w n r = r % 2 ^ (w - n) * 2 ^ n
carried right w n r = r / 2 ^ n

outgoing_lt : (d : Direction) (w n r : ℕ) → n ≤ w → r < 2 ^ w → outgoing d w n r < 2 ^ n
outgoing_lt left w n r hn hr = (div-lt_iff_lt-mul (pow_pos (w - n))).1 (subst (λ (x : ℕ). r < x) (ap (λ (k : ℕ). 2 ^ k) (omega arith) ∙ pow-add 2 n (w - n)) hr)
outgoing_lt right w n r hn hr = mod-lt r (pow_pos n)

carried_lt : (d : Direction) (w n r : ℕ) → n ≤ w → r < 2 ^ w → carried d w n r < 2 ^ w
carried_lt left w n r hn hr =
    subst (λ (k : ℕ). r % 2 ^ (w - n) * 2 ^ n < 2 ^ k) (omega arith) (shl_lt (w - n) n (mod-lt r (pow_pos (w - n))))
carried_lt right w n r hn hr = lt_of_le_of_lt (div-le_self r (2 ^ n)) hr

pub steps_split : (d : Direction) (w p n r : ℕ) → p < 2 ^ w → n ≤ w → r < 2 ^ w
    → steps d w p n r ≡ bit_xor (carried d w n r) (steps d w p n (placed d w n (outgoing d w n r)))
steps_split left w p n r hp hn hr =
    let k = w - n in
    let low_lt : r % 2 ^ k < 2 ^ k = mod-lt r (pow_pos k) in
    let low_fits : r % 2 ^ k < 2 ^ w = lt_of_lt_of_le low_lt (pow_mono (omega arith)) in
    let whole : bit_xor (r / 2 ^ k * 2 ^ k) (r % 2 ^ k) ≡ r = xor_shifted (r / 2 ^ k) k (r % 2 ^ k) low_lt ∙ split r k in
    let high_fits : r / 2 ^ k * 2 ^ k < 2 ^ w = lt_of_le_of_lt (omega (arith, split r k)) hr in
    ap (steps left w p n) (sym (xor_comm (r % 2 ^ k) (r / 2 ^ k * 2 ^ k) ∙ whole))
    ∙ steps_xor left w p hp n (r % 2 ^ k) (r / 2 ^ k * 2 ^ k) low_fits high_fits
    ∙ ap (λ (x : ℕ). bit_xor x (steps left w p n (r / 2 ^ k * 2 ^ k))) (left_quiet w p n k (r % 2 ^ k) (omega arith) low_lt)
steps_split right w p n r hp hn hr =
    let low_lt : r % 2 ^ n < 2 ^ n = mod-lt r (pow_pos n) in
    let whole : bit_xor (r / 2 ^ n * 2 ^ n) (r % 2 ^ n) ≡ r = xor_shifted (r / 2 ^ n) n (r % 2 ^ n) low_lt ∙ split r n in
    let high_fits : r / 2 ^ n * 2 ^ n < 2 ^ w = lt_of_le_of_lt (omega (arith, split r n)) hr in
    ap (steps right w p n) (sym whole)
    ∙ steps_xor right w p hp n (r / 2 ^ n * 2 ^ n) (r % 2 ^ n) high_fits (lt_of_lt_of_le low_lt (pow_mono hn))
    ∙ ap (λ (x : ℕ). bit_xor x (steps right w p n (r % 2 ^ n))) (right_quiet w p n (r / 2 ^ n))

-- .. and m steps more, which what only moved takes by itself
pub steps_on : (d : Direction) (w p n m r : ℕ) → p < 2 ^ w → n ≤ w → r < 2 ^ w
    → steps d w p (n + m) r ≡ bit_xor (steps d w p m (carried d w n r)) (steps d w p (n + m) (placed d w n (outgoing d w n r)))
steps_on d w p n m r hp hn hr =
    let rest = carried d w n r in
    let out = placed d w n (outgoing d w n r) in
    let out_lt = placed_lt d w n (outgoing d w n r) hn (outgoing_lt d w n r hn hr) in
    steps_more d w p n m r
    ∙ ap (steps d w p m) (steps_split d w p n r hp hn hr)
    ∙ steps_xor d w p hp m rest (steps d w p n out) (carried_lt d w n r hn hr) (steps_lt d w p hp n out out_lt)
    ∙ ap (bit_xor (steps d w p m rest)) (sym (steps_more d w p n m out))

-- ---- bits that enter at the low end

-- the number that bits spell, highest first
abbrev pub spelled : List ℕ → ℕ
spelled [] = 0
spelled (bit ∷ rest) = bit * 2 ^ length rest + spelled rest

abbrev pub Bits : List ℕ → Type 0
Bits [] = Unit {0}
Bits (bit ∷ rest) = (bit < 2) × Bits rest

spelled_lt : (rest : List ℕ) → Bits rest → spelled rest < 2 ^ length rest
spelled_lt [] h = lit< tt
spelled_lt (bit ∷ rest) h =
    let below = spelled_lt rest h.1 in
    subst (λ (x : ℕ). bit * 2 ^ length rest + spelled rest < x) (sym (pow-suc 2 (length rest)))
    (bit_cases (λ (u : ℕ). u * 2 ^ length rest + spelled rest < 2 ^ length rest * 2) (omega arith) (omega arith) bit h.0)

-- n bits entering are n steps, and then the number that they spell
pub enter_spelled : (w p r : ℕ) (rest : List ℕ) → p < 2 ^ w → length rest ≤ w → Bits rest → r < 2 ^ w
    → enter w p r rest ≡ bit_xor (steps left w p (length rest) r) (spelled rest)
unfolding enter steps
enter_spelled w p r [] hp room hb hr = sym (xor_zero_r r)
enter_spelled w p r (bit ∷ rest) hp room hb hr =
    let n = length rest in
    let next = step_lt left w p hp r hr in
    let bit_fits : bit < 2 ^ w = lt_of_lt_of_le hb.0 (pow_mono {i = 1} (omega arith)) in
    enter_spelled w p (bit_xor (step left w p r) bit) rest hp (omega arith) hb.1 (xor_lt w (step left w p r) bit next bit_fits)
    ∙ ap (λ (x : ℕ). bit_xor x (spelled rest)) (steps_xor left w p hp n (step left w p r) bit next bit_fits)
    ∙ xor_assoc (steps left w p n (step left w p r)) (steps left w p n bit) (spelled rest)
    ∙ ap (bit_xor (steps left w p n (step left w p r)))
    (ap (λ (x : ℕ). bit_xor x (spelled rest)) (left_quiet w p n 1 bit (omega arith) hb.0)
    ∙ xor_shifted bit n (spelled rest) (spelled_lt rest hb.1))

-- the n low bits of a number are n bits, and spell its remainder
pub bits_are_bits : (n b : ℕ) → Bits (bits n b)
unfolding bits
bits_are_bits zero b = tt
bits_are_bits (suc n) b = (mod-lt (b / 2 ^ n) (lit< tt), bits_are_bits n b)

pub length_bits : (n b : ℕ) → length (bits n b) ≡ n
unfolding bits
length_bits zero b = refl
length_bits (suc n) b = ap suc (length_bits n b)

pub spelled_bits : (n b : ℕ) → spelled (bits n b) ≡ b % 2 ^ n
unfolding bits
spelled_bits zero b = sym (mod-one b)
spelled_bits (suc n) b =
    ap₂ (λ (k x : ℕ). b / 2 ^ n % 2 * 2 ^ k + x) (length_bits n b) (spelled_bits n b)
    ∙ sym (ap (λ (k : ℕ). b % 2 ^ k) (sym (one-add n)) ∙ mod-pow-add b 1 n)
