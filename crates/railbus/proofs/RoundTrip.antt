-- Reading and writing Railbus packets are inverse to each other: the proof of `RailbusPackets`.
-- Assumes nothing.
use Rattle.std.specs.Prelude.{Result, Ok, Err}
use mathlib.Core.Path.{◌≡◌, refl, sym, ap, ap₂, ◌∙◌, subst, subst₂}
use mathlib.Core.Bool.{Bool, true, false, not, ◌&&◌, ◌||◌}
use mathlib.Core.List.{List, [], ◌∷◌, ◌++◌}
use Prim.Native.Nat.{ℕ, zero, suc, ◌+◌, ◌/◌, ◌%◌, ◌^◌, ◌≤◌, ◌<◌}
use native.Mathlib.Nat.{mod-lt}
use native.Mathlib.Omega.{arith}
use lib.Dec.{eqb, leb, ltb}
use lib.ListN.{length, get_or, take, drop, length-append, length-drop, take-append-drop}
use lib.Seq.{length-take-le, take-length}
use borrow.Author.Tests.{le-leb, lt-leb, leb-false, le-ltb, eq-eqb, eqb-true, ltb-false, not-false}
use Rattle.lists.specs.Choice.{pick}
use Rattle.lists.specs.Tests.{all}
use Rattle.lists.proofs.Cases.{both, both_first, both_second}
use Rattle.refusal.specs.declared.Refusal.{Refusal}
use Rattle.framing.specs.Framing.{body, frame, FrameRead, framed, wrong, passed, body_of, check_of, judged, framed_at}
use Rattle.framing.proofs.Framing.{Sound, body_cut, check_cut, sound_judged, long_judged, exact}
use Rattle.crc7.specs.Check.{examined, checksum}
use Rattle.crc7.proofs.Character.{crc7_lt}
use Rattle.railbus.specs.Hex.{is_digit, digit, digits, spelled}
use Rattle.railbus.specs.Layout.{letter_of, is_short, is_long, length_for, railbus_framing, first_of, data_digits, carried_of, packet_body, packet_text, DataRight, Holds}
use Rattle.railbus.specs.Reading.{message_for, packet_of, check_sent, is_examined, check_fails, no_digit_from, found_in, packet_by, read_packet}
use Rattle.railbus.specs.RoundTrip.{RailbusPackets}
use Rattle.railbus.specs.declared.Message.{Message}
use Rattle.railbus.specs.declared.Message.TheVariants.{Bare, With}
use Rattle.railbus.specs.declared.Packet.{Packet}
use Rattle.railbus.proofs.Digits.{digit_most, digits_due, due_behind_lem, pair_due}
use Rattle.railbus.proofs.Spelling.{digit_is, digits_all, spelled_digits, spelled_lt, digits_spelled}
use Rattle.railbus.proofs.Letters.{letter_taken, letter_lt, letter_length, message_back, letter_least, letter_back, data_back}
use Rattle.railbus.proofs.Writer.{length_digits, length_carried, length_body}

-- ---- digits where they are due

-- a test that all of two lists pass, each list alone and both together
all_append : (f : ℕ → Bool) (xs ys : List ℕ) → all f xs ≡ true → all f ys ≡ true → all f (xs ++ ys) ≡ true
unfolding all
all_append f [] ys each more = more
all_append f (x ∷ xs) ys each more = both (both_first (f x) (all f xs) each) (all_append f xs ys (both_second (f x) (all f xs) each) more)

all_parts : (f : ℕ → Bool) (xs ys : List ℕ) → all f (xs ++ ys) ≡ true → (all f xs ≡ true) × (all f ys ≡ true)
unfolding all
all_parts f [] ys each = (refl, each)
all_parts f (x ∷ xs) ys each =
    let rest = all_parts f xs ys (both_second (f x) (all f (xs ++ ys)) each) in
    (both (both_first (f x) (all f (xs ++ ys)) each) rest.0, rest.1)

-- behind the letter
none_wrong : (at : ℕ) (cs : List ℕ) → 4 < at → all is_digit cs ≡ true → no_digit_from at cs ≡ at + length cs
unfolding all no_digit_from
none_wrong at [] h each = omega arith
none_wrong at (c ∷ cs) h each =
    simp (due_behind_lem at h, both_first (is_digit c) (all is_digit cs) each)
    (none_wrong (suc at) cs (omega arith) (both_second (is_digit c) (all is_digit cs) each) ∙ omega arith)

-- .. and in a whole packet
module _ (a b x y letter : ℕ) (cs : List ℕ) where
  abbrev input : List ℕ
  input = a ∷ b ∷ x ∷ y ∷ letter ∷ cs

  digits_right : all is_digit (x ∷ y ∷ []) ≡ true → all is_digit cs ≡ true → no_digit_from 0 input ≡ length input
  unfolding all no_digit_from
  digits_right pair each =
      simp (both_first (is_digit x) (is_digit y && true) pair, both_first (is_digit y) true (both_second (is_digit x) (is_digit y && true) pair))
      (none_wrong 5 cs (omega arith) each ∙ omega arith)

  right_digits : length input ≤ no_digit_from 0 input → (all is_digit (x ∷ y ∷ []) ≡ true) × (all is_digit cs ≡ true)
  right_digits right = (
    pair_due input 2 right (omega arith) refl refl,
    ap (all is_digit) (sym (take-length cs)) ∙ digits_due input 5 (length cs) (omega arith) right (λ i h. due_behind_lem (5 + i) (omega arith)),
  )

-- ---- a packet's checksum is that of bytes

cons_lt : (x : ℕ) (xs : List ℕ) → x < 256 → ((i : ℕ) → get_or xs i 0 < 256) → (i : ℕ) → get_or (x ∷ xs) i 0 < 256
cons_lt x xs h hx zero = h
cons_lt x xs h hx (suc i) = hx i

append_lt : (xs ys : List ℕ) → ((i : ℕ) → get_or xs i 0 < 256) → ((i : ℕ) → get_or ys i 0 < 256) → (i : ℕ) → get_or (xs ++ ys) i 0 < 256
append_lt [] ys hx hy i = hy i
append_lt (x ∷ xs) ys hx hy zero = hx 0
append_lt (x ∷ xs) ys hx hy (suc i) = append_lt xs ys (λ j. hx (suc j)) hy i

digits_lt : (n v i : ℕ) → get_or (digits n v) i 0 < 256
unfolding digits
digits_lt zero v i = omega arith
digits_lt (suc n) v zero =
    let d = v / 16 ^ n % 16 in
    omega (arith, digit_most (digit d) (digit_is d (mod-lt (v / 16 ^ n) (omega arith))).0)
digits_lt (suc n) v (suc i) = digits_lt n v i

data_lt : (m : Message) (i : ℕ) → get_or (data_digits m) i 0 < 256
data_lt (Bare s) i = omega arith
data_lt (With l v) i = digits_lt 8 v i

checksum_lt : (p : Packet) → checksum (packet_body p) < 256
unfolding packet_body
checksum_lt p =
    let letter = letter_of p.message in
    let carried_lt = append_lt (digits 2 p.register) (data_digits p.message) (digits_lt 2 p.register) (data_lt p.message) in
    let from_address = append_lt (digits 2 p.address) (letter ∷ carried_of p) (digits_lt 2 p.address) (cons_lt letter (carried_of p) (letter_lt p.message) carried_lt) in
    let rest = digits 2 p.address ++ letter ∷ carried_of p in
    omega (arith, crc7_lt (packet_body p) (cons_lt 0x52 (0x50 ∷ rest) (omega arith) (cons_lt 0x50 rest (omega arith) from_address)))

-- ---- read back

sound : (p : Packet) → Sound railbus_framing (first_of p) (letter_of p.message) (carried_of p)
unfolding digits passed
sound p =
    record {
      width = refl;
      marked = refl;
      taken = letter_taken p.message;
      fitting = eq-eqb (length (carried_of p) + 7) (length_for (letter_of p.message)) (omega (arith, length_carried p, letter_length p.message));
    }

read_with : (p : Packet) (check : List ℕ) → length check ≡ 2
    → framed_at railbus_framing (packet_body p ++ check) 0 ≡ framed (first_of p) (letter_of p.message) (carried_of p)
unfolding packet_body
read_with p check two =
    let bytes = packet_body p in
    long_judged railbus_framing (bytes ++ check) 0 (omega (arith, length-append bytes check, length_body p))
    ∙ ap₂ (judged railbus_framing 0) (body_cut bytes check two) (check_cut bytes check two)
    ∙ sound_judged railbus_framing (first_of p) (letter_of p.message) (carried_of p) 0 check (sound p) refl

abbrev packet_with : ℕ → ℕ → Message → Packet
packet_with address register message = record { address = address; register = register; message = message }

packet_is : (p : Packet) → Holds p → packet_of (first_of p) (letter_of p.message) (carried_of p) ≡ p
unfolding digits
packet_is p holds =
    ap (packet_with (spelled (digits 2 p.address)) (spelled (digits 2 p.register))) (message_back p.message holds.data_right)
    ∙ ap₂ (λ (a r : ℕ). packet_with a r p.message) (spelled_digits 2 p.address holds.address_right) (spelled_digits 2 p.register holds.register_right)

data_all : (m : Message) → all is_digit (data_digits m) ≡ true
unfolding all
data_all (Bare s) = refl
data_all (With l v) = digits_all 8 v

all_right : (p : Packet) (check : List ℕ) → all is_digit check ≡ true → no_digit_from 0 (packet_body p ++ check) ≡ length (packet_body p ++ check)
unfolding digits packet_body
all_right p check each =
    digits_right 0x52 0x50 (digit (p.address / 16 % 16)) (digit (p.address / 1 % 16)) (letter_of p.message) (carried_of p ++ check) (digits_all 2 p.address)
    (all_append is_digit (carried_of p) check (all_append is_digit (digits 2 p.register) (data_digits p.message) (digits_all 2 p.register) (data_all p.message)) each)

back : (p : Packet) → Holds p → (sum : ℕ) → sum < 256 → (leb examined sum && not (eqb sum (checksum (packet_body p)))) ≡ false
    → read_packet (packet_body p ++ digits 2 sum) ≡ Ok (p, leb examined sum)
unfolding found_in read_packet
back p holds sum small right =
    let check = digits 2 sum in
    let input = packet_body p ++ check in
    let two = length_digits 2 sum in
    let sent : check_sent input ≡ sum = ap spelled (check_cut (packet_body p) check two) ∙ spelled_digits 2 sum small in
    let before : body_of input ≡ packet_body p = body_cut (packet_body p) check two in
    let stand : length input ≤ no_digit_from 0 input = omega (arith, all_right p check (digits_all 2 sum)) in
    ap (packet_by input) (read_with p check two)
    ∙ simp (le-ltb (no_digit_from 0 input) (length input) stand, sent, before, right) (ap (λ (q : Packet). Ok (q, leb examined sum)) (packet_is p holds))

packet_back : (p : Packet) → Holds p → read_packet (packet_text p) ≡ Ok (p, true)
unfolding frame packet_body packet_text
packet_back p holds =
    let sum = checksum (packet_body p) in
    let high : leb examined sum ≡ true = le-leb examined sum (omega arith) in
    back p holds sum (checksum_lt p) (simp (high, eq-eqb sum sum refl)) ∙ ap (λ (b : Bool). Ok (p, b)) high

unchecked_back : (p : Packet) → Holds p → (sum : ℕ) → sum < examined → read_packet (packet_body p ++ digits 2 sum) ≡ Ok (p, false)
unchecked_back p holds sum low =
    let clear : leb examined sum ≡ false = lt-leb examined sum low in
    back p holds sum (omega arith) (simp clear) ∙ ap (λ (b : Bool). Ok (p, b)) clear

-- ---- what is accepted is what would be written

-- the mark and the address of what was read
first_four : (first more : List ℕ) → length first ≡ 4 → passed railbus_framing.marks (first ++ more) ≡ 4 → (x : ℕ) × (y : ℕ) × (first ≡ 0x52 ∷ 0x50 ∷ x ∷ y ∷ [])
unfolding passed
first_four (a ∷ b ∷ x ∷ y ∷ []) more four marked = by (eqb 0x52 a) refl (eqb 0x50 b) refl marked
  where
    by : (t : Bool) → eqb 0x52 a ≡ t → (u : Bool) → eqb 0x50 b ≡ u → pick t (suc (pick u 3 zero)) zero ≡ 4
        → (x' : ℕ) × (y' : ℕ) × (a ∷ b ∷ x ∷ y ∷ [] ≡ 0x52 ∷ 0x50 ∷ x' ∷ y' ∷ [])
    by true is_a true is_b e = (x, y, ap₂ (λ (m n : ℕ). m ∷ n ∷ x ∷ y ∷ []) (sym (eqb-true 0x52 a is_a)) (sym (eqb-true 0x50 b is_b)))
    by true is_a false is_b e = let z : ⊥ = omega arith in absurd z
    by false is_a u is_b e = let z : ⊥ = omega arith in absurd z
first_four [] more four marked = let z : ⊥ = omega arith in absurd z
first_four (a ∷ []) more four marked = let z : ⊥ = omega arith in absurd z
first_four (a ∷ b ∷ []) more four marked = let z : ⊥ = omega arith in absurd z
first_four (a ∷ b ∷ x ∷ []) more four marked = let z : ⊥ = omega arith in absurd z
first_four (a ∷ b ∷ x ∷ y ∷ z ∷ l) more four marked = let z : ⊥ = omega arith in absurd z

-- two digits are those of what they spell, which is a byte
two_spelled : (cs : List ℕ) → length cs ≡ 2 → all is_digit cs ≡ true → (digits 2 (spelled cs) ≡ cs) × (spelled cs < 256)
two_spelled cs two each = (
  ap (λ (n : ℕ). digits n (spelled cs)) (sym two) ∙ digits_spelled 0 cs each,
  subst (λ (n : ℕ). spelled cs < 16 ^ n) two (spelled_lt cs each),
)

abbrev first_with : ℕ → ℕ → List ℕ
first_with x y = 0x52 ∷ 0x50 ∷ x ∷ y ∷ []

abbrev made : ℕ → ℕ → ℕ → List ℕ → Packet
made x y letter carried = packet_of (first_with x y) letter carried

-- parts that are digits where they are due are those of the packet that is made of them
module _ (x y letter : ℕ) (carried : List ℕ) (pair : all is_digit (x ∷ y ∷ []) ≡ true) (each : all is_digit carried ≡ true)
    (takes : (is_short letter || is_long letter) ≡ true) (fits : length carried + 7 ≡ length_for letter) where
  both_digits : (all is_digit (take 2 carried) ≡ true) × (all is_digit (drop 2 carried) ≡ true)
  both_digits = all_parts is_digit (take 2 carried) (drop 2 carried) (ap (all is_digit) (take-append-drop 2 carried) ∙ each)

  address_back : (digits 2 (spelled (x ∷ y ∷ [])) ≡ x ∷ y ∷ []) × (spelled (x ∷ y ∷ []) < 256)
  address_back = two_spelled (x ∷ y ∷ []) refl pair

  register_back : (digits 2 (spelled (take 2 carried)) ≡ take 2 carried) × (spelled (take 2 carried) < 256)
  register_back = two_spelled (take 2 carried) (length-take-le 2 carried (omega (arith, letter_least letter))) both_digits.0

  data_digits_lem : (data_digits (message_for letter (spelled (drop 2 carried))) ≡ drop 2 carried) × DataRight (message_for letter (spelled (drop 2 carried)))
  data_digits_lem = data_back letter (drop 2 carried) (omega (arith, length-drop 2 carried, letter_least letter)) both_digits.1

  made_holds : Holds (made x y letter carried)
  made_holds = record { address_right = address_back.1; register_right = register_back.1; data_right = data_digits_lem.1 }

  made_body : packet_body (made x y letter carried) ≡ body (first_with x y) letter carried
  unfolding packet_body
  made_body =
      ap (λ (a : List ℕ). 0x52 ∷ 0x50 ∷ (a ++ letter_of (made x y letter carried).message ∷ carried_of (made x y letter carried))) address_back.0
      ∙ ap₂ (body (first_with x y)) (letter_back letter (spelled (drop 2 carried)) takes) (ap₂ ◌++◌ register_back.0 data_digits_lem.0 ∙ take-append-drop 2 carried)

-- what was read, and the checksum that it was read with
record Read (input : List ℕ) (p : Packet) (checked : Bool) : Type 0 where
  pub holds : Holds p
  pub sum : ℕ
  pub whole : input ≡ packet_body p ++ digits 2 sum
  pub asked : leb examined sum ≡ checked
  pub right : (checked && not (eqb sum (checksum (packet_body p)))) ≡ false

read_made : (x y letter : ℕ) (carried check : List ℕ) → length check ≡ 2 → (is_short letter || is_long letter) ≡ true → length carried + 7 ≡ length_for letter
    → length (body (first_with x y) letter carried ++ check) ≤ no_digit_from 0 (body (first_with x y) letter carried ++ check)
    → check_fails (body (first_with x y) letter carried ++ check) ≡ false
    → Read (body (first_with x y) letter carried ++ check) (made x y letter carried) (is_examined (body (first_with x y) letter carried ++ check))
read_made x y letter carried check two takes fits stand passes =
    let bytes = body (first_with x y) letter carried in
    let are_digits = right_digits 0x52 0x50 x y letter (carried ++ check) stand in
    let parts = all_parts is_digit carried check are_digits.1 in
    let is_Is_body = made_body x y letter carried are_digits.0 parts.0 takes fits in
    let is_check : check_of (bytes ++ check) ≡ check = check_cut bytes check two in
    record {
      holds = made_holds x y letter carried are_digits.0 parts.0 takes fits;
      sum = spelled check;
      whole = sym (ap₂ ◌++◌ is_Is_body (two_spelled check two parts.1).0);
      asked = ap (λ (l : List ℕ). leb examined (spelled l)) (sym is_check);
      right =
          ap₂ (λ (l b : List ℕ). is_examined (bytes ++ check) && not (eqb (spelled l) (checksum b))) (sym is_check) (is_Is_body ∙ sym (body_cut bytes check two))
          ∙ passes;
    }

-- a test that refuses has failed where a packet is found
found_on : (t : Bool) (why : Refusal) (rest : Result (Packet × Bool) Refusal) (p : Packet) (checked : Bool) → pick t (Err why) rest ≡ Ok (p, checked) → (t ≡ false) × (rest ≡ Ok (p, checked))
found_on true why rest p checked e = let z : ◌≡◌ {A = ℕ} 0 1 = cc in absurd (omega arith)
found_on false why rest p checked e = (refl, e)

-- an answer names its packet, and whether its checksum was examined
answer_parts : (q p : Packet) (asked checked : Bool) → ◌≡◌ {A = Result (Packet × Bool) Refusal} (Ok (q, asked)) (Ok (p, checked)) → (q ≡ p) × (asked ≡ checked)
answer_parts q p asked checked e =
    let same : ◌≡◌ {A = Packet × Bool} (q, asked) (p, checked) = cc in
    (ap (λ (x : Packet × Bool). x.0) same, ap (λ (x : Packet × Bool). x.1) same)

read_exact : (input : List ℕ) (p : Packet) (checked : Bool) → read_packet input ≡ Ok (p, checked) → Read input p checked
unfolding found_in read_packet
read_exact input p checked e = by (framed_at railbus_framing input 0) refl e
  where
    by : (r : FrameRead) → framed_at railbus_framing input 0 ≡ r → packet_by input r ≡ Ok (p, checked) → Read input p checked
    by (framed first letter carried) read e =
        let stands = exact railbus_framing (omega arith) input 0 first letter carried read in
        let marked = first_four first (letter ∷ carried) stands.sound.width stands.sound.marked in
        let x = marked.0 in
        let y = marked.1 in
        let text = body (first_with x y) letter carried ++ check_of input in
        let is_text : input ≡ text = stands.rest ∙ ap (λ (l : List ℕ). body l letter carried ++ check_of input) marked.2 in
        let p0 = found_on (ltb (no_digit_from 0 input) (length input)) _ _ p checked e in
        let p1 = found_on (check_fails input) _ _ p checked p0.1 in
        let found = answer_parts (packet_of first letter carried) p (is_examined input) checked p1.1 in
        let stand : length text ≤ no_digit_from 0 text = subst (λ (l : List ℕ). length l ≤ no_digit_from 0 l) is_text (ltb-false (no_digit_from 0 input) (length input) p0.0) in
        let was_read = read_made x y letter carried (check_of input) stands.two stands.sound.taken
        (eqb-true (length carried + 7) (length_for letter) stands.sound.fitting) stand (ap check_fails (sym is_text) ∙ p1.0) in
        subst (λ (l : List ℕ). Read l p checked) (sym is_text)
        (subst₂ (λ (q : Packet) (b : Bool). Read text q b) (ap (λ (l : List ℕ). packet_of l letter carried) (sym marked.2) ∙ found.0) (ap is_examined (sym is_text) ∙ found.1) was_read)
    by (wrong why) read e = let z : ◌≡◌ {A = ℕ} 0 1 = cc in absurd (omega arith)

packet_exact : (input : List ℕ) (p : Packet) → read_packet input ≡ Ok (p, true) → Holds p × (input ≡ packet_text p)
unfolding frame packet_body packet_text
packet_exact input p e =
    let r = read_exact input p true e in
    let same : r.sum ≡ checksum (packet_body p) = eqb-true r.sum (checksum (packet_body p)) (not-false (eqb r.sum (checksum (packet_body p))) r.right) in
    (r.holds, r.whole ∙ ap (λ (n : ℕ). packet_body p ++ digits 2 n) same)

unchecked_exact : (input : List ℕ) (p : Packet) → read_packet input ≡ Ok (p, false)
    → Holds p × ((sum : ℕ) × (sum < examined) × (input ≡ packet_body p ++ digits 2 sum))
unchecked_exact input p e =
    let r = read_exact input p false e in
    (r.holds, (r.sum, leb-false examined r.sum r.asked, r.whole))

pub railbus_packets : RailbusPackets
railbus_packets =
    record {
      packet_back = packet_back;
      unchecked_back = unchecked_back;
      packet_exact = packet_exact;
      unchecked_exact = unchecked_exact;
    }
