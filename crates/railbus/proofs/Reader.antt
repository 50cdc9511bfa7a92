-- Each outcome of the reader, by the characters of the input that lead to it, in the order of the refusals.
-- Assumes nothing.
use Rattle.std.specs.Prelude.{Ok, Err}
use mathlib.Core.Path.{◌≡◌, refl, sym, ap, ap₂, ◌∙◌, subst}
use mathlib.Core.Bool.{Bool, true, false, not, ◌&&◌, ◌||◌}
use mathlib.Core.List.{List, [], ◌∷◌}
use Prim.Native.Nat.{ℕ, suc, ◌+◌, ◌-◌, ◌≤◌, ◌<◌}
use native.Mathlib.Omega.{arith}
use lib.Dec.{eqb, leb}
use lib.ListN.{length, get_or, take, drop, length-drop}
use lib.Seq.{length-take-le, take_all, take-take}
use borrow.Author.Tests.{eq-eqb, ne_eqb, lt-ltb, le-ltb}
use Rattle.lists.specs.Tests.{all}
use Rattle.lists.proofs.Cases.{pick_cases}
use Rattle.lists.proofs.Filling.{drop_next}
use Rattle.refusal.specs.Number.{frame_length, frame_head, subcommand_wrong, frame_check, digit_wrong, at_place}
use Rattle.framing.specs.Framing.{passed, body_of, check_of, judged}
use Rattle.framing.proofs.Framing.{short_refused, long_judged}
use Rattle.crc7.specs.Check.{examined, checksum}
use Rattle.railbus.specs.Hex.{is_digit, spelled}
use Rattle.railbus.specs.Layout.{is_short, is_long, length_for, railbus_framing}
use Rattle.railbus.specs.Reading.{due, message_for, check_fails, no_digit_from, found_in, packet_by, read_packet}
use Rattle.railbus.specs.declared.Packet.{Packet}
use Rattle.railbus.proofs.Digits.{digits_due, pair_due, due_behind_lem}

-- no packet is shorter than nine characters
pub length_least : (letter : ℕ) (input : List ℕ) → length input ≡ length_for letter → 9 ≤ length input
length_least letter input fills =
    subst (λ (n : ℕ). 9 ≤ n) (sym fills) (pick_cases (λ (n : ℕ). 9 ≤ n) (is_short letter) 9 17 (λ t. omega arith) (λ t. omega arith))

-- what the checksum is taken over: all before a place, from the mark on
pub from_mark : (place : ℕ) (input : List ℕ) → take (place - 0) (drop 0 input) ≡ take place input
from_mark place input =
    let all : place - 0 ≡ place = omega arith in
    ap (λ (n : ℕ). take n input) all

-- ---- a packet with data

module _ (letter : ℕ) (input : List ℕ) (fills : length input ≡ length_for letter) (long : is_short letter ≡ false) where
  seventeen : length input ≡ 17
  seventeen = fills ∙ simp long

  pub data_digits_lem : length input ≤ no_digit_from 0 input → (15 ≤ length input) × (all is_digit (take 8 (drop 7 input)) ≡ true)
  data_digits_lem right =
      let room : 15 ≤ length input = omega (arith, seventeen) in
      (room, digits_due input 7 8 room right (λ i h. due_behind_lem (7 + i) (omega arith)))

  pub data_said : message_for letter (spelled (take 8 (drop 7 input))) ≡ message_for letter (spelled (take (length input - 9) (drop 7 input)))
  data_said =
      let eight : 8 ≡ length input - 9 = omega (arith, seventeen) in
      ap (λ (n : ℕ). message_for letter (spelled (take n (drop 7 input)))) eight

-- ---- the framing's refusals

-- register and data
abbrev carried_in : List ℕ → List ℕ
carried_in input = take (length input - 7) (drop 5 input)

pub read_short : (input : List ℕ) → length input < 9 → read_packet input ≡ Err (at_place frame_length 0)
unfolding read_packet
read_short input short = ap (packet_by input) (short_refused railbus_framing input 0 (omega arith))

module _ (input : List ℕ) (long : 9 ≤ length input) where
  abbrev letter : ℕ
  letter = get_or input 4 0

  begins : input ≡ get_or input 0 0 ∷ get_or input 1 0 ∷ get_or input 2 0 ∷ get_or input 3 0 ∷ letter ∷ drop 5 input
  begins =
      drop_next input 0 (omega arith)
      ∙ ap (λ (l : List ℕ). get_or input 0 0 ∷ l) (drop_next input 1 (omega arith)
      ∙ ap (λ (l : List ℕ). get_or input 1 0 ∷ l) (drop_next input 2 (omega arith)
      ∙ ap (λ (l : List ℕ). get_or input 2 0 ∷ l) (drop_next input 3 (omega arith)
      ∙ ap (λ (l : List ℕ). get_or input 3 0 ∷ l) (drop_next input 4 (omega arith)))))

  body_is : body_of input ≡ get_or input 0 0 ∷ get_or input 1 0 ∷ get_or input 2 0 ∷ get_or input 3 0 ∷ letter ∷ carried_in input
  body_is =
      let size : length input - 2 ≡ suc (suc (suc (suc (suc (length input - 7))))) = omega arith in
      ap₂ take size begins

  carried_length : length (carried_in input) ≡ length input - 7
  carried_length = length-take-le (length input - 7) (drop 5 input) (omega (arith, length-drop 5 input))

  opened : read_packet input
      ≡ packet_by input (judged railbus_framing 0 (get_or input 0 0 ∷ get_or input 1 0 ∷ get_or input 2 0 ∷ get_or input 3 0 ∷ letter ∷ carried_in input) (check_of input))
  unfolding read_packet
  opened =
      ap (packet_by input)
      (long_judged railbus_framing input 0 (omega arith) ∙ ap (λ (bytes : List ℕ). judged railbus_framing 0 bytes (check_of input)) body_is)

  pub read_first : (get_or input 0 0 ≡ 0x52 → ⊥) → read_packet input ≡ Err (at_place frame_head 0)
  unfolding judged passed
  read_first other = opened ∙ simp (ne_eqb 0x52 (get_or input 0 0) (λ e. other (sym e)))

  module _ (first : get_or input 0 0 ≡ 0x52) where
    pub read_second : (get_or input 1 0 ≡ 0x50 → ⊥) → read_packet input ≡ Err (at_place frame_head 1)
    unfolding judged passed
    read_second other = opened ∙ simp (eq-eqb 0x52 (get_or input 0 0) (sym first), ne_eqb 0x50 (get_or input 1 0) (λ e. other (sym e)))

    module _ (second : get_or input 1 0 ≡ 0x50) where
      pub read_letter : (is_short letter || is_long letter) ≡ false → read_packet input ≡ Err (at_place subcommand_wrong 4)
      unfolding judged passed
      read_letter refuses = opened ∙ simp (eq-eqb 0x52 (get_or input 0 0) (sym first), eq-eqb 0x50 (get_or input 1 0) (sym second), refuses)

      module _ (takes : (is_short letter || is_long letter) ≡ true) where
        pub read_length : (length input ≡ length_for letter → ⊥) → read_packet input ≡ Err (at_place frame_length 0)
        unfolding judged passed
        read_length other =
            opened
            ∙ simp (
              eq-eqb 0x52 (get_or input 0 0) (sym first),
              eq-eqb 0x50 (get_or input 1 0) (sym second),
              takes,
              ne_eqb (length (carried_in input) + 7) (length_for letter) (λ e. other (omega (arith, carried_length, e))),
            )

        pub read_framed : length input ≡ length_for letter → read_packet input ≡ found_in input (take 4 input) letter (carried_in input)
        unfolding judged passed
        read_framed fills =
            opened
            ∙ (simp (
              eq-eqb 0x52 (get_or input 0 0) (sym first),
              eq-eqb 0x50 (get_or input 1 0) (sym second),
              takes,
              eq-eqb (length (carried_in input) + 7) (length_for letter) (omega (arith, carried_length)),
            ))
            ∙ ap (λ (l : List ℕ). found_in input l letter (carried_in input)) (sym (ap (take 4) begins))

-- ---- a packet whose mark, letter and length are right

-- its numbers, where they stand
address_part : (input : List ℕ) → drop 2 (take 4 input) ≡ take 2 (drop 2 input)
address_part [] = refl
address_part (a ∷ []) = refl
address_part (a ∷ b ∷ input) = refl

module _ (input : List ℕ) (long : 9 ≤ length input) where
  register_part : take 2 (carried_in input) ≡ take 2 (drop 5 input)
  register_part = take-take 2 (length input - 7) (drop 5 input) (omega arith)

  data_part : drop 2 (carried_in input) ≡ take (length input - 9) (drop 7 input)
  data_part =
      let size : length input - 7 ≡ suc (suc (length input - 9)) = omega arith in
      ap₂ (λ (n : ℕ) (l : List ℕ). drop 2 (take n l)) size
      (drop_next input 5 (omega arith) ∙ ap (λ (l : List ℕ). get_or input 5 0 ∷ l) (drop_next input 6 (omega arith)))

abbrev made : ℕ → List ℕ → List ℕ → List ℕ → Packet
made letter address register value =
    record { address = spelled address; register = spelled register; message = message_for letter (spelled value) }

pub found_digit : (letter : ℕ) (input : List ℕ) (place : ℕ) → place ≡ no_digit_from 0 input → place < length input
    → found_in input (take 4 input) letter (carried_in input) ≡ Err (at_place digit_wrong place)
unfolding found_in
found_digit letter input place is amiss = simp (sym is, lt-ltb place (length input) amiss)

-- where the search for a wrong one ended behind the packet
module _ (letter : ℕ) (input : List ℕ) (fills : length input ≡ length_for letter) (place : ℕ) (is : place ≡ no_digit_from 0 input) (none : length input ≤ place) where
  pub all_right : length input ≤ no_digit_from 0 input
  all_right = subst (λ (n : ℕ). length input ≤ n) is none

  pub pair_fixed : (at : ℕ) → at + 2 ≤ 9 → due at ≡ true → due (at + 1) ≡ true → all is_digit (take 2 (drop at input)) ≡ true
  pair_fixed at early first second = pair_due input at all_right (omega (arith, length_least letter input fills)) first second

  pub pair_last : all is_digit (take 2 (drop (length input - 2) input)) ≡ true
  pair_last =
      let long = length_least letter input fills in
      pair_due input (length input - 2) all_right (omega arith) (due_behind_lem (length input - 2) (omega arith)) (due_behind_lem (length input - 2 + 1) (omega arith))

  -- the number that the last two digits spell
  module _ (sent : ℕ) (stands : sent ≡ spelled (take 2 (drop (length input - 2) input))) where
    abbrev fails : Bool
    fails = leb examined sent && not (eqb sent (checksum (take (length input - 2) input)))

    sent_is : sent ≡ spelled (check_of input)
    sent_is =
        stands ∙ ap (λ (l : List ℕ). spelled l) (take_all 2 (drop (length input - 2) input) (omega (arith, length-drop (length input - 2) input)))

    fails_is : check_fails input ≡ fails
    fails_is = ap (λ (n : ℕ). leb examined n && not (eqb n (checksum (take (length input - 2) input)))) (sym sent_is)

    pub found_check : fails ≡ true → found_in input (take 4 input) letter (carried_in input) ≡ Err (at_place frame_check (length input - 2))
    unfolding found_in
    found_check t = simp (le-ltb (no_digit_from 0 input) (length input) all_right, fails_is ∙ t)

    pub found_packet : fails ≡ false
        → found_in input (take 4 input) letter (carried_in input)
        ≡ Ok (made letter (take 2 (drop 2 input)) (take 2 (drop 5 input)) (take (length input - 9) (drop 7 input)), leb examined sent)
    unfolding found_in
    found_packet t =
        let long = length_least letter input fills in
        (simp (le-ltb (no_digit_from 0 input) (length input) all_right, fails_is ∙ t))
        ∙ ap₂ (λ (q : Packet) (b : Bool). Ok (q, b))
        (ap (λ (l : List ℕ). made letter l (take 2 (carried_in input)) (drop 2 (carried_in input))) (address_part input)
        ∙ ap₂ (made letter (take 2 (drop 2 input))) (register_part input long) (data_part input long))
        (ap (λ (n : ℕ). leb examined n) (sym sent_is))
