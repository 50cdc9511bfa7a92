-- The code's head check, step by step: each outcome of the framed reader of scan frames by the bytes of the input that
-- lead to it, in the order of the refusals; and what was read, by what the head check found.
-- Assumes nothing.
use Rattle.std.specs.Prelude.{Ok, Err}
use mathlib.Core.Path.{◌≡◌, refl, sym, ap, ap₂, ◌∙◌}
use mathlib.Core.Bool.{Bool, true, false, ◌&&◌, ◌||◌}
use mathlib.Core.List.{List, [], ◌∷◌}
use Prim.Native.Nat.{ℕ, suc, ◌+◌, ◌-◌, ◌%◌, ◌≤◌, ◌<◌}
use native.Mathlib.Nat.{add-zero, add_assoc, add-sub_cancel_left}
use native.Mathlib.Omega.{arith}
use lib.Dec.{eqb}
use lib.ListN.{length, get_or, take, drop, length-drop, drop_of_length-le}
use lib.Seq.{length-take-le, drop-drop}
use borrow.Author.Tests.{eq-eqb, ne_eqb}
use Rattle.lists.specs.Tests.{same}
use Rattle.crc.specs.Check.{modbus_check}
use Rattle.lists.proofs.Filling.{drop_next}
use Rattle.refusal.specs.Number.{frame_length, frame_head, subcommand_wrong, frame_check, at_place}
use Rattle.refusal.specs.declared.Refusal.{Refusal}
use Rattle.framing.specs.Framing.{Framing, FrameRead, framed, wrong, passed, body_of, check_of, judged, framed_at}
use Rattle.framing.specs.Layout.{broadcast, extended, length_for, check_bytes, closed, scan_framing}
use Rattle.framing.specs.Head.{head_of}
use Rattle.framing.proofs.Framing.{short_refused, long_judged}

-- what stands between the subcommand and the check
abbrev pub carried_from : List ℕ → ℕ → List ℕ
carried_from input at = take (length input - at - 5) (drop (at + 3) input)

module _ (input : List ℕ) (at : ℕ) (long : 5 ≤ length input - at) where
  pub carried_length : length (carried_from input at) ≡ length input - at - 5
  carried_length = length-take-le (length input - at - 5) (drop (at + 3) input) (omega (arith, length-drop (at + 3) input))

  begins : drop at input ≡ get_or input at 0 ∷ get_or input (at + 1) 0 ∷ get_or input (at + 2) 0 ∷ drop (at + 3) input
  begins =
      drop_next input at (omega arith)
      ∙ ap (λ (l : List ℕ). get_or input at 0 ∷ l)
      (drop_next input (at + 1) (omega arith)
      ∙ ap (λ (n : ℕ). get_or input (at + 1) 0 ∷ drop n input) (add_assoc at 1 1)
      ∙ ap (λ (l : List ℕ). get_or input (at + 1) 0 ∷ l)
      (drop_next input (at + 2) (omega arith) ∙ ap (λ (n : ℕ). get_or input (at + 2) 0 ∷ drop n input) (add_assoc at 2 1)))

  pub bytes_are : body_of (drop at input) ≡ get_or input at 0 ∷ get_or input (at + 1) 0 ∷ get_or input (at + 2) 0 ∷ carried_from input at
  bytes_are =
      let size : length (drop at input) - 2 ≡ suc (suc (suc (length input - at - 5))) = omega (arith, length-drop at input) in
      ap₂ take size begins

  -- a rest that is long enough, taken apart
  pub opened : (F : Framing) → F.shortest ≤ length input - at
      → framed_at F input at ≡ judged F at (get_or input at 0 ∷ get_or input (at + 1) 0 ∷ get_or input (at + 2) 0 ∷ carried_from input at) (check_of (drop at input))
  opened F enough = long_judged F input at enough ∙ ap (λ (bytes : List ℕ). judged F at bytes (check_of (drop at input))) bytes_are

module _ (one other : ℕ) (input : List ℕ) (at : ℕ) where
  pub head_short : length input - at < 5 → head_of (framed_at (scan_framing one other) input at) ≡ Err (at_place frame_length 0)
  head_short short = ap head_of (short_refused (scan_framing one other) input at short)

  module _ (long : 5 ≤ length input - at) where
    pub head_first : (get_or input at 0 ≡ broadcast → ⊥) → head_of (framed_at (scan_framing one other) input at) ≡ Err (at_place frame_head at)
    unfolding judged passed
    head_first other_byte = ap head_of (opened input at long (scan_framing one other) long) ∙ simp (ne_eqb broadcast (get_or input at 0) (λ e. other_byte (sym e)), add-zero at)

    module _ (first : get_or input at 0 ≡ broadcast) where
      pub head_second : (get_or input (at + 1) 0 ≡ extended → ⊥) → head_of (framed_at (scan_framing one other) input at) ≡ Err (at_place frame_head (at + 1))
      unfolding judged passed
      head_second other_byte =
          ap head_of (opened input at long (scan_framing one other) long)
          ∙ simp (eq-eqb broadcast (get_or input at 0) (sym first), ne_eqb extended (get_or input (at + 1) 0) (λ e. other_byte (sym e)))

      module _ (second : get_or input (at + 1) 0 ≡ extended) where
        pub head_third : (eqb (get_or input (at + 2) 0) one || eqb (get_or input (at + 2) 0) other) ≡ false
            → head_of (framed_at (scan_framing one other) input at) ≡ Err (at_place subcommand_wrong (at + 2))
        unfolding judged passed
        head_third refuses =
            ap head_of (opened input at long (scan_framing one other) long)
            ∙ simp (eq-eqb broadcast (get_or input at 0) (sym first), eq-eqb extended (get_or input (at + 1) 0) (sym second), refuses)

        module _ (takes : (eqb (get_or input (at + 2) 0) one || eqb (get_or input (at + 2) 0) other) ≡ true) where
          pub head_length : (length input - at ≡ length_for (get_or input (at + 2) 0) → ⊥)
              → head_of (framed_at (scan_framing one other) input at) ≡ Err (at_place frame_length 0)
          unfolding judged passed
          head_length other_length =
              ap head_of (opened input at long (scan_framing one other) long)
              ∙ simp (
                eq-eqb broadcast (get_or input at 0) (sym first),
                eq-eqb extended (get_or input (at + 1) 0) (sym second),
                takes,
                ne_eqb (length (carried_from input at) + 5) (length_for (get_or input (at + 2) 0)) (λ e. other_length (omega (arith, carried_length input at long, e))),
              )

          module _ (fills : length input - at ≡ length_for (get_or input (at + 2) 0)) where
            fits : eqb (length (carried_from input at) + 5) (length_for (get_or input (at + 2) 0)) ≡ true
            fits = eq-eqb (length (carried_from input at) + 5) (length_for (get_or input (at + 2) 0)) (omega (arith, carried_length input at long))

            pub head_check : same (check_of (drop at input)) (check_bytes (body_of (drop at input))) ≡ false
                → head_of (framed_at (scan_framing one other) input at) ≡ Err (at_place frame_check (at + (length input - at - 2)))
            unfolding judged passed
            head_check fails =
                let size : suc (suc (suc (length (carried_from input at)))) ≡ length input - at - 2 = omega (arith, carried_length input at long) in
                ap head_of (opened input at long (scan_framing one other) long)
                ∙ (simp (
                  eq-eqb broadcast (get_or input at 0) (sym first),
                  eq-eqb extended (get_or input (at + 1) 0) (sym second),
                  takes,
                  fits,
                  sym (ap (λ (bytes : List ℕ). same (check_of (drop at input)) (check_bytes bytes)) (bytes_are input at long)) ∙ fails,
                ))
                ∙ ap (λ (n : ℕ). Err (at_place frame_check (at + n))) size

            pub head_framed : same (check_of (drop at input)) (check_bytes (body_of (drop at input))) ≡ true
                → head_of (framed_at (scan_framing one other) input at) ≡ Ok (get_or input (at + 2) 0)
            unfolding judged passed
            head_framed right =
                ap head_of (opened input at long (scan_framing one other) long)
                ∙ simp (
                  eq-eqb broadcast (get_or input at 0) (sym first),
                  eq-eqb extended (get_or input (at + 1) 0) (sym second),
                  takes,
                  fits,
                  sym (ap (λ (bytes : List ℕ). same (check_of (drop at input)) (check_bytes bytes)) (bytes_are input at long)) ∙ right,
                )

-- ---- the check, byte by byte

-- the last two bytes of the input against two others
module _ (input : List ℕ) (place x y : ℕ) (ends : place + 2 ≡ length input) where
  last_two : drop place input ≡ get_or input place 0 ∷ get_or input (place + 1) 0 ∷ []
  last_two =
      drop_next input place (omega arith)
      ∙ ap (λ (l : List ℕ). get_or input place 0 ∷ l)
      (drop_next input (place + 1) (omega arith)
      ∙ ap (λ (l : List ℕ). get_or input (place + 1) 0 ∷ l) (drop_of_length-le input {i = place + 1 + 1} (omega arith)))

  pub first_differs : (get_or input place 0 ≡ x → ⊥) → same (drop place input) (x ∷ y ∷ []) ≡ false
  unfolding same
  first_differs other = ap (λ (l : List ℕ). same l (x ∷ y ∷ [])) last_two ∙ simp (ne_eqb (get_or input place 0) x other)

  pub first_same : get_or input place 0 ≡ x → same (drop place input) (x ∷ y ∷ []) ≡ eqb (get_or input (place + 1) 0) y
  unfolding same
  first_same is = ap (λ (l : List ℕ). same l (x ∷ y ∷ [])) last_two ∙ simp (eq-eqb (get_or input place 0) x is) (alone (eqb (get_or input (place + 1) 0) y))
    where
      alone : (b : Bool) → (b && true) ≡ b
      alone true = refl
      alone false = refl

-- the body and the check of the rest, by the place of the check in the input
pub passes_is : (input : List ℕ) (at : ℕ)
    → same (check_of (drop at input)) (check_bytes (body_of (drop at input)))
    ≡ same (drop (at + (length input - at - 2)) input) (check_bytes (take (at + (length input - at - 2) - at) (drop at input)))
passes_is input at =
    let size : length (drop at input) - 2 ≡ length input - at - 2 = ap (λ (n : ℕ). n - 2) (length-drop at input) in
    ap₂ (λ (check bytes : List ℕ). same check (check_bytes bytes))
    (drop-drop (length (drop at input) - 2) at input ∙ ap (λ (n : ℕ). drop (at + n) input) size)
    (ap (λ (n : ℕ). take n (drop at input)) (size ∙ sym (add-sub_cancel_left at (length input - at - 2))))

-- fewer than two bytes end with no check
pub closed_short : (bytes : List ℕ) → length bytes < 2 → closed bytes ≡ false
unfolding same check_bytes closed
closed_short [] short = refl
closed_short (x ∷ []) short = by (eqb x (modbus_check [] % 256))
  where
    by : (b : Bool) → (b && false) ≡ false
    by true = refl
    by false = refl
closed_short (x ∷ y ∷ more) short = let z : ⊥ = omega arith in absurd z

-- ---- what was read, where the head check keeps only the subcommand

pub head_framed_is : (r : FrameRead) (s : ℕ) → head_of r ≡ Ok s → (first : List ℕ) × (carried : List ℕ) × (r ≡ framed first s carried)
head_framed_is (framed first subcommand carried) s e = (first, carried, let same : subcommand ≡ s = cc in ap (λ (x : ℕ). framed first x carried) same)
head_framed_is (wrong why) s e = let z : ◌≡◌ {A = ℕ} 0 1 = cc in absurd (omega arith)

pub head_wrong_is : (r : FrameRead) (why : Refusal) → head_of r ≡ Err why → r ≡ wrong why
head_wrong_is (framed first subcommand carried) why e = let z : ◌≡◌ {A = ℕ} 0 1 = cc in absurd (omega arith)
head_wrong_is (wrong other) why e = let same : other ≡ why = cc in ap wrong same
