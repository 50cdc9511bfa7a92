-- A frame and its reader are inverse to each other, for any framing: a frame is read back behind any bytes, and what was
-- read is that frame and fills the rest of the input.
-- Assumes nothing.
use mathlib.Core.Path.{◌≡◌, refl, sym, ap, ap₂, ◌∙◌}
use mathlib.Core.Bool.{Bool, true, false, not}
use mathlib.Core.List.{List, [], ◌∷◌, ◌++◌, map, append_assoc}
use Prim.Native.Nat.{ℕ, zero, suc, ◌+◌, ◌-◌, ◌≤◌, ◌<◌}
use native.Mathlib.Numerals.{add-one}
use native.Mathlib.Omega.{arith}
use lib.Dec.{ltb, eqb}
use lib.ListN.{length, get_or, take, drop, length-append, length-drop, take-append-drop, get_or-append}
use lib.Seq.{take_at, drop_at, get_or_at, drop-append_seam, length-take-le, get_or-drop, split_at, get_or-append-add}
use borrow.Author.Tests.{lt-ltb, le-ltb, ltb-false, eqb-true, not-false}
use Rattle.lists.specs.Choice.{pick}
use Rattle.refusal.specs.Number.{frame_length, at_place}
use Rattle.refusal.specs.declared.Refusal.{Refusal}
use Rattle.framing.specs.Framing.{Framing, body, frame, FrameRead, framed, wrong, passed, body_of, check_of, first_in, subcommand_in, carried_in, judged, framed_at}

-- ---- cutting the check off

module _ (bytes check : List ℕ) (two : length check ≡ 2) where
  cut_length : length (bytes ++ check) - 2 ≡ length bytes
  cut_length = omega (arith, length-append bytes check)

  pub body_cut : body_of (bytes ++ check) ≡ bytes
  body_cut = take_at bytes check _ (sym cut_length)

  pub check_cut : check_of (bytes ++ check) ≡ check
  check_cut = drop_at bytes check _ (sym cut_length)

-- ---- what a frame meets that is read

pub record Sound (F : Framing) (first : List ℕ) (subcommand : ℕ) (carried : List ℕ) : Type 0 where
  pub width : length first ≡ length F.marks
  pub marked : passed F.marks (body first subcommand carried) ≡ length F.marks
  pub taken : F.takes (get_or (body first subcommand carried) 0 0) subcommand ≡ true
  pub fitting : F.fits subcommand carried ≡ true

module _ (F : Framing) where
  module _ (first : List ℕ) (subcommand : ℕ) (carried : List ℕ) where
    abbrev bytes : List ℕ
    bytes = body first subcommand carried

    module _ (width : length first ≡ length F.marks) where
      first_in_lem : first_in F bytes ≡ first
      first_in_lem = take_at first (subcommand ∷ carried) _ width

      subcommand_in_lem : subcommand_in F bytes ≡ subcommand
      subcommand_in_lem = get_or_at first subcommand carried 0 _ width

      carried_in_lem : carried_in F bytes ≡ carried
      carried_in_lem =
          ap (drop (length F.marks + 1)) (sym (append_assoc first (subcommand ∷ []) carried))
          ∙ drop_at (first ++ subcommand ∷ []) carried _ (length-append first (subcommand ∷ []) ∙ ap (λ (n : ℕ). n + 1) width)

    pub sound_judged : (at : ℕ) (check : List ℕ) → Sound F first subcommand carried → F.passes bytes check ≡ true
        → judged F at bytes check ≡ framed first subcommand carried
    unfolding judged
    sound_judged at check sound right =
        simp (
          first_in_lem sound.width,
          subcommand_in_lem sound.width,
          carried_in_lem sound.width,
          sound.marked,
          le-ltb (length F.marks) (length F.marks) (omega arith),
          sound.taken,
          sound.fitting,
          right,
        )

  -- ---- the first test

  module _ (input : List ℕ) (at : ℕ) where
    pub short_refused : length input - at < F.shortest → framed_at F input at ≡ wrong (at_place frame_length 0)
    unfolding framed_at
    short_refused short = simp (length-drop at input, lt-ltb (length input - at) F.shortest short)

    pub long_judged : F.shortest ≤ length input - at → framed_at F input at ≡ judged F at (body_of (drop at input)) (check_of (drop at input))
    unfolding framed_at
    long_judged long =
        ap (λ (short : Bool). pick short (wrong (at_place frame_length 0)) (judged F at (body_of (drop at input)) (check_of (drop at input))))
        (le-ltb (length (drop at input)) F.shortest (omega (arith, length-drop at input)))

  -- ---- a frame is read back

  pub frame_read_back : (before first : List ℕ) (subcommand : ℕ) (carried : List ℕ)
      → Sound F first subcommand carried
      → length (F.check (body first subcommand carried)) ≡ 2
      → F.passes (body first subcommand carried) (F.check (body first subcommand carried)) ≡ true
      → F.shortest ≤ length (frame F first subcommand carried)
      → framed_at F (before ++ frame F first subcommand carried) (length before) ≡ framed first subcommand carried
  unfolding frame
  frame_read_back before first subcommand carried sound two right long =
      let bytes = body first subcommand carried in
      let check = F.check bytes in
      let at = length before in
      long_judged (before ++ (bytes ++ check)) at (omega (arith, length-append before (bytes ++ check)))
      ∙ ap (λ (rest : List ℕ). judged F at (body_of rest) (check_of rest)) (drop-append_seam before (bytes ++ check))
      ∙ ap₂ (judged F at) (body_cut bytes check two) (check_cut bytes check two)
      ∙ sound_judged first subcommand carried at check sound right

-- ---- what was read is that frame

-- no more bytes pass than there are tests
passed_most : (marks : List (ℕ → Bool)) (bytes : List ℕ) → passed marks bytes ≤ length marks
unfolding passed
passed_most [] bytes = omega arith
passed_most (mark ∷ marks) [] = omega arith
passed_most (mark ∷ marks) (b ∷ bs) = by (mark b) (passed_most marks bs)
  where
    by : (t : Bool) → passed marks bs ≤ length marks → pick t (suc (passed marks bs)) zero ≤ suc (length marks)
    by true rest = omega arith
    by false rest = omega arith

-- a test that refuses has failed where the whole accepts
went_on : (t : Bool) (why : Refusal) (rest : FrameRead) (first : List ℕ) (subcommand : ℕ) (carried : List ℕ)
    → pick t (wrong why) rest ≡ framed first subcommand carried → (t ≡ false) × (rest ≡ framed first subcommand carried)
went_on true why rest first subcommand carried e = let z : ◌≡◌ {A = ℕ} 0 1 = cc in absurd (omega arith)
went_on false why rest first subcommand carried e = (refl, e)

-- a body is its parts
parted : (F : Framing) (bytes : List ℕ) → length F.marks < length bytes
    → bytes ≡ body (first_in F bytes) (subcommand_in F bytes) (carried_in F bytes)
parted F bytes within =
    split_at bytes (length F.marks) 0 within
    ∙ ap (λ (n : ℕ). take (length F.marks) bytes ++ get_or bytes (length F.marks) 0 ∷ drop n bytes) (sym (add-one (length F.marks)))

pub record Exact (F : Framing) (input : List ℕ) (at : ℕ) (first : List ℕ) (subcommand : ℕ) (carried : List ℕ) : Type 0 where
  pub sound : Sound F first subcommand carried
  pub right : F.passes (body first subcommand carried) (check_of (drop at input)) ≡ true
  pub rest : drop at input ≡ body first subcommand carried ++ check_of (drop at input)
  pub two : length (check_of (drop at input)) ≡ 2

module _ (F : Framing) (enough : length F.marks + 3 ≤ F.shortest) (input : List ℕ) (at : ℕ) (first : List ℕ) (subcommand : ℕ) (carried : List ℕ)
    (read : framed_at F input at ≡ framed first subcommand carried) where
  pub exact : Exact F input at first subcommand carried
  unfolding framed_at judged
  exact =
      let left = drop at input in
      let bytes = body_of left in
      let p0 = went_on (ltb (length left) F.shortest) _ _ first subcommand carried read in
      let p1 = went_on (ltb (passed F.marks bytes) (length F.marks)) _ _ first subcommand carried p0.1 in
      let p2 = went_on (not (F.takes (get_or bytes 0 0) (subcommand_in F bytes))) _ _ first subcommand carried p1.1 in
      let p3 = went_on (not (F.fits (subcommand_in F bytes) (carried_in F bytes))) _ _ first subcommand carried p2.1 in
      let p4 = went_on (not (F.passes bytes (check_of left))) _ _ first subcommand carried p3.1 in
      let long : F.shortest ≤ length left = ltb-false (length left) F.shortest p0.0 in
      let size : length bytes ≡ length left - 2 = length-take-le (length left - 2) left (omega arith) in
      let is_first : first_in F bytes ≡ first = cc in
      let is_subcommand : subcommand_in F bytes ≡ subcommand = cc in
      let is_carried : carried_in F bytes ≡ carried = cc in
      let whole : bytes ≡ body first subcommand carried =
      parted F bytes (omega arith)
      ∙ ap (λ (x : List ℕ). x ++ subcommand_in F bytes ∷ carried_in F bytes) is_first
      ∙ ap₂ (λ (x : ℕ) (xs : List ℕ). first ++ x ∷ xs) is_subcommand is_carried in
      let all_marks : length F.marks ≤ passed F.marks bytes = ltb-false _ _ p1.0 in
      let marked : passed F.marks bytes ≡ length F.marks = omega (arith, passed_most F.marks bytes) in
      record {
        sound =
            record {
              width = ap length (sym is_first) ∙ length-take-le (length F.marks) bytes (omega arith);
              marked = ap (passed F.marks) (sym whole) ∙ marked;
              taken = ap₂ (λ (x : List ℕ) (s : ℕ). F.takes (get_or x 0 0) s) (sym whole) (sym is_subcommand) ∙ not-false _ p2.0;
              fitting = ap₂ F.fits (sym is_subcommand) (sym is_carried) ∙ not-false _ p3.0;
            };
        right = ap (λ (x : List ℕ). F.passes x (check_of left)) (sym whole) ∙ not-false _ p4.0;
        rest = sym (take-append-drop (length left - 2) left) ∙ ap (λ (x : List ℕ). x ++ check_of left) whole;
        two = length-drop (length left - 2) left ∙ omega arith;
      }

  -- .. where no other check bytes pass than those that are written
  pub frame_exact : ((bytes check : List ℕ) → F.passes bytes check ≡ true → check ≡ F.check bytes) → drop at input ≡ frame F first subcommand carried
  unfolding frame
  frame_exact only = exact.rest ∙ ap (λ (check : List ℕ). body first subcommand carried ++ check) (only _ _ exact.right)

  -- how long the rest is, and where each byte that is carried stands
  pub rest_length : length input - at ≡ length F.marks + 3 + length carried
  rest_length =
      omega (
        arith,
        length-drop at input,
        ap length exact.rest,
        length-append (body first subcommand carried) (check_of (drop at input)),
        length-append first (subcommand ∷ carried),
        exact.two,
        exact.sound.width,
      )

  pub carried_at : (k : ℕ) → k < length carried → get_or carried k 0 ≡ get_or input (at + (length F.marks + suc k)) 0
  carried_at k within =
      let check = check_of (drop at input) in
      sym
      (sym (get_or-drop at input (length F.marks + suc k) 0)
      ∙ ap (λ (l : List ℕ). get_or l (length F.marks + suc k) 0) (exact.rest ∙ append_assoc first (subcommand ∷ carried) check)
      ∙ ap (λ (n : ℕ). get_or (first ++ subcommand ∷ (carried ++ check)) (n + suc k) 0) (sym exact.sound.width)
      ∙ get_or-append-add first (subcommand ∷ (carried ++ check)) (suc k) 0
      ∙ get_or-append carried check 0 k within)

-- ---- first bytes that are all given

-- bytes that pass a test each for being that byte are those bytes
pub given_first : (xs first more : List ℕ) → length first ≡ length (map eqb xs) → passed (map eqb xs) (first ++ more) ≡ length (map eqb xs) → first ≡ xs
unfolding passed
given_first [] [] more width marked = refl
given_first [] (b ∷ bs) more width marked = let z : ⊥ = omega arith in absurd z
given_first (x ∷ xs) [] more width marked = let z : ⊥ = omega arith in absurd z
given_first (x ∷ xs) (b ∷ bs) more width marked = by (eqb x b) refl marked (given_first xs bs more (omega arith))
  where
    by : (t : Bool) → eqb x b ≡ t → pick t (suc (passed (map eqb xs) (bs ++ more))) zero ≡ suc (length (map eqb xs))
        → (passed (map eqb xs) (bs ++ more) ≡ length (map eqb xs) → bs ≡ xs) → b ∷ bs ≡ x ∷ xs
    by true is marked rest = ap₂ ◌∷◌ (sym (eqb-true x b is)) (rest (omega arith))
    by false is marked rest = let z : ⊥ = omega arith in absurd z
