-- Reading and writing an answer are inverse to each other: each frame is read back as what went into it, behind up to 32 FF, and
-- each input that is accepted is exactly as many FF as are counted and the frame that the writer gives for what was read. A 33rd FF is
-- refused, whatever follows it.
-- Assumes nothing.
use Rattle.std.specs.Prelude.{Result, Ok, Err}
use Rattle.refusal.specs.declared.Refusal.{Refusal}
use mathlib.Core.Path.{◌≡◌, refl, sym, ap, ap₂, ◌∙◌, subst}
use mathlib.Core.Bool.{Bool, true, false, ◌||◌}
use mathlib.Core.List.{List, [], ◌++◌}
use Prim.Native.Nat.{ℕ, suc, ◌+◌, ◌≤◌, ◌<◌}
use native.Mathlib.Omega.{arith}
use lib.Dec.{eqb, ltb}
use lib.ListN.{length, get_or, replicate, length-replicate}
use borrow.Author.Tests.{lt-ltb, ltb-true, eqb-true, eqb-false}
use Rattle.lists.specs.Choice.{pick}
use Rattle.lists.proofs.Cases.{true_not_false}
use Rattle.refusal.specs.Number.{frame_length, serial_over, fill_over, at_place}
use Rattle.framing.specs.Framing.{frame, FrameRead, framed, wrong, framed_at}
use Rattle.framing.specs.Layout.{broadcast, device_found, end_of_scan, serial_limit, shortest, found_length, length_for, scan_first}
use Rattle.framing.proofs.Framing.{carried_at, short_refused}
use Rattle.framing.proofs.ScanFrames.{scan_read_back, scan_sound, scan_carries, scan_exact, taken_both, nothing}
use Rattle.answers.specs.Layout.{serial_bytes, found_bytes, answer_framing, found_frame, end_frame}
use Rattle.answers.specs.Reading.{serial_of, address_of, answered_by, answer_at, behind_fill, fill, leading_fill, most_fill, read_answer}
use Rattle.answers.specs.declared.AnswerRead.TheVariants.{Found, End}
use Rattle.answers.proofs.Carried.{serial_back, carried_exact}
use Rattle.answers.proofs.LeadingFill.{fill_before, fill_only, fill_least, fill_split, by_before, before_few, before_many}

-- an input of bytes
abbrev pub Bytes : List ℕ → Type 0
Bytes input = (i : ℕ) → get_or input i 0 < 256

-- ---- what is written is read back

-- an answer behind n FF, whatever it carries: the reader passes over those FF and no more, and finds the frame
answer_read_back : (n s : ℕ) (carried : List ℕ) → n ≤ most_fill → (eqb s device_found || eqb s end_of_scan) ≡ true → eqb (length carried + shortest) (length_for s) ≡ true
    → read_answer (replicate n fill ++ frame answer_framing scan_first s carried) ≡ answered_by n (framed scan_first s carried)
unfolding frame answer_at read_answer
answer_read_back n s carried few takes fits =
    let before = replicate n fill in
    let input = before ++ frame answer_framing scan_first s carried in
    ap (behind_fill (answer_at input)) (before_few input n (fill_before n broadcast _ (eqb-false broadcast fill refl)) few)
    ∙ ap (λ (at : ℕ). answered_by n (framed_at answer_framing input at)) (sym (length-replicate n fill))
    ∙ ap (answered_by n) (scan_read_back device_found end_of_scan s before carried takes fits)

pub found_read_back : (n serial address : ℕ) → n ≤ most_fill → serial < serial_limit
    → read_answer (replicate n fill ++ found_frame serial address) ≡ Ok (Found n serial address)
unfolding serial_bytes found_bytes found_frame
found_read_back n serial address few below =
    answer_read_back n device_found (found_bytes serial address) few refl refl
    ∙ simp (serial_back serial address, lt-ltb serial serial_limit below)

pub end_read_back : (n : ℕ) → n ≤ most_fill → read_answer (replicate n fill ++ end_frame) ≡ Ok (End n)
unfolding end_frame
end_read_back n few = answer_read_back n end_of_scan [] few refl refl

-- no frame is left behind FF alone
pub fill_alone : (n : ℕ) → n ≤ most_fill → read_answer (replicate n fill) ≡ Err (at_place frame_length 0)
unfolding answer_at read_answer
fill_alone n few =
    let input = replicate n fill in
    ap (behind_fill (answer_at input)) (before_few input n (fill_only n) few)
    ∙ ap (answered_by n) (short_refused answer_framing input n (omega (arith, length-replicate {A = ℕ} n fill)))

-- one FF too many, and whatever bytes behind it
pub over_refused : (n : ℕ) (rest : List ℕ) → most_fill < n → read_answer (replicate n fill ++ rest) ≡ Err (at_place fill_over most_fill)
unfolding read_answer
over_refused n rest many =
    let input = replicate n fill ++ rest in
    ap (behind_fill (answer_at input)) (before_many input (omega (arith, fill_least n rest)))

-- ---- what is accepted is what would be written

-- what was read where an answer is a device found, and where it is the end
module _ (at : ℕ) (first : List ℕ) (s : ℕ) (carried : List ℕ) where
  found_is : (n serial address : ℕ) → answered_by at (framed first s carried) ≡ Ok (Found n serial address)
      → (s ≡ device_found) × (serial_of carried < serial_limit) × (serial_of carried ≡ serial) × (address_of carried ≡ address) × (at ≡ n)
  found_is n serial address e = by (eqb s device_found) refl (ltb (serial_of carried) serial_limit) refl e
    where
      by : (t : Bool) → eqb s device_found ≡ t → (u : Bool) → ltb (serial_of carried) serial_limit ≡ u
          → pick t (pick u (Ok (Found at (serial_of carried) (address_of carried))) (Err (at_place serial_over (at + 3)))) (Ok (End at)) ≡ Ok (Found n serial address)
          → (s ≡ device_found) × (serial_of carried < serial_limit) × (serial_of carried ≡ serial) × (address_of carried ≡ address) × (at ≡ n)
      by true is true below e = (eqb-true s device_found is, ltb-true (serial_of carried) serial_limit below, cc, cc, cc)
      by true is false below e = let z : ◌≡◌ {A = ℕ} 0 1 = cc in absurd (omega arith)
      by false is u below e = let z : ◌≡◌ {A = ℕ} 0 1 = cc in absurd (omega arith)

  end_is : (n : ℕ) → answered_by at (framed first s carried) ≡ Ok (End n) → (eqb s device_found ≡ false) × (at ≡ n)
  end_is n e = by (eqb s device_found) (ltb (serial_of carried) serial_limit) e
    where
      by : (t u : Bool) → pick t (pick u (Ok (Found at (serial_of carried) (address_of carried))) (Err (at_place serial_over (at + 3)))) (Ok (End at)) ≡ Ok (End n) → (t ≡ false) × (at ≡ n)
      by true true e = let z : ◌≡◌ {A = ℕ} 0 1 = cc in absurd (omega arith)
      by true false e = let z : ◌≡◌ {A = ℕ} 0 1 = cc in absurd (omega arith)
      by false u e = (refl, cc)

pub found_exact : (input : List ℕ) (n serial address : ℕ) → Bytes input → read_answer input ≡ Ok (Found n serial address)
    → (n ≤ most_fill) × (serial < serial_limit) × (input ≡ replicate n fill ++ found_frame serial address)
unfolding found_frame answer_at read_answer
found_exact input n serial address bytes =
    by_before (λ (s : Result ℕ Refusal). behind_fill (answer_at input) s ≡ Ok (Found n serial address) → Stands n) input
    (by (framed_at answer_framing input (leading_fill input)) refl) (λ many e. let z : ◌≡◌ {A = ℕ} 0 1 = cc in absurd (omega arith))
  where
    Stands : ℕ → Type 0
    Stands k = (k ≤ most_fill) × (serial < serial_limit) × (input ≡ replicate k fill ++ found_frame serial address)

    by : (r : FrameRead) → framed_at answer_framing input (leading_fill input) ≡ r → leading_fill input ≤ most_fill → answered_by (leading_fill input) r ≡ Ok (Found n serial address) → Stands n
    by (framed first s carried) read few e =
        let at = leading_fill input in
        let is = found_is at first s carried n serial address e in
        let ten : length carried + shortest ≡ found_length = scan_carries device_found end_of_scan input at first s carried read ∙ ap length_for is.0 in
        let five : length carried ≡ 5 = omega arith in
        let small : (k : ℕ) → k < 5 → get_or carried k 0 < 256 =
        λ k within. subst (λ (x : ℕ). x < 256) (sym (carried_at answer_framing (omega arith) input at first s carried read k (omega arith))) (bytes (at + (2 + suc k))) in
        let carries : carried ≡ found_bytes serial address = sym (carried_exact carried five small) ∙ ap₂ found_bytes is.2 is.3 in
        subst Stands is.4 (
          few,
          subst (λ (x : ℕ). x < serial_limit) is.2 is.1,
          fill_split input
              ∙ ap (λ (l : List ℕ). replicate at fill ++ l)
              (scan_exact device_found end_of_scan input at first s carried read ∙ ap₂ (frame answer_framing scan_first) is.0 carries),
        )
    by (wrong why) read few e = let z : ◌≡◌ {A = ℕ} 0 1 = cc in absurd (omega arith)

pub end_exact : (input : List ℕ) (n : ℕ) → read_answer input ≡ Ok (End n) → (n ≤ most_fill) × (input ≡ replicate n fill ++ end_frame)
unfolding end_frame answer_at read_answer
end_exact input n =
    by_before (λ (s : Result ℕ Refusal). behind_fill (answer_at input) s ≡ Ok (End n) → Stands n) input
    (by (framed_at answer_framing input (leading_fill input)) refl) (λ many e. let z : ◌≡◌ {A = ℕ} 0 1 = cc in absurd (omega arith))
  where
    Stands : ℕ → Type 0
    Stands k = (k ≤ most_fill) × (input ≡ replicate k fill ++ end_frame)

    by : (r : FrameRead) → framed_at answer_framing input (leading_fill input) ≡ r → leading_fill input ≤ most_fill → answered_by (leading_fill input) r ≡ Ok (End n) → Stands n
    by (framed first s carried) read few e =
        let at = leading_fill input in
        let is = end_is at first s carried n e in
        let same : s ≡ end_of_scan =
        taken_both (λ (x : ℕ). eqb x device_found ≡ false → x ≡ end_of_scan) device_found end_of_scan s (λ no_end. true_not_false refl no_end) (λ is_end. refl)
        (scan_sound device_found end_of_scan input at first s carried read).taken is.0 in
        subst Stands is.1 (
          few,
          fill_split input
              ∙ ap (λ (l : List ℕ). replicate at fill ++ l)
              (scan_exact device_found end_of_scan input at first s carried read
              ∙ ap₂ (frame answer_framing scan_first) same (nothing carried (scan_carries device_found end_of_scan input at first s carried read ∙ ap length_for same))),
        )
    by (wrong why) read few e = let z : ◌≡◌ {A = ℕ} 0 1 = cc in absurd (omega arith)
