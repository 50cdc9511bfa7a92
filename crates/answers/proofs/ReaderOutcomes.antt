-- Each outcome of the answer reader, by what its head check found and by the bytes of the input.
-- Assumes nothing.
use Rattle.std.specs.Prelude.{Ok, Err}
use mathlib.Core.Path.{◌≡◌, sym, ap, ap₂, ◌∙◌}
use mathlib.Core.List.{List}
use Prim.Native.Nat.{ℕ, ◌+◌, ◌-◌, ◌<◌}
use native.Mathlib.Omega.{arith}
use lib.Dec.{ltb}
use lib.ListN.{length, get_or, drop}
use lib.Seq.{get_or-drop}
use borrow.Author.Tests.{eq-eqb, ne_eqb}
use Rattle.lists.specs.Choice.{pick}
use Rattle.refusal.specs.Number.{serial_over, at_place}
use Rattle.refusal.specs.declared.Refusal.{Refusal}
use Rattle.framing.specs.Framing.{framed, framed_at}
use Rattle.framing.specs.Layout.{device_found, end_of_scan, serial_limit, length_for}
use Rattle.framing.specs.Head.{head_of}
use Rattle.framing.proofs.Framing.{rest_length, carried_at}
use Rattle.framing.proofs.HeadCheck.{head_framed_is, head_wrong_is}
use Rattle.framing.proofs.ScanFrames.{scan_carries}
use Rattle.answers.specs.Layout.{answer_framing}
use Rattle.answers.specs.Reading.{serial_of, found, answered_by, answer_at}
use Rattle.answers.specs.declared.AnswerRead.TheVariants.{Found, End}

module _ (input : List ℕ) (at : ℕ) where
  pub answer_refused : (why : Refusal) → head_of (framed_at answer_framing input at) ≡ Err why → answer_at input at ≡ Err why
  unfolding answer_at
  answer_refused why head = ap (answered_by at) (head_wrong_is (framed_at answer_framing input at) why head)

  module _ (s : ℕ) (head : head_of (framed_at answer_framing input at) ≡ Ok s) where
    abbrev first : List ℕ
    first = (head_framed_is (framed_at answer_framing input at) s head).0

    abbrev carried : List ℕ
    carried = (head_framed_is (framed_at answer_framing input at) s head).1

    read : framed_at answer_framing input at ≡ framed first s carried
    read = (head_framed_is (framed_at answer_framing input at) s head).2

    pub answer_end : (s ≡ device_found → ⊥) → answer_at input at ≡ Ok (End at)
    unfolding answer_at
    answer_end other = ap (answered_by at) read ∙ simp (ne_eqb s device_found other)

    module _ (is : s ≡ device_found) where
      five : length carried ≡ 5
      five =
          let ten : length carried + 5 ≡ 10 = scan_carries device_found end_of_scan input at first s carried read ∙ ap length_for is in
          omega arith

      pub found_long : length input - at ≡ 10
      found_long = omega (arith, rest_length answer_framing (omega arith) input at first s carried read, five)

      -- what is carried stands in the input behind the subcommand
      stands : (k : ℕ) → k < 5 → get_or carried k 0 ≡ get_or (drop (at + 3) input) k 0
      stands k within =
          carried_at answer_framing (omega arith) input at first s carried read k (omega (arith, five))
          ∙ ap (λ (n : ℕ). get_or input n 0) (omega arith)
          ∙ sym (get_or-drop (at + 3) input k 0)

      same_serial : serial_of carried ≡ serial_of (drop (at + 3) input)
      unfolding serial_of
      same_serial = cc (stands 0 (omega arith), stands 1 (omega arith), stands 2 (omega arith), stands 3 (omega arith))

      pub answer_found : answer_at input at ≡ found at (drop (at + 3) input)
      unfolding answer_at
      answer_found =
          ap (answered_by at) read
          ∙ simp (eq-eqb s device_found is)
          (ap₂ (λ (serial address : ℕ). pick (ltb serial serial_limit) (Ok (Found at serial address)) (Err (at_place serial_over (at + 3)))) same_serial (stands 4 (omega arith)))
