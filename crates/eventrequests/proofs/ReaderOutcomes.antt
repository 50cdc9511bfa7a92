-- Each outcome of the reader, by what the head check found.
-- Assumes nothing.
use Rattle.std.specs.Prelude.{Ok, Err}
use mathlib.Core.Path.{◌≡◌, refl, ap, ◌∙◌}
use mathlib.Core.List.{List}
use Prim.Native.Nat.{ℕ, ◌+◌, ◌<◌}
use native.Mathlib.Omega.{arith}
use lib.ListN.{length, get_or}
use Rattle.refusal.specs.declared.Refusal.{Refusal}
use Rattle.framing.specs.Framing.{framed, framed_at}
use Rattle.framing.specs.Layout.{poll_events, length_for}
use Rattle.framing.specs.Head.{head_of}
use Rattle.framing.proofs.Framing.{rest_length, carried_at}
use Rattle.framing.proofs.HeadCheck.{head_framed_is, head_wrong_is}
use Rattle.framing.proofs.ScanFrames.{scan_sound, scan_carries, taken_both}
use Rattle.eventrequests.specs.Layout.{event_request_framing}
use Rattle.eventrequests.specs.Reading.{requested_by, read_event_request}

module _ (input : List ℕ) where
  pub request_refused : (why : Refusal) → head_of (framed_at event_request_framing input 0) ≡ Err why → read_event_request input ≡ Err why
  unfolding read_event_request
  request_refused why head = ap requested_by (head_wrong_is (framed_at event_request_framing input 0) why head)

  module _ {s : ℕ} (head : head_of (framed_at event_request_framing input 0) ≡ Ok s) where
    abbrev first : List ℕ
    first = (head_framed_is (framed_at event_request_framing input 0) s head).0

    abbrev carried : List ℕ
    carried = (head_framed_is (framed_at event_request_framing input 0) s head).1

    read : framed_at event_request_framing input 0 ≡ framed first s carried
    read = (head_framed_is (framed_at event_request_framing input 0) s head).2

    four : length carried ≡ 4
    four =
        let nine : length_for s ≡ 9 =
        taken_both (λ (x : ℕ). length_for x ≡ 9) poll_events poll_events s refl refl (scan_sound poll_events poll_events input 0 first s carried read).taken in
        omega (arith, scan_carries poll_events poll_events input 0 first s carried read)

    pub request_long : length input ≡ 9
    request_long = omega (arith, rest_length event_request_framing (omega arith) input 0 first s carried read, four)

    stands : (k place : ℕ) → k < 4 → place ≡ k + 3 → get_or carried k 0 ≡ get_or input place 0
    stands k place within is =
        carried_at event_request_framing (omega arith) input 0 first s carried read k (omega (arith, four))
        ∙ ap (λ (n : ℕ). get_or input n 0) (omega arith)

    pub request_asked : read_event_request input
        ≡ Ok (record { minimum = get_or input 3 0; most = get_or input 4 0; confirmed = get_or input 5 0; flag = get_or input 6 0 })
    unfolding read_event_request
    request_asked =
        ap requested_by read
        ∙ simp (stands 0 3 (omega arith) (omega arith), stands 1 4 (omega arith) (omega arith), stands 2 5 (omega arith) (omega arith), stands 3 6 (omega arith) (omega arith))
