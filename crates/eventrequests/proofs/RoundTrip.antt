-- Reading and writing the request of event polling are inverse to each other: the proof of `EventRequests`.
-- Assumes nothing.
use Rattle.std.specs.Prelude.{Ok}
use mathlib.Core.Path.{◌≡◌, refl, ap, ap₂, ◌∙◌}
use mathlib.Core.List.{List, [], ◌∷◌}
use Prim.Native.Nat.{ℕ}
use native.Mathlib.Omega.{arith}
use lib.ListN.{length}
use Rattle.framing.specs.Framing.{frame, FrameRead, framed, wrong, framed_at}
use Rattle.framing.specs.Layout.{poll_events, scan_first, length_for}
use Rattle.framing.proofs.ScanFrames.{scan_read_back, scan_sound, scan_carries, scan_exact, taken_both}
use Rattle.eventrequests.specs.Layout.{event_request_framing, event_request_bytes, event_request_frame}
use Rattle.eventrequests.specs.Reading.{request_of, requested_by, read_event_request}
use Rattle.eventrequests.specs.RoundTrip.{EventRequests}
use Rattle.eventrequests.specs.declared.EventRequest.{EventRequest}

request_back : (request : EventRequest) → read_event_request (event_request_frame request) ≡ Ok request
unfolding event_request_bytes event_request_frame read_event_request
request_back request = ap requested_by (scan_read_back poll_events poll_events poll_events [] (event_request_bytes request) refl refl)

four_bytes : (carried : List ℕ) → length carried ≡ 4 → carried ≡ event_request_bytes (request_of carried)
unfolding event_request_bytes
four_bytes (a ∷ b ∷ c ∷ d ∷ []) four = refl
four_bytes [] four = let z : ⊥ = omega arith in absurd z
four_bytes (a ∷ []) four = let z : ⊥ = omega arith in absurd z
four_bytes (a ∷ b ∷ []) four = let z : ⊥ = omega arith in absurd z
four_bytes (a ∷ b ∷ c ∷ []) four = let z : ⊥ = omega arith in absurd z
four_bytes (a ∷ b ∷ c ∷ d ∷ e ∷ more) four = let z : ⊥ = omega arith in absurd z

request_exact : (input : List ℕ) (request : EventRequest) → read_event_request input ≡ Ok request → input ≡ event_request_frame request
unfolding event_request_frame read_event_request
request_exact input request e = by (framed_at event_request_framing input 0) refl e
  where
    by : (r : FrameRead) → framed_at event_request_framing input 0 ≡ r → requested_by r ≡ Ok request
        → input ≡ frame event_request_framing scan_first poll_events (event_request_bytes request)
    by (framed first s carried) read e =
        let is : request_of carried ≡ request = cc in
        let takes = (scan_sound poll_events poll_events input 0 first s carried read).taken in
        let same_s : s ≡ poll_events = taken_both (λ (x : ℕ). x ≡ poll_events) poll_events poll_events s refl refl takes in
        let nine : length_for s ≡ 9 = taken_both (λ (x : ℕ). length_for x ≡ 9) poll_events poll_events s refl refl takes in
        let four : length carried ≡ 4 = omega (arith, scan_carries poll_events poll_events input 0 first s carried read) in
        scan_exact poll_events poll_events input 0 first s carried read
        ∙ ap₂ (frame event_request_framing scan_first) same_s (four_bytes carried four ∙ ap event_request_bytes is)
    by (wrong why) read e = let z : ◌≡◌ {A = ℕ} 0 1 = cc in absurd (omega arith)

pub event_requests : EventRequests
event_requests = record { request_back = request_back; request_exact = request_exact }
