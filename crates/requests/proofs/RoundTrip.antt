-- Reading and writing a request are inverse to each other: each frame is read back as what went into it, and each input that is
-- accepted is exactly the frame that the writer gives for what was read.
-- Assumes nothing.
use Rattle.std.specs.Prelude.{Ok}
use mathlib.Core.Path.{◌≡◌, refl, ap, ap₂, ◌∙◌}
use mathlib.Core.List.{List, []}
use Prim.Native.Nat.{ℕ}
use native.Mathlib.Omega.{arith}
use lib.Dec.{eqb}
use Rattle.lists.specs.Choice.{pick}
use Rattle.framing.specs.Framing.{frame, FrameRead, framed, wrong, framed_at}
use Rattle.framing.specs.Layout.{start_scan, continue_scan, shortest, length_for, scan_first}
use Rattle.framing.proofs.ScanFrames.{scan_read_back, scan_sound, scan_carries, scan_exact, taken_both, nothing}
use Rattle.requests.specs.Layout.{request_framing, subcommand_of, request_frame}
use Rattle.requests.specs.Reading.{asked_by, read_request}
use Rattle.requests.specs.declared.Request.{Request}
use Rattle.requests.specs.declared.Request.TheVariants.{Start, Continue}

pub request_read_back : (request : Request) → read_request (request_frame request) ≡ Ok request
unfolding request_frame read_request
request_read_back Start = ap asked_by (scan_read_back start_scan continue_scan start_scan [] [] refl refl)
request_read_back Continue = ap asked_by (scan_read_back start_scan continue_scan continue_scan [] [] refl refl)

pub request_exact : (input : List ℕ) (request : Request) → read_request input ≡ Ok request → input ≡ request_frame request
unfolding request_frame read_request
request_exact input request e = by (framed_at request_framing input 0) refl e
  where
    by : (r : FrameRead) → framed_at request_framing input 0 ≡ r → asked_by r ≡ Ok request → input ≡ frame request_framing scan_first (subcommand_of request) []
    by (framed first s carried) read e =
        let is : pick (eqb s start_scan) Start Continue ≡ request = cc in
        let takes = (scan_sound start_scan continue_scan input 0 first s carried read).taken in
        let same = taken_both (λ (x : ℕ). x ≡ subcommand_of (pick (eqb x start_scan) Start Continue)) start_scan continue_scan s refl refl takes in
        let none = taken_both (λ (x : ℕ). length_for x ≡ shortest) start_scan continue_scan s refl refl takes in
        scan_exact start_scan continue_scan input 0 first s carried read
        ∙ ap₂ (frame request_framing scan_first) (same ∙ ap subcommand_of is) (nothing carried (scan_carries start_scan continue_scan input 0 first s carried read ∙ none))
    by (wrong why) read e = let z : ◌≡◌ {A = ℕ} 0 1 = cc in absurd (omega arith)
