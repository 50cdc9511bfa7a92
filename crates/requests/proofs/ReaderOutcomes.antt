-- Each outcome of the request reader, by what its head check found.
-- Assumes nothing.
use Rattle.std.specs.Prelude.{Ok, Err}
use mathlib.Core.Path.{◌≡◌, ap}
use mathlib.Core.List.{List}
use Prim.Native.Nat.{ℕ}
use Rattle.refusal.specs.declared.Refusal.{Refusal}
use Rattle.framing.specs.Framing.{framed_at}
use Rattle.framing.specs.Head.{head_of}
use Rattle.framing.proofs.HeadCheck.{head_framed_is, head_wrong_is}
use Rattle.requests.specs.Layout.{request_framing}
use Rattle.requests.specs.Reading.{asked_for, asked_by, read_request}

module _ (input : List ℕ) where
  pub request_refused : (why : Refusal) → head_of (framed_at request_framing input 0) ≡ Err why → read_request input ≡ Err why
  unfolding read_request
  request_refused why head = ap asked_by (head_wrong_is (framed_at request_framing input 0) why head)

  pub request_asked : (s : ℕ) → head_of (framed_at request_framing input 0) ≡ Ok s → read_request input ≡ Ok (asked_for s)
  unfolding read_request
  request_asked s head = ap asked_by (head_framed_is (framed_at request_framing input 0) s head).2
