-- A packet put together: its head, and its events behind it; and with its check, behind the FF of an answer.
-- Assumes nothing.
use mathlib.Core.Path.{◌≡◌, refl, sym, ap, ◌∙◌}
use mathlib.Core.List.{List, [], ◌∷◌, ◌++◌, map}
use Prim.Native.Nat.{ℕ, ◌+◌, ◌-◌, ◌≤◌}
use native.Mathlib.Omega.{arith}
use borrow.Rule.Slice.PartMut.{put_mid, mid_of}
use lib.ListN.{length, take, length-append}
use Rattle.lists.specs.Starting.{starting}
use Rattle.lists.proofs.Behind.{put_after}
use Rattle.lists.proofs.Filling.{put_whole}
use Rattle.refusal.specs.Output.{Output, bytes, fitting, left}
use Rattle.refusal.proofs.Writer.{fits_whole}
use Rattle.framing.specs.Framing.{frame}
use Rattle.framing.specs.Layout.{check_bytes}
use Rattle.answers.proofs.BehindFill.{behind_fill_length}
use Rattle.events.specs.Events.{events_bytes}
use Rattle.packets.specs.Layout.{packet_bytes, packet_frame, no_events_frame}
use Rattle.queues.specs.Queues.{Queued, queued_from}
use Rattle.oldest.specs.Oldest.{wire_length}
use Rattle.polls.specs.Poll.{event_of, nothing, packet}
use Rattle.polls.specs.Calls.{heard_bytes}
use Rattle.polls.specs.Inner.{RightSlots, packet_body, longest_body}
use Rattle.polls.proofs.PackedEvents.{bytes_length, length_most}

module _ (sender flag count events : ℕ) (slots : List ℕ) (g : RightSlots events slots) where
  abbrev carried : List ℕ
  carried = events_bytes (map event_of (queued_from events slots))

  pub carried_length : length carried ≡ wire_length events slots
  carried_length = bytes_length events slots g.right (omega (arith, g.few, g.long))

  pub size_most : wire_length events slots ≤ 96
  size_most = omega (arith, length_most events slots g.right, g.few)

  pub body_length : 6 + wire_length events slots ≡ length (packet_body sender flag count (queued_from events slots))
  unfolding packet_bytes
  body_length = omega (arith, carried_length)

  pub body_put : (old now after : List ℕ) (size : ℕ) → size ≡ wire_length events slots → longest_body ≤ length old
      → now ≡ starting (take (length old) (sender ∷ 0x46 ∷ 0x11 ∷ flag ∷ count ∷ size ∷ [])) old
      → after ≡ starting carried (mid_of 6 (length now - 6) now)
      → put_mid 6 (length now - 6) now after ≡ starting (packet_body sender flag count (queued_from events slots)) old
  unfolding packet_bytes
  body_put old now after size says room begun wrote =
      let head = sender ∷ 0x46 ∷ 0x11 ∷ flag ∷ count ∷ size ∷ [] in
      put_after head carried old now after 6 refl (begun ∙ put_whole head old (omega arith)) wrote
      ∙ ap (λ (k : ℕ). starting (sender ∷ 0x46 ∷ 0x11 ∷ flag ∷ count ∷ k ∷ carried) old) (says ∙ sym carried_length)

-- with its check it is the frame
pub closed_body : (sender flag count : ℕ) (events : List Queued)
    → packet_body sender flag count events ++ check_bytes (packet_body sender flag count events) ≡ packet_frame sender flag count (map event_of events)
unfolding packet_frame frame
closed_body sender flag count events = refl

-- how long it is, and how long the answer
pub frame_length_lem : (sender flag count : ℕ) (events : List Queued) → length (packet_frame sender flag count (map event_of events)) ≡ length (packet_body sender flag count events) + 2
unfolding packet_frame frame check_bytes
frame_length_lem sender flag count events = length-append (packet_body sender flag count events) (check_bytes (packet_body sender flag count events))

pub packet_length : (dominant sender flag count : ℕ) (events : List Queued)
    → length (heard_bytes (packet dominant sender flag count events)) ≡ dominant + length (packet_body sender flag count events) + 2
unfolding heard_bytes
packet_length dominant sender flag count events =
    omega (arith, behind_fill_length dominant (packet_frame sender flag count (map event_of events)), frame_length_lem sender flag count events)

-- a frame that fits is written whole
pub fitted : (frame part : List ℕ) → length frame ≤ length part → left (fitting (length part) (bytes frame)) part ≡ starting frame part
fitted frame part h = ap (λ (o : Output). left o part) (fits_whole frame (length part) h)

-- .. so is a packet that is closed with its check
module _ (sender flag count : ℕ) (events : List Queued) (body part after : List ℕ) (is_Is_body : body ≡ packet_body sender flag count events)
    (wrote : after ≡ left (fitting (length part) (bytes (body ++ check_bytes body))) part) where
  pub closed_put : length (packet_frame sender flag count (map event_of events)) ≤ length part → after ≡ starting (packet_frame sender flag count (map event_of events)) part
  closed_put room =
      wrote
      ∙ ap (λ (l : List ℕ). left (fitting (length part) (bytes l)) part) (ap (λ (b : List ℕ). b ++ check_bytes b) is_Is_body ∙ closed_body sender flag count events)
      ∙ fitted (packet_frame sender flag count (map event_of events)) part room

-- that nobody has events
pub nothing_frame_length : length no_events_frame ≡ 5
unfolding no_events_frame frame check_bytes
nothing_frame_length = refl

pub nothing_length : (dominant sender : ℕ) → length (heard_bytes (nothing dominant sender)) ≡ dominant + 5
unfolding heard_bytes
nothing_length dominant sender = omega (arith, behind_fill_length dominant no_events_frame, nothing_frame_length)
