-- Laws of one event at a position: each outcome by the bytes that lead to it, and that an event and its bytes are inverse to
-- each other.
-- Assumes nothing.
use Rattle.std.specs.Prelude.{Option, Some, None}
use Rattle.events.specs.declared.PlacedEvent.{PlacedEvent}
use mathlib.Core.Path.{◌≡◌, refl, sym, ap, ap₂, ◌∙◌}
use mathlib.Core.Bool.{Bool, true, false}
use mathlib.Core.List.{List, [], ◌∷◌, ◌++◌}
use Prim.Native.Nat.{ℕ, ◌+◌, ◌*◌, ◌-◌, ◌/◌, ◌%◌, ◌≤◌, ◌<◌}
use native.Mathlib.Nat.{add_assoc}
use native.Mathlib.Omega.{arith}
use lib.Dec.{leb}
use lib.ListN.{length, get_or, take, drop, length-append, length-drop, take-append-drop}
use lib.Seq.{length-take-le, drop-drop, drop-append-add, take-append_seam, get_or-append_seam, get_or-append-add}
use borrow.Author.Tests.{le-leb, leb-true}
use Rattle.lists.specs.Choice.{pick}
use Rattle.lists.proofs.Filling.{drop_next}
use Rattle.events.specs.Events.{Event, event_bytes, event_head, placed, event_at, in_front, data_part, ShowsEventData}

-- what stands there where all of it does
abbrev pub whole_at : List ℕ → ℕ → PlacedEvent
whole_at input at =
    placed (get_or input (at + 1) 0) (get_or input (at + 2) 0 * 256 + get_or input (at + 3) 0) (at + event_head) (get_or input at 0)

module _ (input : List ℕ) (at : ℕ) where
  pub event_whole : 4 ≤ length input - at → get_or input at 0 ≤ length input - at - 4 → event_at input at ≡ Some (whole_at input at)
  unfolding event_at
  event_whole long fits = simp (le-leb (at + 4 + get_or input at 0) (length input) (omega arith))

  -- what is known where an event was found
  module _ {event : PlacedEvent} (found : event_at input at ≡ Some event) where
    pub found_is : (at + 4 + get_or input at 0 ≤ length input) × (whole_at input at ≡ event)
    unfolding event_at
    found_is = by (leb (at + 4 + get_or input at 0) (length input)) refl found
      where
        by : (t : Bool) → leb (at + 4 + get_or input at 0) (length input) ≡ t → pick t (Some (whole_at input at)) None ≡ Some event
            → (at + 4 + get_or input at 0 ≤ length input) × (whole_at input at ≡ event)
        by true is e = (leb-true _ _ is, cc)
        by false is e = cc

    pub found_start : event.start ≡ at + 4
    found_start = ap (λ (e : PlacedEvent). e.start) (sym found_is.1)

    pub found_size : event.size ≡ get_or input at 0
    found_size = ap (λ (e : PlacedEvent). e.size) (sym found_is.1)

    pub found_next : event.next ≡ event.start + event.size
    found_next = sym (ap (λ (e : PlacedEvent). e.next) found_is.1) ∙ ap (λ (e : PlacedEvent). e.start + e.size) found_is.1

    pub found_further : at < event.next
    found_further = omega (arith, found_next, found_start)

    pub found_within : event.next ≤ length input
    found_within = omega (arith, found_is.0, found_next, found_start, found_size)

-- ---- its bytes there, found

-- an event whose bytes stand at this position
abbrev pub whole_of : Event → ℕ → Option PlacedEvent
whole_of event at = Some (placed event.kind event.identifier (at + 4) (length event.payload))

module _ (front : List ℕ) (event : Event) (rest : List ℕ) where
  abbrev input : List ℕ
  input = front ++ (event_bytes event ++ rest)

  length_event : length (event_bytes event) ≡ 4 + length event.payload
  unfolding event_bytes
  length_event = omega arith

  pub event_there : event_at input (length front) ≡ whole_of event (length front)
  unfolding event_bytes
  event_there =
      let ys = event_bytes event ++ rest in
      let size : get_or input (length front) 0 ≡ length event.payload = get_or-append_seam front _ _ 0 in
      let long : length input ≡ length front + (4 + length event.payload + length rest) = omega (arith, length-append front ys, length-append (event_bytes event) rest, length_event) in
      let kind : get_or input (length front + 1) 0 ≡ event.kind = get_or-append-add front ys 1 0 in
      let high : get_or input (length front + 2) 0 ≡ event.identifier / 256 = get_or-append-add front ys 2 0 in
      let low : get_or input (length front + 3) 0 ≡ event.identifier % 256 = get_or-append-add front ys 3 0 in
      let identifier : get_or input (length front + 2) 0 * 256 + get_or input (length front + 3) 0 ≡ event.identifier = omega arith in
      event_whole input (length front) (omega arith) (omega arith) ∙ simp (size, kind, identifier)

  pub event_shown : (events : List Event) → in_front input (whole_of event (length front)) events ≡ event ∷ events
  unfolding event_bytes
  event_shown events =
      let ys = event_bytes event ++ rest in
      let stands : take (length event.payload) (drop (length front + 4) input) ≡ event.payload =
      ap (take (length event.payload)) (drop-append-add front ys 4) ∙ take-append_seam event.payload rest in
      ap (λ (p : List ℕ). record { kind = event.kind; identifier = event.identifier; payload = p } ∷ events) stands

  -- where the next one stands
  pub event_next : length front + 4 + length event.payload ≡ length (front ++ event_bytes event)
  event_next = omega (arith, length-append front (event_bytes event), length_event)

  pub event_some : length front < length input
  event_some = omega (arith, length-append front (event_bytes event ++ rest), length-append (event_bytes event) rest, length_event)

-- ---- what was found is its bytes

-- two bytes of an identifier, joined and taken apart
joined_high : (high low : ℕ) → low < 256 → (high * 256 + low) / 256 ≡ high
joined_high high low small = omega arith

joined_low : (high low : ℕ) → low < 256 → (high * 256 + low) % 256 ≡ low
joined_low high low small = omega arith

module _ (input : List ℕ) (at : ℕ) (small : (i : ℕ) → i < length input → get_or input i 0 < 256) {event : PlacedEvent}
    (found : event_at input at ≡ Some event) where
  abbrev payload : List ℕ
  payload = take event.size (drop event.start input)

  payload_length : length payload ≡ event.size
  payload_length =
      length-take-le event.size (drop event.start input)
      (omega (arith, length-drop event.start input, (found_is input at found).0, found_start input at found, found_size input at found))

  begins : at + 4 ≤ length input
      → drop at input ≡ get_or input at 0 ∷ get_or input (at + 1) 0 ∷ get_or input (at + 2) 0 ∷ get_or input (at + 3) 0 ∷ drop (at + 4) input
  begins long =
      drop_next input at (omega arith)
      ∙ ap (λ (l : List ℕ). get_or input at 0 ∷ l)
      (drop_next input (at + 1) (omega arith)
      ∙ ap (λ (n : ℕ). get_or input (at + 1) 0 ∷ drop n input) (add_assoc at 1 1)
      ∙ ap (λ (l : List ℕ). get_or input (at + 1) 0 ∷ l)
      (drop_next input (at + 2) (omega arith)
      ∙ ap (λ (n : ℕ). get_or input (at + 2) 0 ∷ drop n input) (add_assoc at 2 1)
      ∙ ap (λ (l : List ℕ). get_or input (at + 2) 0 ∷ l)
      (drop_next input (at + 3) (omega arith) ∙ ap (λ (n : ℕ). get_or input (at + 3) 0 ∷ drop n input) (add_assoc at 3 1))))

  behind_head : drop (at + 4) input ≡ payload ++ drop event.next input
  behind_head =
      ap (λ (n : ℕ). drop n input) (sym (found_start input at found))
      ∙ sym (take-append-drop event.size (drop event.start input))
      ∙ ap (λ (l : List ℕ). payload ++ l) (drop-drop event.size event.start input ∙ ap (λ (n : ℕ). drop n input) (sym (found_next input at found)))

  pub event_exact : drop at input ≡ event_bytes (record { kind = event.kind; identifier = event.identifier; payload = payload }) ++ drop event.next input
  unfolding event_bytes
  event_exact =
      let w = (found_is input at found).1 in
      let within = (found_is input at found).0 in
      let is_kind : get_or input (at + 1) 0 ≡ event.kind = ap (λ (e : PlacedEvent). e.kind) w in
      let is_identifier : get_or input (at + 2) 0 * 256 + get_or input (at + 3) 0 ≡ event.identifier = ap (λ (e : PlacedEvent). e.identifier) w in
      let low : get_or input (at + 3) 0 < 256 = small (at + 3) (omega arith) in
      let is_high : get_or input (at + 2) 0 ≡ event.identifier / 256 = sym (joined_high (get_or input (at + 2) 0) (get_or input (at + 3) 0) low) ∙ ap (λ (n : ℕ). n / 256) is_identifier in
      let is_low : get_or input (at + 3) 0 ≡ event.identifier % 256 = sym (joined_low (get_or input (at + 2) 0) (get_or input (at + 3) 0) low) ∙ ap (λ (n : ℕ). n % 256) is_identifier in
      let is_size : get_or input at 0 ≡ length payload = sym (found_size input at found) ∙ sym payload_length in
      begins (omega arith)
      ∙ ap₂ (λ (x y : ℕ). x ∷ y ∷ get_or input (at + 2) 0 ∷ get_or input (at + 3) 0 ∷ drop (at + 4) input) is_size is_kind
      ∙ ap₂ (λ (x y : ℕ). length payload ∷ event.kind ∷ x ∷ y ∷ drop (at + 4) input) is_high is_low
      ∙ ap (λ (l : List ℕ). length payload ∷ event.kind ∷ event.identifier / 256 ∷ event.identifier % 256 ∷ l) behind_head

-- ---- its data

module _ (input : List ℕ) (at : ℕ) (p : ℕ × ℕ) where
  pub shows_data : {event : PlacedEvent} → event_at input at ≡ Some event
      → ShowsEventData input p at (p.0, event.start + p.1) (take (event.next - event.start) (drop event.start input))
  unfolding data_part
  shows_data {event} found =
      let same : event.next - event.start ≡ event.size = omega (arith, found_next input at found) in
      record {
        stands = simp found refl;
        holds = simp (found, same) refl;
      }

  pub shows_nothing : event_at input at ≡ None → ShowsEventData input p at p []
  unfolding data_part
  shows_nothing broken =
      record {
        stands = same ∙ simp broken refl;
        holds = simp broken refl;
      }
    where
      same : p ≡ (p.0, 0 + p.1)
      same = let e : p.1 ≡ 0 + p.1 = omega arith in ap (λ (k : ℕ). (p.0, k)) e
