-- Rule F7: an event and its bytes, one event at a position of any bytes, and the events that bytes are from end to end; and the
-- ids of devices.
-- Assumes nothing.
use Rattle.std.specs.Prelude.{◌≡◌, Bool, ◌&&◌, ℕ, zero, suc, ◌+◌, ◌*◌, ◌/◌, ◌%◌, List, [], ◌∷◌, ◌++◌, eqb, leb, length, get_or, take, drop, Option, Some, None}
use Rattle.lists.specs.Choice.{pick}
use Rattle.events.specs.declared.PlacedEvent.{PlacedEvent}

-- ---- ids

-- the ids of devices
abbrev pub smallest_id : ℕ
smallest_id = 1

abbrev pub largest_id : ℕ
largest_id = 247

unfoldable pub is_id : ℕ → Bool
is_id byte = leb smallest_id byte && leb byte largest_id

-- ---- an event

pub record Event : Type 0 where
  pub kind : ℕ
  pub identifier : ℕ
  pub payload : List ℕ

-- ---- its bytes

-- how long its data is, the kind, the identifier with its high byte first, the data
unfoldable pub event_bytes : Event → List ℕ
event_bytes event = length event.payload ∷ event.kind ∷ event.identifier / 256 ∷ event.identifier % 256 ∷ event.payload

unfoldable pub events_bytes : List Event → List ℕ
events_bytes [] = []
events_bytes (event ∷ events) = event_bytes event ++ events_bytes events

-- ---- one event at a position

-- how many bytes stand before its data
abbrev pub event_head : ℕ
event_head = 4

-- kind, identifier, where its data is and how long that is; the position behind it is where the data ends
abbrev pub placed : ℕ → ℕ → ℕ → ℕ → PlacedEvent
placed kind identifier start size = record { kind = kind; identifier = identifier; start = start; size = size; next = start + size }

-- the event at this position, where all of it is there. Behind the end of the input nothing is.
unfoldable pub event_at : List ℕ → ℕ → Option PlacedEvent
event_at input at =
    pick (leb (at + event_head + get_or input at 0) (length input))
    (Some (placed (get_or input (at + 1) 0) (get_or input (at + 2) 0 * 256 + get_or input (at + 3) 0) (at + event_head) (get_or input at 0))) None

-- the position behind it
abbrev pub next_of : Option PlacedEvent → ℕ
next_of (Some event) = event.next
next_of None = 0

-- ---- its data, as a part of the input

-- the byte that a part starts with, and how many it has
pub record Part : Type 0 where
  pub start : ℕ
  pub size : ℕ

-- where no whole event stands, the empty start
abbrev pub data_of : Option PlacedEvent → Part
data_of (Some event) = record { start = event.start; size = event.size }
data_of None = record { start = 0; size = 0 }

unfoldable pub data_part : List ℕ → ℕ → Part
data_part input at = data_of (event_at input at)

abbrev pub shown : List ℕ → Part → List ℕ
shown input part = take part.size (drop part.start input)

-- what is returned for an input that stands at this offset of a block of memory: a slice, with its place and its bytes
pub record ShowsEventData (input : List ℕ) (input_place : ℕ × ℕ) (at : ℕ) (place : ℕ × ℕ) (bytes : List ℕ) : Type 0 where
  pub stands : place ≡ (input_place.0, (data_part input at).start + input_place.1)
  pub holds : bytes ≡ shown input (data_part input at)

-- ---- a walk over events

-- the event with its data, which stays where it is in the input, before others; none where it is broken
abbrev pub in_front : List ℕ → Option PlacedEvent → List Event → List Event
in_front input (Some event) events = record { kind = event.kind; identifier = event.identifier; payload = shown input (data_of (Some event)) } ∷ events
in_front input None events = []

-- the events that a caller finds who takes so many from a position on, each where the last one ended
unfoldable pub walked : ℕ → List ℕ → ℕ → List Event
walked zero input at = []
walked (suc n) input at = in_front input (event_at input at) (walked n input (next_of (event_at input at)))

-- ---- events from end to end

-- the events, or that they do not come out even
pub data Listed : Type 0 where
  listed : List Event → Listed
  uneven : Listed

-- one event more before them
abbrev pub add : List ℕ → Option PlacedEvent → Listed → Listed
add bytes (Some event) (listed events) = listed (in_front bytes (Some event) events)
add bytes (Some event) uneven = uneven
add bytes None rest = uneven

-- from a position to the end, at most so many
unfoldable pub events_from : ℕ → List ℕ → ℕ → Listed
events_from zero bytes at = pick (eqb at (length bytes)) (listed []) uneven
events_from (suc most) bytes at =
    pick (eqb at (length bytes)) (listed []) (add bytes (event_at bytes at) (events_from most bytes (next_of (event_at bytes at))))

-- no bytes hold more events than bytes
unfoldable pub events_in : List ℕ → Listed
events_in bytes = events_from (length bytes) bytes 0

-- how many there are
abbrev pub how_many_listed : Listed → ℕ
how_many_listed (listed events) = length events
how_many_listed uneven = 0

-- the same, as the code answers it
abbrev pub listing_of : Listed → Option ℕ
listing_of (listed events) = Some (length events)
listing_of uneven = None
