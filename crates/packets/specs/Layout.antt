-- What comes back for a request of event polling, a packet of events or that nobody has any: rules F7 and F8.
-- Assumes nothing.
use Rattle.std.specs.Prelude.{ℕ, Bool, false, ◌&&◌, ◌||◌, List, [], ◌∷◌, eqb, leb, length, get_or, drop}
use Rattle.lists.specs.Choice.{pick}
use Rattle.lists.specs.Tests.{same}
use Rattle.framing.specs.Framing.{Framing, frame}
use Rattle.framing.specs.Layout.{broadcast, extended, scan_first, shortest, check_bytes}
use Rattle.events.specs.Events.{is_id, Event, events_bytes, Listed, listed, uneven, events_in}

-- the two subcommands: a packet of events, and that nobody has any
abbrev pub event_packet : ℕ
event_packet = 0x11

abbrev pub no_events : ℕ
no_events = 0x12

-- how many bytes a packet carries before its events
abbrev pub packet_head : ℕ
packet_head = 3

-- events come out even, and no more of them are listed than are queued
abbrev pub no_more_than : ℕ → Listed → Bool
no_more_than queued (listed events) = leb (length events) queued
no_more_than queued uneven = false

-- rule F7: what a packet may carry: a flag, how many events are queued, how many bytes the listed ones have, and those
unfoldable pub packet_fits : List ℕ → Bool
packet_fits carried =
    leb packet_head (length carried)
    && (eqb (get_or carried 2 0) (length (drop packet_head carried)) && no_more_than (get_or carried 1 0) (events_in (drop packet_head carried)))

-- a packet begins with its sender's id; that nobody has events, with the broadcast address
abbrev pub event_framing : Framing
event_framing =
    record {
      marks = (λ first. eqb broadcast first || is_id first) ∷ eqb extended ∷ [];
      takes = λ first subcommand. eqb subcommand (pick (eqb first broadcast) no_events event_packet);
      fits = λ subcommand carried. pick (eqb subcommand event_packet) (packet_fits carried) (eqb (length carried) 0);
      shortest = shortest;
      check = check_bytes;
      passes = λ bytes check. same check (check_bytes bytes);
    }

unfoldable pub packet_bytes : ℕ → ℕ → List Event → List ℕ
packet_bytes flag queued events = flag ∷ queued ∷ length (events_bytes events) ∷ events_bytes events

unfoldable pub packet_frame : ℕ → ℕ → ℕ → List Event → List ℕ
packet_frame sender flag queued events = frame event_framing (sender ∷ extended ∷ []) event_packet (packet_bytes flag queued events)

unfoldable pub no_events_frame : List ℕ
no_events_frame = frame event_framing scan_first no_events []
