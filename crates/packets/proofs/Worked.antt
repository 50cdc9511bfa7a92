-- The printed frames that come back, of the definitions.
-- Assumes nothing.
use Rattle.std.specs.Prelude.{Ok, Err}
use mathlib.Core.Path.{◌≡◌, refl}
use mathlib.Core.List.{List, [], ◌∷◌}
use Prim.Native.Nat.{ℕ}
use lib.ListN.{replicate}
use Rattle.lists.specs.Tests.{same}
use Rattle.crc.specs.Register.{step, steps}
use Rattle.crc.specs.Check.{modbus_bytes, modbus_check}
use Rattle.framing.specs.Framing.{frame, passed, judged, framed_at}
use Rattle.framing.specs.Layout.{check_bytes}
use Rattle.refusal.specs.Number.{frame_length, fill_over, at_place}
use Rattle.answers.specs.Reading.{fill, leading_fill, before_frame}
use Rattle.events.specs.Events.{is_id, Event, event_bytes, events_bytes, event_at, walked, events_from, events_in}
use Rattle.packets.specs.Layout.{packet_fits, packet_bytes, packet_frame, no_events_frame}
use Rattle.packets.specs.Reading.{events_at, read_events}
use Rattle.packets.specs.declared.EventsRead.TheVariants.{Packet, Nothing}

-- device 05 sends its one event, which is that input register 01D0 holds 4
abbrev event : Event
event = record { kind = 0x04; identifier = 0x01D0; payload = 0x04 ∷ 0x00 ∷ [] }

abbrev packet_frame_lem : List ℕ
packet_frame_lem = 0x05 ∷ 0x46 ∷ 0x11 ∷ 0x01 ∷ 0x01 ∷ 0x06 ∷ 0x02 ∷ 0x04 ∷ 0x01 ∷ 0xD0 ∷ 0x04 ∷ 0x00 ∷ 0x2B ∷ 0xAC ∷ []

pub worked_packet : (packet_frame 0x05 0x01 0x01 (event ∷ []) ≡ packet_frame_lem) × (read_events packet_frame_lem ≡ Ok (Packet 0 0x05 0x01 0x01 1 6 0x06)) × (walked 1 packet_frame_lem 6 ≡ event ∷ [])
unfolding step steps modbus_bytes modbus_check check_bytes frame event_bytes events_bytes packet_bytes packet_frame is_id passed same judged framed_at event_at events_from events_in packet_fits events_at leading_fill before_frame read_events walked
worked_packet = (refl, refl, refl)

-- nobody has events
abbrev none_frame : List ℕ
none_frame = 0xFD ∷ 0x46 ∷ 0x12 ∷ 0x52 ∷ 0x5D ∷ []

pub worked_none : (no_events_frame ≡ none_frame) × (read_events none_frame ≡ Ok (Nothing 0))
unfolding step steps modbus_bytes modbus_check check_bytes frame no_events_frame is_id passed same judged framed_at packet_fits events_at leading_fill before_frame read_events
worked_none = (refl, refl)

-- rule F5: 32 FF and nothing else are passed over, and no frame is left; one more is refused before anything is asked of a frame
pub only_fill : (read_events (replicate 32 fill) ≡ Err (at_place frame_length 0)) × (read_events (replicate 33 fill) ≡ Err (at_place fill_over 32))
unfolding passed judged framed_at events_at leading_fill before_frame read_events
only_fill = (refl, refl)
