-- The printed request of event polling, of the definitions.
-- Assumes nothing.
use Rattle.std.specs.Prelude.{Ok}
use mathlib.Core.Path.{◌≡◌, refl}
use mathlib.Core.List.{List, [], ◌∷◌}
use Prim.Native.Nat.{ℕ}
use Rattle.lists.specs.Tests.{same}
use Rattle.crc.specs.Register.{step, steps}
use Rattle.crc.specs.Check.{modbus_bytes, modbus_check}
use Rattle.framing.specs.Framing.{frame, passed, judged, framed_at}
use Rattle.framing.specs.Layout.{check_bytes}
use Rattle.eventrequests.specs.Layout.{event_request_bytes, event_request_frame}
use Rattle.eventrequests.specs.Reading.{read_event_request}
use Rattle.eventrequests.specs.declared.EventRequest.{EventRequest}

-- any id may answer, with at most 100 bytes of events; the packet with flag 1 of device 0A is confirmed
abbrev request : EventRequest
request = record { minimum = 0x00; most = 0x64; confirmed = 0x0A; flag = 0x01 }

abbrev request_frame_lem : List ℕ
request_frame_lem = 0xFD ∷ 0x46 ∷ 0x10 ∷ 0x00 ∷ 0x64 ∷ 0x0A ∷ 0x01 ∷ 0x7E ∷ 0x15 ∷ []

pub worked_request : (event_request_frame request ≡ request_frame_lem) × (read_event_request request_frame_lem ≡ Ok request)
unfolding step steps modbus_bytes modbus_check check_bytes frame event_request_bytes event_request_frame passed same judged framed_at read_event_request
worked_request = (refl, refl)
