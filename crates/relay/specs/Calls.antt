-- The calls: a packet offered to the device, and the report that its write has finished. Rules R5, N1 and N2.
-- Assumes nothing.
use Rattle.std.specs.Prelude.{◌≡◌, ℕ, Bool, List, [], ◌∷◌, length, Option, Some, None, Result, Ok, Err}
use Rattle.lists.specs.Starting.{starting}
use Rattle.refusal.specs.Numbers.{Numbers, accepted_with, refused_with}
use Rattle.refusal.specs.declared.Refusal.{Refusal}
use Rattle.guard.specs.Guard.{guard}
use Rattle.railbus.specs.Layout.{packet_text}
use Rattle.railbus.specs.Reading.{read_packet}
use Rattle.railbus.specs.declared.Message.{Message}
use Rattle.railbus.specs.declared.Packet.{Packet}
use Rattle.relay.specs.Device.{Relay, valid_relay}
use Rattle.relay.specs.Answers.{Finish, on_packet, on_finish}
use Rattle.relay.specs.declared.Remembered.{Remembered}
use Rattle.relay.specs.declared.Response.{Response}
use Rattle.relay.specs.declared.Relayed.{Relayed}

-- an answer buffer holds the longest packet
abbrev pub relay_room : ℕ
relay_room = 17

-- ---- what is said, as text: own address, the register named, and the message

abbrev pub answer_text : ℕ → ℕ → Message → List ℕ
answer_text address register message = packet_text (record { address = address; register = register; message = message })

abbrev pub said_text : ℕ → ℕ → Option Message → List ℕ
said_text address register None = []
said_text address register (Some message) = answer_text address register message

abbrev pub reply_of : ℕ → ℕ → Option Message → Result (Option ℕ) Refusal
reply_of address register None = Ok None
reply_of address register (Some message) = Ok (Some (length (answer_text address register message)))

-- its numbers: how many characters; none where there is no answer
abbrev pub reply_numbers : Result (Option ℕ) Refusal → Numbers
reply_numbers (Ok (Some size)) = accepted_with (size ∷ [])
reply_numbers (Ok None) = accepted_with []
reply_numbers (Err why) = refused_with why

-- ---- what a call gives: the answer, and afterwards the lent buffer, the registers and the remembered write

pub record Relaying : Type 0 where
  pub reply : Result (Option ℕ) Refusal
  pub buffer : List ℕ
  pub registers : List ℕ
  pub write : Remembered

-- a refusal leaves everything as it was
abbrev pub relay_refusing : Refusal → List ℕ → Relay → Remembered → Relaying
relay_refusing why buffer d write = record { reply = Err why; buffer = buffer; registers = d.registers; write = write }

-- an answer overwrites the start of the buffer and nothing behind it; without one the buffer stays
abbrev pub relaying : ℕ → ℕ → Option Message → List ℕ → List ℕ → Remembered → Relaying
relaying address register said buffer registers write =
    record { reply = reply_of address register said; buffer = starting (said_text address register said) buffer; registers = registers; write = write }

abbrev pub responded : ℕ → ℕ → Response → List ℕ → List ℕ → Relaying
responded address register response buffer registers = relaying address register response.said buffer registers response.write

-- ---- a packet offered to the device with this address

-- one that the reader took, its checksum examined or not; one that it refused is refused as the reader did. No register changes
abbrev pub offered : ℕ → Result (Packet × Bool) Refusal → List ℕ → Relay → Remembered → Relaying
offered address (Ok (p, checked)) buffer d write = responded address p.register (on_packet address p d write) buffer d.registers
offered address (Err why) buffer d write = relay_refusing why buffer d write

-- first the guard, then what was read
abbrev pub offer_behind : Result (Unit {0}) Refusal → ℕ → Result (Packet × Bool) Refusal → List ℕ → Relay → Remembered → Relaying
offer_behind (Ok tt) address read buffer d write = offered address read buffer d write
offer_behind (Err why) address read buffer d write = relay_refusing why buffer d write

unfoldable pub offer_call : ℕ → List ℕ → List ℕ → Relay → Remembered → Relaying
offer_call address input buffer d write = offer_behind (guard relay_room (length buffer) (valid_relay d)) address (read_packet input) buffer d write

-- ---- the report that the write has finished

abbrev pub finished : ℕ → Finish → List ℕ → Relaying
finished address f buffer = relaying address f.register f.said buffer f.registers f.write

abbrev pub finish_behind : Result (Unit {0}) Refusal → ℕ → List ℕ → Relay → Remembered → Relaying
finish_behind (Ok tt) address buffer d write = finished address (on_finish write d.registers) buffer
finish_behind (Err why) address buffer d write = relay_refusing why buffer d write

unfoldable pub finish_call : ℕ → List ℕ → Relay → Remembered → Relaying
finish_call address buffer d write = finish_behind (guard relay_room (length buffer) (valid_relay d)) address buffer d write

-- ---- what a call is promised to give: its result, which shows answer and remembered write (as itself, or as a caller of another
-- language takes it), and what the lent buffer and the registers hold afterwards

pub record Relays {A : Type 0} (shows : Result (Option ℕ) Refusal → Remembered → A) (given : Relaying) (r : A) (buffer registers : List ℕ) : Type 0 where
  pub result : r ≡ shows given.reply given.write
  pub buffer_is : buffer ≡ given.buffer
  pub registers_are : registers ≡ given.registers

abbrev pub relayed : Result (Option ℕ) Refusal → Remembered → Relayed
relayed reply write = record { reply = reply; write = write }
