-- What is told of a device by the packets alone, those offered and those heard: which writes were received, which were carried out,
-- and which one it must remember.
-- Assumes nothing.
use Rattle.std.specs.Prelude.{ℕ, Bool, true, false, ◌&&◌, List, [], ◌∷◌, ◌++◌, eqb, take, set, Option, Some, None, Result, Ok, Err}
use Rattle.lists.specs.Choice.{pick}
use Rattle.refusal.specs.declared.Refusal.{Refusal}
use Rattle.railbus.specs.Reading.{read_packet}
use Rattle.railbus.specs.declared.Short.TheVariants.{ReadRequest, Sync, NotAcknowledge}
use Rattle.railbus.specs.declared.Long.TheVariants.{WriteRequest, ReadAcknowledge, WriteAcknowledge, Special}
use Rattle.railbus.specs.declared.Message.{Message}
use Rattle.railbus.specs.declared.Message.TheVariants.{Bare, With}
use Rattle.railbus.specs.declared.Packet.{Packet}
use Rattle.relay.specs.Answers.{received, synced}
use Rattle.relay.specs.Calls.{Relaying}
use Rattle.relay.specs.declared.Remembered.{Remembered}
use Rattle.relay.specs.declared.Remembered.TheVariants.{Idle, Running, Finished}
use Rattle.relaysequence.specs.Calls.{Call, offer, finish, State, given, stepped}

-- ---- what is heard: the answer at the start of the buffer, as the reader of packets takes it

pub data Heard : Type 0 where
  silence : Heard
  heard : Packet → Heard

abbrev pub as_read : Result (Packet × Bool) Refusal → Heard
as_read (Ok (p, checked)) = heard p
as_read (Err why) = silence

abbrev pub heard_in : Result (Option ℕ) Refusal → List ℕ → Heard
heard_in (Ok (Some size)) buffer = as_read (read_packet (take size buffer))
heard_in (Ok None) buffer = silence
heard_in (Err why) buffer = silence

abbrev pub heard_of : Relaying → Heard
heard_of g = heard_in g.reply g.buffer

-- it is an n with this reason
abbrev pub says_special : ℕ → Message → Bool
says_special reason (Bare short) = false
says_special reason (With WriteRequest value) = false
says_special reason (With ReadAcknowledge value) = false
says_special reason (With WriteAcknowledge value) = false
says_special reason (With Special value) = eqb value reason

abbrev pub is_special : ℕ → Heard → Bool
is_special reason silence = false
is_special reason (heard p) = says_special reason p.message

-- ---- writes: which register, and what it is to hold

pub record Write : Type 0 where
  pub register : ℕ
  pub value : ℕ

abbrev pub a_write : ℕ → ℕ → Write
a_write register value = record { register = register; value = value }

-- the write that a packet asks for, if it is a W
abbrev pub write_asked : ℕ → Message → List Write
write_asked register (Bare short) = []
write_asked register (With WriteRequest value) = a_write register value ∷ []
write_asked register (With ReadAcknowledge value) = []
write_asked register (With WriteAcknowledge value) = []
write_asked register (With Special value) = []

-- the write that a packet says was carried out, if it is an I
abbrev pub write_done : ℕ → Message → List Write
write_done register (Bare short) = []
write_done register (With WriteRequest value) = []
write_done register (With ReadAcknowledge value) = []
write_done register (With WriteAcknowledge value) = a_write register value ∷ []
write_done register (With Special value) = []

-- ---- one call

-- the write that it received: its packet asks for one, and n 01 is heard
abbrev pub received_by : Result (Packet × Bool) Refusal → Heard → List Write
received_by (Ok (p, checked)) h = pick (is_special received h) (write_asked p.register p.message) []
received_by (Err why) h = []

abbrev pub received_in : Call → State → List Write
received_in (offer address input access buffer) s = received_by (read_packet input) (heard_of (given (offer address input access buffer) s))
received_in (finish address access buffer) s = []

-- the write that it carried out: an I is heard on a finish
abbrev pub carried_by : Heard → List Write
carried_by silence = []
carried_by (heard p) = write_done p.register p.message

abbrev pub carried_in : Call → State → List Write
carried_in (offer address input access buffer) s = []
carried_in (finish address access buffer) s = carried_by (heard_of (given (finish address access buffer) s))

-- ---- all calls

unfoldable pub received_writes : List Call → State → List Write
received_writes [] s = []
received_writes (call ∷ calls) s = received_in call s ++ received_writes calls (stepped call s)

unfoldable pub carried_out : List Call → State → List Write
carried_out [] s = []
carried_out (call ∷ calls) s = carried_in call s ++ carried_out calls (stepped call s)

-- registers that these writes were stored into, one after the other
unfoldable pub stored : List Write → List ℕ → List ℕ
stored [] registers = registers
stored (w ∷ writes) registers = stored writes (set registers w.register w.value)

-- what the last of these writes to a register left; what it held before them where there is none
unfoldable pub last_to : ℕ → ℕ → List Write → ℕ
last_to register held [] = held
last_to register held (w ∷ writes) = last_to register (pick (eqb w.register register) w.value held) writes

-- ---- the write that must be remembered: the last one received, until another is or an S is answered n 10; it runs until its I is heard

abbrev pub now_running : List Write → Remembered → Remembered
now_running [] r = r
now_running (w ∷ writes) r = Running w.register w.value

abbrev pub now_finished : List Write → Remembered → Remembered
now_finished [] r = r
now_finished (w ∷ writes) r = Finished w.register w.value

-- whether a packet is an S
abbrev pub asks_sync : Message → Bool
asks_sync (Bare ReadRequest) = false
asks_sync (Bare Sync) = true
asks_sync (Bare NotAcknowledge) = false
asks_sync (With long value) = false

abbrev pub is_sync : Result (Packet × Bool) Refusal → Bool
is_sync (Ok (p, checked)) = asks_sync p.message
is_sync (Err why) = false

-- by the packet of an offer, what is heard of it, and the write that it received
abbrev pub tell_offer : Result (Packet × Bool) Refusal → Heard → List Write → Remembered → Remembered
tell_offer read h writes r = pick (is_sync read && is_special synced h) Idle (now_running writes r)

abbrev pub tell : Call → State → Remembered → Remembered
tell (offer address input access buffer) s r =
    tell_offer (read_packet input) (heard_of (given (offer address input access buffer) s)) (received_in (offer address input access buffer) s) r
tell (finish address access buffer) s r = now_finished (carried_in (finish address access buffer) s) r

unfoldable pub told : List Call → State → Remembered → Remembered
told [] s r = r
told (call ∷ calls) s r = told calls (stepped call s) (tell call s r)

-- a write that runs
abbrev pub running_in : Remembered → List Write
running_in Idle = []
running_in (Running register value) = a_write register value ∷ []
running_in (Finished register value) = []
