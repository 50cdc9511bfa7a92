-- Rule R11, as one claim about any list of calls on one relay device: packets offered and finishes reported, in any order, refused ones
-- included. A write that was received is carried out exactly once, the last one as soon as its finish is reported; no register changes
-- otherwise; and of a call made next the claim says what it gives, whatever it is. Each field has beside it what it says. The proof is in
-- proofs/Kept.antt; nothing here needs it to be read.
-- Assumes nothing.
use Rattle.std.specs.Prelude.{◌≡◌, ℕ, ◌^◌, ◌<◌, Bool, true, false, not, ◌||◌, List, [], ◌∷◌, ◌++◌, eqb, ltb, length, get_or, Option, Some, None, Result, Ok, Err}
use Rattle.lists.specs.Choice.{pick}
use Rattle.lists.specs.Starting.{starting}
use Rattle.refusal.specs.Number.{output_short, table_not_valid, at_place}
use Rattle.refusal.specs.declared.Refusal.{Refusal}
use Rattle.railbus.specs.Layout.{packet_text}
use Rattle.railbus.specs.Reading.{read_packet}
use Rattle.railbus.specs.declared.Short.TheVariants.{ReadRequest, Sync, NotAcknowledge}
use Rattle.railbus.specs.declared.Long.TheVariants.{WriteRequest, ReadAcknowledge, WriteAcknowledge, Special}
use Rattle.railbus.specs.declared.Message.{Message}
use Rattle.railbus.specs.declared.Message.TheVariants.{Bare, With}
use Rattle.railbus.specs.declared.Packet.{Packet}
use Rattle.relay.specs.Device.{is_absent, may_read, may_write, valid_relay}
use Rattle.relay.specs.Answers.{received, retransmission, done_before, forbidden, busy, synced, copy}
use Rattle.relay.specs.Calls.{relay_room, Relaying, relay_refusing}
use Rattle.relay.specs.declared.Remembered.{Remembered}
use Rattle.relay.specs.declared.Remembered.TheVariants.{Idle, Running, Finished}
use Rattle.relaysequence.specs.Calls.{Call, offer, finish, access_of, buffer_of, State, relay_of, given, after_all}
use Rattle.relaysequence.specs.Heard.{heard, heard_of, received_writes, carried_out, stored, last_to, told, running_in}

-- ---- what the types of the calls allow: bytes for addresses and registers' numbers, 32 bits for what they hold

abbrev pub WriteFits : Remembered → Type 0
WriteFits Idle = Unit {0}
WriteFits (Running register value) = (register < 256) × (value < 2 ^ 32)
WriteFits (Finished register value) = (register < 256) × (value < 2 ^ 32)

abbrev pub AddressFits : Call → Type 0
AddressFits (offer address input access buffer) = address < 256
AddressFits (finish address access buffer) = address < 256

abbrev pub AddressesFit : List Call → Type 0
AddressesFit [] = Unit {0}
AddressesFit (call ∷ calls) = AddressFits call × AddressesFit calls

pub record Fits (before : State) (calls : List Call) : Type 0 where
  pub write_fits : WriteFits before.write
  pub registers_fit : (register : ℕ) → get_or before.registers register 0 < 2 ^ 32
  pub addresses_fit : AddressesFit calls

-- ---- a call made next

-- why it is refused, if it is: its buffer is under 17 characters, registers and access bytes are not valid, or the reader refused its packet
abbrev pub device_refusal : State → List ℕ → List ℕ → Option Refusal → Option Refusal
device_refusal now access buffer otherwise =
    pick (ltb (length buffer) relay_room) (Some (at_place output_short 0))
    (pick (valid_relay (relay_of now access)) otherwise (Some (at_place table_not_valid 0)))

abbrev pub reader_refusal : Result (Packet × Bool) Refusal → Option Refusal
reader_refusal (Ok (p, checked)) = None
reader_refusal (Err why) = Some why

abbrev pub refusal_due : Call → State → Option Refusal
refusal_due (offer address input access buffer) now = device_refusal now access buffer (reader_refusal (read_packet input))
refusal_due (finish address access buffer) now = device_refusal now access buffer None

-- no answer: the buffer, the registers and the remembered write are as they were
abbrev pub unanswered : Call → State → Relaying
unanswered call now = record { reply = Ok None; buffer = buffer_of call; registers = now.registers; write = now.write }

-- it is answered with this packet: its characters stand at the start of the buffer, nothing behind them changes, and it is read as that
pub record Answered (call : Call) (now : State) (p : Packet) : Type 0 where
  pub reply_is : (given call now).reply ≡ Ok (Some (length (packet_text p)))
  pub buffer_is : (given call now).buffer ≡ starting (packet_text p) (buffer_of call)
  pub read_as : heard_of (given call now) ≡ heard p

-- a packet that reaches the device: it is not refused, and is for the address
pub record Reaches (now : State) (address : ℕ) (input access buffer : List ℕ) (p : Packet) : Type 0 where
  pub admitted : refusal_due (offer address input access buffer) now ≡ None
  pub checked : Bool
  pub found : read_packet input ≡ Ok (p, checked)
  pub own : p.address ≡ address

-- a packet that asks nothing of it: it is for another address, or is itself an answer
abbrev pub is_answer : Message → Bool
is_answer (Bare ReadRequest) = false
is_answer (Bare Sync) = false
is_answer (Bare NotAcknowledge) = true
is_answer (With WriteRequest value) = false
is_answer (With ReadAcknowledge value) = true
is_answer (With WriteAcknowledge value) = true
is_answer (With Special value) = true

abbrev pub asks_nothing : ℕ → Packet → Bool
asks_nothing address p = not (eqb p.address address) || is_answer p.message

-- an answer: own address and the register that was named
abbrev pub answer : ℕ → ℕ → Message → Packet
answer address register message = record { address = address; register = register; message = message }

-- an absent register is answered N, a forbidden access n 07, before all else
abbrev pub by_access : ℕ → Bool → Message → Message
by_access access may message = pick (is_absent access) (Bare NotAcknowledge) (pick may message (With Special forbidden))

-- why a write is answered as it is, by the write that must be remembered
abbrev pub reason : ℕ → ℕ → Remembered → ℕ
reason register value Idle = received
reason register value (Running running new) = pick (copy register value running new) retransmission busy
reason register value (Finished finished done) = pick (copy register value finished done) done_before received

abbrev pub sync_reason : Remembered → ℕ
sync_reason Idle = synced
sync_reason (Running running new) = busy
sync_reason (Finished finished done) = synced

-- ---- the claim

pub record Kept (before : State) (calls : List Call) : Type 0 where
  -- each write that was answered 01, behind the one that ran at first if one did, is carried out exactly once, in their order, and nothing
  -- else is; the last one may still run. As this holds of every beginning of the calls too, a write is carried out before the next is received
  pub exactly_once : running_in before.write ++ received_writes calls before ≡ carried_out calls before ++ running_in (after_all calls before).write
  -- no register changes but by those
  pub registers_are : (after_all calls before).registers ≡ stored (carried_out calls before) before.registers
  -- the device remembers what the packets tell
  pub remembered : (after_all calls before).write ≡ told calls before before.write
  -- a call made next is refused for these reasons alone, and then changes nothing, its buffer included
  pub refuses : (call : Call) (why : Refusal) → refusal_due call (after_all calls before) ≡ Some why
      → given call (after_all calls before) ≡ relay_refusing why (buffer_of call) (relay_of (after_all calls before) (access_of call)) (after_all calls before).write
  -- a read made next, where the access byte allows it, is answered with what the last write carried out to that register left, or with what the
  -- register held at first; also while a write runs
  pub reads : (address : ℕ) (input access buffer : List ℕ) (p : Packet) → Reaches (after_all calls before) address input access buffer p → p.message ≡ Bare ReadRequest
      → Answered (offer address input access buffer) (after_all calls before)
      (answer address p.register
      (by_access (get_or access p.register 0) (may_read (get_or access p.register 0))
      (With ReadAcknowledge (last_to p.register (get_or before.registers p.register 0) (carried_out calls before)))))
  -- a write made next, where the access byte allows it, is answered by what the packets tell: a copy of the write that must be remembered with 02
  -- or 03, and so is not carried out again
  pub writes : (address : ℕ) (input access buffer : List ℕ) (p : Packet) (value : ℕ) → Reaches (after_all calls before) address input access buffer p
      → p.message ≡ With WriteRequest value
      → Answered (offer address input access buffer) (after_all calls before)
      (answer address p.register
      (by_access (get_or access p.register 0) (may_write (get_or access p.register 0))
      (With Special (reason p.register value (told calls before before.write)))))
  -- a sync made next is answered 08 while a write runs, and else 10
  pub syncs : (address : ℕ) (input access buffer : List ℕ) (p : Packet) → Reaches (after_all calls before) address input access buffer p → p.message ≡ Bare Sync
      → Answered (offer address input access buffer) (after_all calls before)
      (answer address p.register (With Special (sync_reason (told calls before before.write))))
  -- a packet that asks nothing of the device gets no answer and changes nothing
  pub unasked : (address : ℕ) (input access buffer : List ℕ) (p : Packet) (checked : Bool) → refusal_due (offer address input access buffer) (after_all calls before) ≡ None
      → read_packet input ≡ Ok (p, checked) → asks_nothing address p ≡ true
      → given (offer address input access buffer) (after_all calls before) ≡ unanswered (offer address input access buffer) (after_all calls before)
  -- a finish made next is answered with the I of the write that runs; where none runs it gets no answer and changes nothing
  pub finishes : (address : ℕ) (access buffer : List ℕ) (register value : ℕ) → address < 256
      → refusal_due (finish address access buffer) (after_all calls before) ≡ None → told calls before before.write ≡ Running register value
      → Answered (finish address access buffer) (after_all calls before) (answer address register (With WriteAcknowledge value))
  pub nothing_runs : (address : ℕ) (access buffer : List ℕ) → refusal_due (finish address access buffer) (after_all calls before) ≡ None
      → running_in (told calls before before.write) ≡ []
      → given (finish address access buffer) (after_all calls before) ≡ unanswered (finish address access buffer) (after_all calls before)

-- for any registers, any write remembered and any list of calls
abbrev pub RelayKept : Type 0
RelayKept = (before : State) (calls : List Call) → Fits before calls → Kept before calls
