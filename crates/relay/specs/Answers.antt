-- What a relay device says to a packet, and to the report that its write has finished: rules R6 to R10.
-- Assumes nothing.
use Rattle.std.specs.Prelude.{ℕ, Bool, ◌&&◌, List, eqb, set, Option, Some, None}
use Rattle.lists.specs.Choice.{pick}
use Rattle.railbus.specs.declared.Short.TheVariants.{ReadRequest, Sync, NotAcknowledge}
use Rattle.railbus.specs.declared.Long.TheVariants.{WriteRequest, ReadAcknowledge, WriteAcknowledge, Special}
use Rattle.railbus.specs.declared.Message.{Message}
use Rattle.railbus.specs.declared.Message.TheVariants.{Bare, With}
use Rattle.railbus.specs.declared.Packet.{Packet}
use Rattle.relay.specs.Device.{Relay, is_absent, may_read, may_write, value_at, access_at}
use Rattle.relay.specs.declared.Remembered.{Remembered}
use Rattle.relay.specs.declared.Remembered.TheVariants.{Idle, Running, Finished}
use Rattle.relay.specs.declared.Response.{Response}

-- ---- the reasons that an 'n' carries

abbrev pub received : ℕ
received = 0x01

abbrev pub retransmission : ℕ
retransmission = 0x02

abbrev pub done_before : ℕ
done_before = 0x03

abbrev pub forbidden : ℕ
forbidden = 0x07

abbrev pub busy : ℕ
busy = 0x08

abbrev pub synced : ℕ
synced = 0x10

abbrev pub special : ℕ → Option Message
special reason = Some (With Special reason)

abbrev pub responding : Option Message → Remembered → Response
responding said write = record { said = said; write = write }

-- ---- rule R8: a write to a register that may be written, by the one that is remembered

-- a copy: the same register and the same data
abbrev pub copy : ℕ → ℕ → ℕ → ℕ → Bool
copy register value register' value' = eqb register register' && eqb value value'

abbrev pub on_write : ℕ → ℕ → Remembered → Response
on_write register value Idle = responding (special received) (Running register value)
on_write register value (Running running new) =
    responding (special (pick (copy register value running new) retransmission busy)) (Running running new)
on_write register value (Finished finished done) =
    pick (copy register value finished done)
    (responding (special done_before) (Finished finished done))
    (responding (special received) (Running register value))

-- ---- rule R10: sync

abbrev pub on_sync : Remembered → Response
on_sync Idle = responding (special synced) Idle
on_sync (Running running new) = responding (special busy) (Running running new)
on_sync (Finished finished done) = responding (special synced) Idle

-- ---- rules R6 and R7

-- before all else: an absent register, then an access that is forbidden; neither touches the remembered write
abbrev pub behind_access : ℕ → Bool → Remembered → Response → Response
behind_access access may write response =
    pick (is_absent access) (responding (Some (Bare NotAcknowledge)) write) (pick may response (responding (special forbidden) write))

-- what is said to a packet for the device's own address, by the register's access byte and what it holds
abbrev pub on_message : ℕ → ℕ → ℕ → Message → Remembered → Response
on_message access value register (Bare ReadRequest) write = behind_access access (may_read access) write (responding (Some (With ReadAcknowledge value)) write)
on_message access value register (Bare Sync) write = on_sync write
on_message access value register (Bare NotAcknowledge) write = responding None write
on_message access value register (With WriteRequest new) write = behind_access access (may_write access) write (on_write register new write)
on_message access value register (With ReadAcknowledge new) write = responding None write
on_message access value register (With WriteAcknowledge new) write = responding None write
on_message access value register (With Special new) write = responding None write

-- a packet for another address gets no answer and changes nothing
unfoldable pub on_packet : ℕ → Packet → Relay → Remembered → Response
on_packet address p d write =
    pick (eqb p.address address)
    (on_message (access_at d p.register) (value_at d p.register) p.register p.message write)
    (responding None write)

-- ---- rule R9: the running write has finished

-- what is said, of which register; the registers and the remembered write afterwards
pub record Finish : Type 0 where
  pub said : Option Message
  pub register : ℕ
  pub registers : List ℕ
  pub write : Remembered

abbrev pub on_finish : Remembered → List ℕ → Finish
on_finish Idle registers = record { said = None; register = 0; registers = registers; write = Idle }
on_finish (Running running new) registers =
    record { said = Some (With WriteAcknowledge new); register = running; registers = set registers running new; write = Finished running new }
on_finish (Finished finished done) registers = record { said = None; register = 0; registers = registers; write = Finished finished done }
