-- What a device says to a message and to a finish, beside the write that it remembers: which write was received or carried out is
-- heard, and nothing else is.
-- Assumes nothing.
use Rattle.std.specs.Prelude.{Option, Ok, Some, None}
use mathlib.Core.Path.{◌≡◌, refl, sym, ap, ◌∙◌}
use mathlib.Core.Bool.{Bool, true, false, ◌&&◌}
use mathlib.Core.List.{List, [], ◌++◌, append-nil}
use Prim.Native.Nat.{ℕ, ◌^◌, ◌<◌}
use native.Mathlib.Omega.{arith}
use lib.Dec.{eqb}
use lib.ListN.{get_or}
use Rattle.lists.specs.Choice.{pick}
use Rattle.lists.proofs.Cases.{pick_cases}
use Rattle.railbus.specs.Layout.{DataRight, Holds}
use Rattle.railbus.specs.declared.Short.TheVariants.{ReadRequest, Sync, NotAcknowledge}
use Rattle.railbus.specs.declared.Long.TheVariants.{WriteRequest, ReadAcknowledge, WriteAcknowledge, Special}
use Rattle.railbus.specs.declared.Message.{Message}
use Rattle.railbus.specs.declared.Message.TheVariants.{Bare, With}
use Rattle.railbus.specs.declared.Packet.{Packet}
use Rattle.relay.specs.Device.{Relay, is_absent, may_read, may_write, value_at, access_at}
use Rattle.relay.specs.Answers.{received, retransmission, done_before, forbidden, busy, special, responding, copy, on_write, on_sync, behind_access, on_message, on_packet, Finish, on_finish}
use Rattle.relay.specs.declared.Remembered.{Remembered}
use Rattle.relay.specs.declared.Remembered.TheVariants.{Idle, Running, Finished}
use Rattle.relay.specs.declared.Response.{Response}
use Rattle.relaysequence.specs.Heard.{Write, received_by, carried_by, stored, now_finished, asks_sync, tell_offer, running_in}
use Rattle.relaysequence.specs.Sequence.{WriteFits, answer}
use Rattle.relaysequence.proofs.Hearing.{hearing, SaidRight}
use Rattle.relaysequence.proofs.Registers.{set_below}

-- ---- to a message

-- the write that a message had taken, by what was said
abbrev pub taken : ℕ → ℕ → Message → Option Message → List Write
taken address register message said = received_by (Ok (answer address register message, true)) (hearing address register said)

-- the write to remember, as what was said tells, where the message had these taken
abbrev telling_of : ℕ → ℕ → Message → Option Message → List Write → Remembered → Remembered
telling_of address register message said writes write = tell_offer (Ok (answer address register message, true)) (hearing address register said) writes write

pub record Responds (address register : ℕ) (message : Message) (write : Remembered) (r : Response) : Type 0 where
  pub right : SaidRight r.said
  pub once : running_in write ++ taken address register message r.said ≡ running_in r.write
  pub tells : r.write ≡ telling_of address register message r.said (taken address register message r.said) write
  pub fits : WriteFits r.write

-- where n 10 was not said, nothing is forgotten, whatever the message is
pub unsynced : (sync : Bool) (write : Remembered) → pick (sync && false) Idle write ≡ write
unsynced true write = refl
unsynced false write = refl

module _ (address register : ℕ) where
  -- an answer that neither takes a write nor forgets one
  unmoved : (message : Message) (write : Remembered) (said : Option Message) → SaidRight said → WriteFits write
      → taken address register message said ≡ [] → telling_of address register message said [] write ≡ write → Responds address register message write (responding said write)
  unmoved message write said right fits none same =
      record {
        right = right;
        once = ap (λ (writes : List Write). running_in write ++ writes) none ∙ append-nil (running_in write);
        tells = sym (ap (λ (writes : List Write). telling_of address register message said writes write) none ∙ same);
        fits = fits;
      }

  module _ (write : Remembered) (fits : WriteFits write) where
    -- one behind the register's access byte
    behind : (access : ℕ) (may : Bool) (message : Message) (r : Response) → Responds address register message write r
        → Responds address register message write (behind_access access may write r)
    behind access may message r passed =
        pick_cases (Responds address register message write) (is_absent access) (responding (Some (Bare NotAcknowledge)) write) (pick may r (responding (special forbidden) write))
        (λ absent. unmoved message write (Some (Bare NotAcknowledge)) tt fits refl (unsynced (asks_sync message) write))
        (λ there. pick_cases (Responds address register message write) may r (responding (special forbidden) write)
        (λ yes. passed) (λ no. unmoved message write (special forbidden) (omega arith) fits refl (unsynced (asks_sync message) write)))

    silent : (message : Message) → Responds address register message write (responding None write)
    silent message = unmoved message write None tt fits refl (unsynced (asks_sync message) write)

  -- a write that is taken: none runs, and from then on it does
  takes : (value : ℕ) (write : Remembered) → running_in write ≡ [] → register < 256 → value < 2 ^ 32
      → Responds address register (With WriteRequest value) write (responding (special received) (Running register value))
  takes value write idle named small =
      record { right = omega arith; once = ap (λ (writes : List Write). writes ++ taken address register (With WriteRequest value) (special received)) idle; tells = refl; fits = (named, small) }

  on_write_lem : (value : ℕ) (write : Remembered) → WriteFits write → register < 256 → value < 2 ^ 32
      → Responds address register (With WriteRequest value) write (on_write register value write)
  on_write_lem value Idle fits named small = takes value Idle refl named small
  on_write_lem value (Running running new) fits named small =
      pick_cases (λ (why : ℕ). Responds address register (With WriteRequest value) (Running running new) (responding (special why) (Running running new)))
      (copy register value running new) retransmission busy
      (λ again. unmoved (With WriteRequest value) (Running running new) (special retransmission) (omega arith) fits refl refl)
      (λ another. unmoved (With WriteRequest value) (Running running new) (special busy) (omega arith) fits refl refl)
  on_write_lem value (Finished finished done) fits named small =
      pick_cases (Responds address register (With WriteRequest value) (Finished finished done)) (copy register value finished done)
      (responding (special done_before) (Finished finished done)) (responding (special received) (Running register value))
      (λ again. unmoved (With WriteRequest value) (Finished finished done) (special done_before) (omega arith) fits refl refl)
      (λ another. takes value (Finished finished done) refl named small)

  on_sync_lem : (write : Remembered) → WriteFits write → Responds address register (Bare Sync) write (on_sync write)
  on_sync_lem Idle fits = record { right = omega arith; once = refl; tells = refl; fits = tt }
  on_sync_lem (Running running new) fits = unmoved (Bare Sync) (Running running new) (special busy) (omega arith) fits refl refl
  on_sync_lem (Finished finished done) fits = record { right = omega arith; once = refl; tells = refl; fits = tt }

  pub responds : (access held : ℕ) (message : Message) (write : Remembered) → held < 2 ^ 32 → register < 256 → DataRight message → WriteFits write
      → Responds address register message write (on_message access held register message write)
  responds access held (Bare ReadRequest) write small named right fits =
      behind write fits access (may_read access) (Bare ReadRequest) (responding (Some (With ReadAcknowledge held)) write)
      (unmoved (Bare ReadRequest) write (Some (With ReadAcknowledge held)) small fits refl refl)
  responds access held (Bare Sync) write small named right fits = on_sync_lem write fits
  responds access held (Bare NotAcknowledge) write small named right fits = silent write fits (Bare NotAcknowledge)
  responds access held (With WriteRequest value) write small named right fits =
      behind write fits access (may_write access) (With WriteRequest value) (on_write register value write) (on_write_lem value write fits named right)
  responds access held (With ReadAcknowledge value) write small named right fits = silent write fits (With ReadAcknowledge value)
  responds access held (With WriteAcknowledge value) write small named right fits = silent write fits (With WriteAcknowledge value)
  responds access held (With Special value) write small named right fits = silent write fits (With Special value)

-- a packet for another address is not answered
pub packet_responds : (address : ℕ) (p : Packet) (d : Relay) (write : Remembered) → Holds p → value_at d p.register < 2 ^ 32 → WriteFits write
    → Responds address p.register p.message write (on_packet address p d write)
unfolding on_packet
packet_responds address p d write holds small fits =
    pick_cases (Responds address p.register p.message write) (eqb p.address address)
    (on_message (access_at d p.register) (value_at d p.register) p.register p.message write) (responding None write)
    (λ own. responds address p.register (access_at d p.register) (value_at d p.register) p.message write small holds.register_right holds.data_right fits)
    (λ other. silent address p.register write fits p.message)

-- ---- to a finish

-- the write that was carried out, as what was said says
abbrev pub carried : ℕ → Finish → List Write
carried address f = carried_by (hearing address f.register f.said)

pub record Finishes (address : ℕ) (write : Remembered) (registers : List ℕ) (f : Finish) : Type 0 where
  pub named : f.register < 256
  pub right : SaidRight f.said
  pub once : running_in write ≡ carried address f ++ running_in f.write
  pub stores : f.registers ≡ stored (carried address f) registers
  pub tells : f.write ≡ now_finished (carried address f) write
  pub fits : WriteFits f.write
  pub registers_fit : (register : ℕ) → get_or f.registers register 0 < 2 ^ 32

pub finishes : (address : ℕ) (write : Remembered) (registers : List ℕ) → WriteFits write → ((register : ℕ) → get_or registers register 0 < 2 ^ 32)
    → Finishes address write registers (on_finish write registers)
unfolding stored
finishes address Idle registers fits each =
    record { named = omega arith; right = tt; once = refl; stores = refl; tells = refl; fits = tt; registers_fit = each }
finishes address (Running running new) registers fits each =
    record {
      named = fits.0;
      right = fits.1;
      once = refl;
      stores = refl;
      tells = refl;
      fits = fits;
      registers_fit = λ register. set_below registers running new register (2 ^ 32) fits.1 (each register);
    }
finishes address (Finished finished done) registers fits each =
    record { named = omega arith; right = tt; once = refl; stores = refl; tells = refl; fits = fits; registers_fit = each }
