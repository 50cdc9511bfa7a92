-- Rule R11: `RelayKept`, from what is proved of packets.
-- Assumes nothing.
use mathlib.Core.Path.{◌≡◌, ap, ◌∙◌, subst}
use mathlib.Core.List.{List, []}
use Prim.Native.Nat.{ℕ, ◌<◌}
use native.Mathlib.Omega.{arith}
use lib.ListN.{length, get_or}
use Rattle.railbus.proofs.RoundTrip.{railbus_packets}
use Rattle.railbus.specs.Reading.{read_packet}
use Rattle.railbus.specs.RoundTrip.{RailbusPackets}
use Rattle.railbus.specs.declared.Long.TheVariants.{ReadAcknowledge, Special}
use Rattle.railbus.specs.declared.Message.TheVariants.{With}
use Rattle.railbus.specs.declared.Packet.{Packet}
use Rattle.relay.specs.Device.{may_read, may_write}
use Rattle.relay.specs.declared.Remembered.{Remembered}
use Rattle.relay.proofs.Validity.{registers_long}
use Rattle.relaysequence.specs.Calls.{Call, offer, State, relay_of, after_all}
use Rattle.relaysequence.specs.Heard.{carried_out, stored, last_to, told, running_in}
use Rattle.relaysequence.specs.Sequence.{Fits, reader_refusal, Answered, Reaches, answer, by_access, reason, sync_reason, Kept, RelayKept}
use Rattle.relaysequence.proofs.Hearing.{found_holds}
use Rattle.relaysequence.proofs.Registers.{stored_length, stored_there}
use Rattle.relaysequence.proofs.AllCalls.{all_fit, all_once, all_stored, all_told}
use Rattle.relaysequence.proofs.Refusals.{admitted_valid, refused_next}
use Rattle.relaysequence.proofs.Unchanged.{unasked_next, idle_next}
use Rattle.relaysequence.proofs.Next.{read_next, write_next, sync_next, finish_next}

module _ (packets : RailbusPackets) (before : State) (calls : List Call) (fits : Fits before calls) where
  abbrev now : State
  now = after_all calls before

  now_fits : Fits now []
  now_fits = all_fit packets calls before fits

  remembers : now.write ≡ told calls before before.write
  remembers = all_told packets calls before fits

  stores : now.registers ≡ stored (carried_out calls before) before.registers
  stores = all_stored packets calls before fits

  held : (address : ℕ) (input access buffer : List ℕ) (p : Packet) → Reaches now address input access buffer p
      → get_or now.registers p.register 0 ≡ last_to p.register (get_or before.registers p.register 0) (carried_out calls before)
  held address input access buffer p reaches =
      let holds = found_holds packets input p reaches.checked reaches.found in
      let there : p.register < length before.registers =
      omega (arith, holds.register_right, ap length stores, registers_long (relay_of now access) (admitted_valid now access buffer (reader_refusal (read_packet input)) reaches.admitted), stored_length (carried_out calls before) before.registers) in
      ap (λ (registers : List ℕ). get_or registers p.register 0) stores ∙ stored_there (carried_out calls before) before.registers p.register there

  all_kept : Kept before calls
  all_kept =
      record {
        exactly_once = all_once packets calls before fits;
        registers_are = stores;
        remembered = remembers;
        refuses = λ call why e. refused_next call now why e;
        reads = λ address input access buffer p reaches is.
            subst
            (λ (value : ℕ). Answered (offer address input access buffer) now
            (answer address p.register (by_access (get_or access p.register 0) (may_read (get_or access p.register 0)) (With ReadAcknowledge value))))
            (held address input access buffer p reaches) (read_next packets now now_fits address access buffer input p reaches is);
        writes = λ address input access buffer p value reaches is.
            subst
            (λ (write : Remembered). Answered (offer address input access buffer) now
            (answer address p.register (by_access (get_or access p.register 0) (may_write (get_or access p.register 0)) (With Special (reason p.register value write)))))
            remembers (write_next packets now now_fits address access buffer input p reaches value is);
        syncs = λ address input access buffer p reaches is.
            subst (λ (write : Remembered). Answered (offer address input access buffer) now (answer address p.register (With Special (sync_reason write))))
            remembers (sync_next packets now now_fits address access buffer input p reaches is);
        unasked = λ address input access buffer p checked admitted found asks. unasked_next now address input access buffer p checked admitted found asks;
        finishes = λ address access buffer register value own admitted runs.
            finish_next packets now now_fits address access buffer register value own admitted (remembers ∙ runs);
        nothing_runs = λ address access buffer admitted idle. idle_next now address access buffer admitted (ap running_in remembers ∙ idle);
      }

pub kept_by : RailbusPackets → RelayKept
kept_by packets before calls fits = all_kept packets before calls fits

pub relay_kept : RelayKept
relay_kept = kept_by railbus_packets
