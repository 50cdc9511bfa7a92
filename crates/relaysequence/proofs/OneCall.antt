-- One call: what it did is what is heard of it.
-- Assumes nothing.
use Rattle.std.specs.Prelude.{Bool, Result, Ok, Err}
use mathlib.Core.Path.{◌≡◌, refl, sym, ◌∙◌, subst}
use mathlib.Core.List.{List, ◌++◌, append-nil}
use Prim.Native.Nat.{ℕ, ◌^◌, ◌<◌}
use lib.ListN.{length, get_or}
use Rattle.refusal.specs.declared.Refusal.{Refusal}
use Rattle.guard.specs.Guard.{guard}
use Rattle.railbus.specs.Reading.{read_packet}
use Rattle.railbus.specs.RoundTrip.{RailbusPackets}
use Rattle.railbus.specs.declared.Packet.{Packet}
use Rattle.relay.specs.Device.{valid_relay}
use Rattle.relay.specs.Answers.{on_packet, on_finish}
use Rattle.relay.specs.Calls.{Relaying, relay_room, relay_refusing, responded, offer_behind, offer_call, finished, finish_behind, finish_call}
use Rattle.relaysequence.specs.Calls.{Call, offer, finish, State, relay_of, stepped}
use Rattle.relaysequence.specs.Heard.{Heard, silence, heard_of, received_by, received_in, carried_by, carried_in, stored, now_finished, asks_sync, tell_offer, tell, running_in}
use Rattle.relaysequence.specs.Sequence.{WriteFits, AddressFits}
use Rattle.relaysequence.proofs.Hearing.{found_holds, said_heard}
use Rattle.relaysequence.proofs.Answers.{unsynced, packet_responds, finishes}

-- what holds of a call
pub record Did (call : Call) (s : State) : Type 0 where
  pub once : running_in s.write ++ received_in call s ≡ carried_in call s ++ running_in (stepped call s).write
  pub stores : (stepped call s).registers ≡ stored (carried_in call s) s.registers
  pub tells : (stepped call s).write ≡ tell call s s.write
  pub fits : WriteFits (stepped call s).write
  pub registers_fit : (register : ℕ) → get_or (stepped call s).registers register 0 < 2 ^ 32

-- the same of what an offer and of what a finish gave, where this was heard
record Offered (read : Result (Packet × Bool) Refusal) (s : State) (g : Relaying) (h : Heard) : Type 0 where
  stays : g.registers ≡ s.registers
  once : running_in s.write ++ received_by read h ≡ running_in g.write
  tells : g.write ≡ tell_offer read h (received_by read h) s.write
  fits : WriteFits g.write

record Reported (s : State) (g : Relaying) (h : Heard) : Type 0 where
  once : running_in s.write ≡ carried_by h ++ running_in g.write
  stores : g.registers ≡ stored (carried_by h) s.registers
  tells : g.write ≡ now_finished (carried_by h) s.write
  fits : WriteFits g.write
  registers_fit : (register : ℕ) → get_or g.registers register 0 < 2 ^ 32

module _ (packets : RailbusPackets) (address : ℕ) (own : address < 256) (access buffer : List ℕ) (s : State)
    (fits : WriteFits s.write) (each : (register : ℕ) → get_or s.registers register 0 < 2 ^ 32) where
  refused : (read : Result (Packet × Bool) Refusal) (why : Refusal) → Offered read s (relay_refusing why buffer (relay_of s access) s.write) silence
  refused (Ok (p, checked)) why = record { stays = refl; once = append-nil (running_in s.write); tells = sym (unsynced (asks_sync p.message) s.write); fits = fits }
  refused (Err because) why = record { stays = refl; once = append-nil (running_in s.write); tells = refl; fits = fits }

  offered_behind : (input : List ℕ) (read : Result (Packet × Bool) Refusal) → read_packet input ≡ read → (g : Result (Unit {0}) Refusal)
      → Offered read s (offer_behind g address read buffer (relay_of s access) s.write) (heard_of (offer_behind g address read buffer (relay_of s access) s.write))
  offered_behind input (Ok (p, checked)) e (Ok tt) =
      let response = on_packet address p (relay_of s access) s.write in
      let holds = found_holds packets input p checked e in
      let r = packet_responds address p (relay_of s access) s.write holds (each p.register) fits in
      subst (Offered (Ok (p, checked)) s (responded address p.register response buffer s.registers))
      (sym (said_heard packets address p.register own holds.register_right response.said buffer s.registers response.write r.right))
      (record { stays = refl; once = r.once; tells = r.tells; fits = r.fits })
  offered_behind input (Err because) e (Ok tt) = refused (Err because) because
  offered_behind input read e (Err why) = refused read why

  reported_behind : (g : Result (Unit {0}) Refusal) → Reported s (finish_behind g address buffer (relay_of s access) s.write) (heard_of (finish_behind g address buffer (relay_of s access) s.write))
  unfolding stored
  reported_behind (Ok tt) =
      let report = on_finish s.write s.registers in
      let f = finishes address s.write s.registers fits each in
      subst (Reported s (finished address report buffer))
      (sym (said_heard packets address report.register own f.named report.said buffer report.registers report.write f.right))
      (record { once = f.once; stores = f.stores; tells = f.tells; fits = f.fits; registers_fit = f.registers_fit })
  reported_behind (Err why) = record { once = refl; stores = refl; tells = refl; fits = fits; registers_fit = each }

  offer_did : (input : List ℕ) → Did (offer address input access buffer) s
  unfolding offer_call stored
  offer_did input =
      let d = offered_behind input (read_packet input) refl (guard relay_room (length buffer) (valid_relay (relay_of s access))) in
      record {
        once = d.once;
        stores = d.stays;
        tells = d.tells;
        fits = d.fits;
        registers_fit = λ register. subst (λ (registers : List ℕ). get_or registers register 0 < 2 ^ 32) (sym d.stays) (each register);
      }

  finish_did : Did (finish address access buffer) s
  unfolding finish_call
  finish_did =
      let d = reported_behind (guard relay_room (length buffer) (valid_relay (relay_of s access))) in
      record { once = append-nil (running_in s.write) ∙ d.once; stores = d.stores; tells = d.tells; fits = d.fits; registers_fit = d.registers_fit }

pub call_did : RailbusPackets → (call : Call) (s : State) → AddressFits call → WriteFits s.write → ((register : ℕ) → get_or s.registers register 0 < 2 ^ 32) → Did call s
call_did packets (offer address input access buffer) s own fits each = offer_did packets address own access buffer s fits each input
call_did packets (finish address access buffer) s own fits each = finish_did packets address own access buffer s fits each
