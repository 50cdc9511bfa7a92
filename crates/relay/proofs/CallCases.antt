-- What a call gives by the way it gets past its guard, or does not, and what is said, as it is written.
-- Assumes nothing.
use Rattle.std.specs.Prelude.{Option, Result, Ok, Err, Some, None}
use mathlib.Core.Path.{◌≡◌, refl, sym, ap, ◌∙◌, subst}
use mathlib.Core.Bool.{Bool}
use mathlib.Core.List.{List}
use mathlib.Mathlib.Logic.Function.Defs.{id}
use Prim.Native.Nat.{ℕ, ◌≤◌}
use native.Mathlib.Omega.{arith}
use lib.ListN.{length, set}
use borrow.Author.Tests.{eq-eqb, ne_eqb}
use Rattle.lists.specs.Choice.{pick}
use Rattle.lists.specs.Starting.{starting}
use Rattle.refusal.specs.Output.{Output, bytes, written, left, Wrote}
use Rattle.refusal.specs.declared.Refusal.{Refusal}
use Rattle.refusal.proofs.Writer.{fits_whole}
use Rattle.guard.specs.Guard.{guard}
use Rattle.railbus.specs.Layout.{packet_text}
use Rattle.railbus.specs.Reading.{read_packet}
use Rattle.railbus.specs.Writing.{write_packet}
use Rattle.railbus.specs.declared.Long.TheVariants.{WriteAcknowledge}
use Rattle.railbus.specs.declared.Message.{Message}
use Rattle.railbus.specs.declared.Message.TheVariants.{With}
use Rattle.railbus.specs.declared.Packet.{Packet}
use Rattle.railbus.proofs.Writer.{packet_length}
use Rattle.relay.specs.Device.{Relay, valid_relay, value_at, access_at}
use Rattle.relay.specs.Answers.{responding, on_message, on_packet, on_finish}
use Rattle.relay.specs.Calls.{relay_room, answer_text, said_text, reply_of, Relaying, Relays, relayed, relay_refusing, responded, offered, offer_behind, offer_call, finished, finish_behind, finish_call}
use Rattle.relay.specs.declared.Remembered.{Remembered}
use Rattle.relay.specs.declared.Remembered.TheVariants.{Idle, Running, Finished}
use Rattle.relay.specs.declared.Response.{Response}
use Rattle.relay.specs.declared.Relayed.{Relayed}

-- ---- what is said, into a buffer that holds the longest packet

-- the writer refuses no packet there
written_whole : (p : Packet) (room : ℕ) → relay_room ≤ room → write_packet p room ≡ bytes (packet_text p)
unfolding write_packet
written_whole p room h = fits_whole (packet_text p) room (omega (arith, packet_length p))

module _ (address register : ℕ) (said : Option Message) (message : Message) (says : said ≡ Some message) (buffer new : List ℕ) (room : relay_room ≤ length buffer) (r : Result ℕ Refusal)
    (wrote : Wrote id (write_packet (record { address = address; register = register; message = message }) (length buffer)) r buffer new) where
  whole : write_packet (record { address = address; register = register; message = message }) (length buffer) ≡ bytes (answer_text address register message)
  whole = written_whole (record { address = address; register = register; message = message }) (length buffer) room

  length_written : r ≡ Ok (length (answer_text address register message))
  length_written = wrote.result ∙ ap written whole

  pub said_written : (size : ℕ) → r ≡ Ok size → (Ok (Some size) ≡ reply_of address register said) × (new ≡ starting (said_text address register said) buffer)
  said_written size e =
      let l = length_written in
      let same : size ≡ length (answer_text address register message) = cc in (
        ap (λ (n : ℕ). Ok (Some n)) same ∙ sym (ap (reply_of address register) says),
        wrote.output ∙ ap (λ (o : Output). left o buffer) whole ∙ sym (ap (λ (s : Option Message). starting (said_text address register s) buffer) says),
      )

  -- so this does not come
  pub said_fits : {P : Type 0} (why : Refusal) → r ≡ Err why → P
  said_fits why e = let l = length_written in
      let z : ◌≡◌ {A = ℕ} 0 1 = cc in absurd (let f : ⊥ = omega arith in f)

-- ---- a packet that was read

module _ (address : ℕ) (p : Packet) (d : Relay) (write : Remembered) (buffer : List ℕ) where
  abbrev given_for : Relaying
  given_for = responded address p.register (on_packet address p d write) buffer d.registers

  pub for_another : (p.address ≡ address → ⊥) → Relays relayed given_for (relayed (Ok None) write) buffer d.registers
  unfolding on_packet
  for_another other =
      let e : responding None write ≡ on_packet address p d write =
      sym (ap (λ (b : Bool). pick b (on_message (access_at d p.register) (value_at d p.register) p.register p.message write) (responding None write)) (ne_eqb p.address address other)) in
      subst (λ (x : Response). Relays relayed (responded address p.register x buffer d.registers) (relayed (Ok None) write) buffer d.registers) e (record { result = refl; buffer_is = refl; registers_are = refl })

  pub for_us : (response : Response) (reply : Result (Option ℕ) Refusal) (new : List ℕ) → p.address ≡ address
      → response ≡ on_message (access_at d p.register) (value_at d p.register) p.register p.message write
      → (reply ≡ reply_of address p.register response.said) × (new ≡ starting (said_text address p.register response.said) buffer)
      → Relays relayed given_for (relayed reply response.write) new d.registers
  unfolding on_packet
  for_us response reply new own is says =
      let e : response ≡ on_packet address p d write =
      is
      ∙ sym (ap (λ (b : Bool). pick b (on_message (access_at d p.register) (value_at d p.register) p.register p.message write) (responding None write)) (eq-eqb p.address address own)) in
      subst (λ (x : Response). Relays relayed (responded address p.register x buffer d.registers) (relayed reply response.write) new d.registers) e
      (record { result = ap (λ (x : Result (Option ℕ) Refusal). relayed x response.write) says.0; buffer_is = says.1; registers_are = refl })

-- ---- the calls

-- a guard that refuses nothing has passed
pub behind_guard : (d : Relay) (room : ℕ) (ok : Bool) (r : Result (Unit {0}) Refusal) → ok ≡ valid_relay d → r ≡ guard relay_room room ok
    → ((why : Refusal) → r ≡ Err why → ⊥) → guard relay_room room (valid_relay d) ≡ Ok tt
behind_guard d room ok (Ok tt) valid e passes = sym (e ∙ ap (guard relay_room room) valid)
behind_guard d room ok (Err why) valid e passes = absurd (passes why refl)

module _ (address : ℕ) (buffer : List ℕ) (d : Relay) (write : Remembered) where
  abbrev admitted : Result (Unit {0}) Refusal
  admitted = guard relay_room (length buffer) (valid_relay d)

  -- the promise of a refused call
  pub refused_call : {given : Relaying} (why : Refusal) (r : Relayed) → given ≡ relay_refusing why buffer d write → r ≡ relayed (Err why) write
      → Relays relayed given r buffer d.registers
  refused_call {given} why r e is =
      subst (λ (g : Relaying). Relays relayed g r buffer d.registers) (sym e) (record { result = is; buffer_is = refl; registers_are = refl })

  module _ (input : List ℕ) where
    pub offer_refused : (why : Refusal) → admitted ≡ Err why → offer_call address input buffer d write ≡ relay_refusing why buffer d write
    unfolding offer_call
    offer_refused why g = ap (λ (x : Result (Unit {0}) Refusal). offer_behind x address (read_packet input) buffer d write) g

    offer_passed : (read : Result (Packet × Bool) Refusal) → admitted ≡ Ok tt → read_packet input ≡ read → offer_call address input buffer d write ≡ offered address read buffer d write
    unfolding offer_call
    offer_passed read g e =
        ap (λ (x : Result (Unit {0}) Refusal). offer_behind x address (read_packet input) buffer d write) g ∙ ap (λ (x : Result (Packet × Bool) Refusal). offered address x buffer d write) e

    pub offer_unread : (why : Refusal) → admitted ≡ Ok tt → read_packet input ≡ Err why → offer_call address input buffer d write ≡ relay_refusing why buffer d write
    offer_unread why g e = offer_passed (Err why) g e

    pub offer_found : (p : Packet) (checked : Bool) → admitted ≡ Ok tt → read_packet input ≡ Ok (p, checked)
        → responded address p.register (on_packet address p d write) buffer d.registers ≡ offer_call address input buffer d write
    offer_found p checked g e = sym (offer_passed (Ok (p, checked)) g e)

  pub finish_refused : (why : Refusal) → admitted ≡ Err why → finish_call address buffer d write ≡ relay_refusing why buffer d write
  unfolding finish_call
  finish_refused why g = ap (λ (x : Result (Unit {0}) Refusal). finish_behind x address buffer d write) g

  finish_passed : admitted ≡ Ok tt → finish_call address buffer d write ≡ finished address (on_finish write d.registers) buffer
  unfolding finish_call
  finish_passed g = ap (λ (x : Result (Unit {0}) Refusal). finish_behind x address buffer d write) g

  -- the running write, as it is said and stored
  pub finish_running : (register value : ℕ) (reply : Result (Option ℕ) Refusal) (new : List ℕ) → admitted ≡ Ok tt → write ≡ Running register value
      → (reply ≡ reply_of address register (Some (With WriteAcknowledge value)))
      × (new ≡ starting (said_text address register (Some (With WriteAcknowledge value))) buffer)
      → Relays relayed (finish_call address buffer d write) (relayed reply (Finished register value)) new (set d.registers register value)
  finish_running register value reply new g e says =
      subst (λ (x : Relaying). Relays relayed x (relayed reply (Finished register value)) new (set d.registers register value))
      (sym (finish_passed g ∙ ap (λ (w : Remembered). finished address (on_finish w d.registers) buffer) e))
      (record { result = ap (λ (x : Result (Option ℕ) Refusal). relayed x (Finished register value)) says.0; buffer_is = says.1; registers_are = refl })

  -- none runs
  pub finish_none : admitted ≡ Ok tt → ((register value : ℕ) → write ≡ Running register value → ⊥)
      → Relays relayed (finish_call address buffer d write) (relayed (Ok None) write) buffer d.registers
  finish_none g other = subst (λ (x : Relaying). Relays relayed x (relayed (Ok None) write) buffer d.registers) (sym (finish_passed g)) (none write other)
    where
      none : (w : Remembered) → ((register value : ℕ) → w ≡ Running register value → ⊥)
          → Relays relayed (finished address (on_finish w d.registers) buffer) (relayed (Ok None) w) buffer d.registers
      none Idle still = record { result = refl; buffer_is = refl; registers_are = refl }
      none (Running register value) still = absurd (still register value refl)
      none (Finished register value) still = record { result = refl; buffer_is = refl; registers_are = refl }
