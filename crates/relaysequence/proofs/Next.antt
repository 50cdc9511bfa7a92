-- A call made next that is answered: with which packet, by what the device holds and remembers at that moment.
-- Assumes nothing.
use Rattle.std.specs.Prelude.{Option, Some, None}
use mathlib.Core.Path.{◌≡◌, refl, ap, ◌∙◌, subst}
use mathlib.Core.Bool.{Bool, true, false}
use mathlib.Core.List.{List, []}
use Prim.Native.Nat.{ℕ, ◌<◌}
use lib.ListN.{get_or}
use borrow.Author.Tests.{eq-eqb}
use Rattle.lists.specs.Choice.{pick}
use Rattle.railbus.specs.Layout.{DataRight}
use Rattle.railbus.specs.RoundTrip.{RailbusPackets}
use Rattle.railbus.specs.declared.Short.TheVariants.{ReadRequest, Sync, NotAcknowledge}
use Rattle.railbus.specs.declared.Long.TheVariants.{WriteRequest, ReadAcknowledge, WriteAcknowledge, Special}
use Rattle.railbus.specs.declared.Message.{Message}
use Rattle.railbus.specs.declared.Message.TheVariants.{Bare, With}
use Rattle.railbus.specs.declared.Packet.{Packet}
use Rattle.relay.specs.Device.{is_absent, may_read, may_write}
use Rattle.relay.specs.Answers.{received, done_before, forbidden, special, responding, copy, on_write, on_sync, on_message, on_packet, on_finish}
use Rattle.relay.specs.Calls.{Relaying, relaying, finished}
use Rattle.relay.specs.declared.Remembered.{Remembered}
use Rattle.relay.specs.declared.Remembered.TheVariants.{Idle, Running, Finished}
use Rattle.relay.specs.declared.Response.{Response}
use Rattle.relaysequence.specs.Calls.{Call, offer, finish, buffer_of, State, relay_of, given}
use Rattle.relaysequence.specs.Heard.{heard_of}
use Rattle.relaysequence.specs.Sequence.{WriteFits, Fits, refusal_due, Answered, Reaches, answer, by_access, reason, sync_reason}
use Rattle.relaysequence.proofs.Hearing.{SaidRight, found_holds, answer_heard}
use Rattle.relaysequence.proofs.Answers.{packet_responds}
use Rattle.relaysequence.proofs.Refusals.{offer_admitted, finish_admitted}

-- ---- what is said

by_access_lem : (absent may : Bool) (write : Remembered) (r : Response) (message : Message) → r.said ≡ Some message
    → (pick absent (responding (Some (Bare NotAcknowledge)) write) (pick may r (responding (special forbidden) write))).said
    ≡ Some (pick absent (Bare NotAcknowledge) (pick may message (With Special forbidden)))
by_access_lem true may write r message e = refl
by_access_lem false true write r message e = e
by_access_lem false false write r message e = refl

write_said : (register value : ℕ) (write : Remembered) → (on_write register value write).said ≡ special (reason register value write)
write_said register value Idle = refl
write_said register value (Running running new) = refl
write_said register value (Finished finished done) = go (copy register value finished done)
  where
    go : (again : Bool)
        → (pick again (responding (special done_before) (Finished finished done)) (responding (special received) (Running register value))).said ≡ special (pick again done_before received)
    go true = refl
    go false = refl

sync_said : (write : Remembered) → (on_sync write).said ≡ special (sync_reason write)
sync_said Idle = refl
sync_said (Running running new) = refl
sync_said (Finished finished done) = refl

-- ---- what is said is the answer

module _ (packets : RailbusPackets) where
  answered : (call : Call) (now : State) (address register : ℕ) (message : Message) (registers : List ℕ) (write : Remembered) → address < 256 → register < 256 → DataRight message
      → given call now ≡ relaying address register (Some message) (buffer_of call) registers write → Answered call now (answer address register message)
  answered call now address register message registers write own named right gives =
      record {
        reply_is = ap (λ (g : Relaying). g.reply) gives;
        buffer_is = ap (λ (g : Relaying). g.buffer) gives;
        read_as = ap heard_of gives ∙ answer_heard packets address register own named message (buffer_of call) right;
      }

  module _ (now : State) (fits : Fits now []) (address : ℕ) (access buffer : List ℕ) where
    -- ---- a packet that reaches the device

    module _ (input : List ℕ) (p : Packet) (reaches : Reaches now address input access buffer p) where
      abbrev held : ℕ
      held = get_or now.registers p.register 0

      abbrev rights : ℕ
      rights = get_or access p.register 0

      own_packet : on_packet address p (relay_of now access) now.write ≡ on_message rights held p.register p.message now.write
      unfolding on_packet
      own_packet = rw (eq-eqb p.address address reaches.own)

      -- what is said to its message is the answer
      answer_next : (asked message : Message) → p.message ≡ asked → (on_message rights held p.register asked now.write).said ≡ Some message
          → Answered (offer address input access buffer) now (answer address p.register message)
      answer_next asked message is says =
          let response = on_packet address p (relay_of now access) now.write in
          let holds = found_holds packets input p reaches.checked reaches.found in
          let r = packet_responds address p (relay_of now access) now.write holds (fits.registers_fit p.register) fits.write_fits in
          let said_is : response.said ≡ Some message =
          ap (λ (x : Response). x.said) own_packet ∙ ap (λ (m : Message). (on_message rights held p.register m now.write).said) is ∙ says in
          answered (offer address input access buffer) now address p.register message now.registers response.write
          (subst (λ (a : ℕ). a < 256) reaches.own holds.address_right) holds.register_right (subst SaidRight said_is r.right)
          (offer_admitted now access buffer address input p reaches.checked reaches.admitted reaches.found
          ∙ ap (λ (said : Option Message). relaying address p.register said buffer now.registers response.write) said_is)

      pub read_next : p.message ≡ Bare ReadRequest
          → Answered (offer address input access buffer) now (answer address p.register (by_access rights (may_read rights) (With ReadAcknowledge held)))
      read_next is =
          answer_next (Bare ReadRequest) (by_access rights (may_read rights) (With ReadAcknowledge held)) is
          (by_access_lem (is_absent rights) (may_read rights) now.write (responding (Some (With ReadAcknowledge held)) now.write) (With ReadAcknowledge held) refl)

      pub write_next : (value : ℕ) → p.message ≡ With WriteRequest value
          → Answered (offer address input access buffer) now
          (answer address p.register (by_access rights (may_write rights) (With Special (reason p.register value now.write))))
      write_next value is =
          answer_next (With WriteRequest value) (by_access rights (may_write rights) (With Special (reason p.register value now.write))) is
          (by_access_lem (is_absent rights) (may_write rights) now.write (on_write p.register value now.write) (With Special (reason p.register value now.write))
          (write_said p.register value now.write))

      pub sync_next : p.message ≡ Bare Sync → Answered (offer address input access buffer) now (answer address p.register (With Special (sync_reason now.write)))
      sync_next is = answer_next (Bare Sync) (With Special (sync_reason now.write)) is (sync_said now.write)

    -- ---- a finish

    pub finish_next : (register value : ℕ) → address < 256 → refusal_due (finish address access buffer) now ≡ None → now.write ≡ Running register value
        → Answered (finish address access buffer) now (answer address register (With WriteAcknowledge value))
    finish_next register value own admitted runs =
        let report = on_finish (Running register value) now.registers in
        let small : WriteFits (Running register value) = subst WriteFits runs fits.write_fits in
        answered (finish address access buffer) now address register (With WriteAcknowledge value) report.registers report.write own small.0 small.1
        (finish_admitted now access buffer address admitted ∙ ap (λ (write : Remembered). finished address (on_finish write now.registers) buffer) runs)
