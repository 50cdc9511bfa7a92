-- Which calls are refused, and what those give that are not.
-- Assumes nothing.
use Rattle.std.specs.Prelude.{Option, Some, None, Result, Ok, Err}
use mathlib.Core.Path.{◌≡◌, refl, ap, ap₂, ◌∙◌}
use mathlib.Core.Bool.{Bool, true}
use mathlib.Core.List.{List}
use Prim.Native.Nat.{ℕ}
use native.Mathlib.Omega.{arith}
use lib.Dec.{ltb}
use lib.ListN.{length}
use Rattle.lists.proofs.Cases.{by_test}
use Rattle.refusal.specs.declared.Refusal.{Refusal}
use Rattle.guard.specs.Guard.{guard}
use Rattle.guard.proofs.GuardCases.{guard_valid}
use Rattle.railbus.specs.Reading.{read_packet}
use Rattle.railbus.specs.declared.Packet.{Packet}
use Rattle.relay.specs.Device.{Relay, valid_relay}
use Rattle.relay.specs.Answers.{on_packet, on_finish}
use Rattle.relay.specs.Calls.{relay_room, relay_refusing, responded, offer_behind, offer_call, finished, finish_behind, finish_call}
use Rattle.relay.specs.declared.Remembered.{Remembered}
use Rattle.relaysequence.specs.Calls.{Call, offer, finish, access_of, buffer_of, State, relay_of, given}
use Rattle.relaysequence.specs.Sequence.{device_refusal, reader_refusal, refusal_due}

-- ---- by the guard

-- why a call is refused: as its guard says, or as is said behind it
abbrev verdict : Result (Unit {0}) Refusal → Option Refusal → Option Refusal
verdict (Ok tt) behind = behind
verdict (Err why) behind = Some why

let_pass : (g : Result (Unit {0}) Refusal) (behind : Option Refusal) → verdict g behind ≡ None → g ≡ Ok tt
let_pass (Ok tt) behind e = refl
let_pass (Err why) behind e = let z : ◌≡◌ {A = ℕ} 0 1 = cc in absurd (let n : ⊥ = omega arith in n)

module _ (address : ℕ) (buffer : List ℕ) (d : Relay) (write : Remembered) where
  offer_refused : (g : Result (Unit {0}) Refusal) (read : Result (Packet × Bool) Refusal) (why : Refusal) → verdict g (reader_refusal read) ≡ Some why
      → offer_behind g address read buffer d write ≡ relay_refusing why buffer d write
  offer_refused (Err because) read why e = let same : because ≡ why = cc in ap (λ (x : Refusal). relay_refusing x buffer d write) same
  offer_refused (Ok tt) (Err because) why e = let same : because ≡ why = cc in ap (λ (x : Refusal). relay_refusing x buffer d write) same
  offer_refused (Ok tt) (Ok (p, checked)) why e = let z : ◌≡◌ {A = ℕ} 0 1 = cc in absurd (let n : ⊥ = omega arith in n)

  finish_refused : (g : Result (Unit {0}) Refusal) (why : Refusal) → verdict g None ≡ Some why → finish_behind g address buffer d write ≡ relay_refusing why buffer d write
  finish_refused (Err because) why e = let same : because ≡ why = cc in ap (λ (x : Refusal). relay_refusing x buffer d write) same
  finish_refused (Ok tt) why e = let z : ◌≡◌ {A = ℕ} 0 1 = cc in absurd (let n : ⊥ = omega arith in n)

-- ---- a call on a device

module _ (s : State) (access buffer : List ℕ) where
  abbrev guarded : Result (Unit {0}) Refusal
  guarded = guard relay_room (length buffer) (valid_relay (relay_of s access))

  -- the guard refuses for these reasons, the room before the device
  guard_due : (behind : Option Refusal) → verdict guarded behind ≡ device_refusal s access buffer behind
  unfolding guard
  guard_due behind =
      by_test (ltb (length buffer) relay_room) (λ short. rw short refl)
      (λ room. by_test (valid_relay (relay_of s access)) (λ valid. rw (room, valid) refl) (λ wrong. rw (room, wrong) refl))

  passed : (behind : Option Refusal) → device_refusal s access buffer behind ≡ None → guarded ≡ Ok tt
  passed behind e = let_pass guarded behind (guard_due behind ∙ e)

  pub admitted_valid : (behind : Option Refusal) → device_refusal s access buffer behind ≡ None → valid_relay (relay_of s access) ≡ true
  admitted_valid behind e = guard_valid relay_room (length buffer) (valid_relay (relay_of s access)) (passed behind e)

  module _ (address : ℕ) where
    pub offer_admitted : (input : List ℕ) (p : Packet) (checked : Bool) → refusal_due (offer address input access buffer) s ≡ None → read_packet input ≡ Ok (p, checked)
        → given (offer address input access buffer) s ≡ responded address p.register (on_packet address p (relay_of s access) s.write) buffer s.registers
    unfolding offer_call
    offer_admitted input p checked e found =
        ap₂ (λ (g : Result (Unit {0}) Refusal) (read : Result (Packet × Bool) Refusal). offer_behind g address read buffer (relay_of s access) s.write) (passed (reader_refusal (read_packet input)) e) found

    pub finish_admitted : refusal_due (finish address access buffer) s ≡ None
        → given (finish address access buffer) s ≡ finished address (on_finish s.write s.registers) buffer
    unfolding finish_call
    finish_admitted e = ap (λ (g : Result (Unit {0}) Refusal). finish_behind g address buffer (relay_of s access) s.write) (passed None e)

pub refused_next : (call : Call) (s : State) (why : Refusal) → refusal_due call s ≡ Some why
    → given call s ≡ relay_refusing why (buffer_of call) (relay_of s (access_of call)) s.write
unfolding offer_call finish_call
refused_next (offer address input access buffer) s why e =
    offer_refused address buffer (relay_of s access) s.write (guarded s access buffer) (read_packet input) why (guard_due s access buffer (reader_refusal (read_packet input)) ∙ e)
refused_next (finish address access buffer) s why e =
    finish_refused address buffer (relay_of s access) s.write (guarded s access buffer) why (guard_due s access buffer None ∙ e)
