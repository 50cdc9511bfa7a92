-- Calls that get no answer and change nothing: packets that ask nothing of the device, and a finish where no write runs.
-- Assumes nothing.
use Rattle.std.specs.Prelude.{Ok, None}
use mathlib.Core.Path.{◌≡◌, refl, ap, ◌∙◌}
use mathlib.Core.Bool.{Bool, true, false, not, ◌||◌}
use mathlib.Core.List.{List, []}
use Prim.Native.Nat.{ℕ}
use native.Mathlib.Omega.{arith}
use lib.Dec.{eqb}
use Rattle.lists.proofs.Cases.{pick_cases, true_not_false}
use Rattle.railbus.specs.Reading.{read_packet}
use Rattle.railbus.specs.declared.Short.TheVariants.{ReadRequest, Sync, NotAcknowledge}
use Rattle.railbus.specs.declared.Long.TheVariants.{WriteRequest, ReadAcknowledge, WriteAcknowledge, Special}
use Rattle.railbus.specs.declared.Message.{Message}
use Rattle.railbus.specs.declared.Message.TheVariants.{Bare, With}
use Rattle.railbus.specs.declared.Packet.{Packet}
use Rattle.relay.specs.Device.{Relay, value_at, access_at}
use Rattle.relay.specs.Answers.{responding, on_message, on_packet, on_finish}
use Rattle.relay.specs.Calls.{responded, finished}
use Rattle.relay.specs.declared.Remembered.{Remembered}
use Rattle.relay.specs.declared.Remembered.TheVariants.{Idle, Running, Finished}
use Rattle.relay.specs.declared.Response.{Response}
use Rattle.relaysequence.specs.Calls.{offer, finish, State, relay_of, given}
use Rattle.relaysequence.specs.Heard.{running_in}
use Rattle.relaysequence.specs.Sequence.{refusal_due, unanswered, is_answer, asks_nothing}
use Rattle.relaysequence.proofs.Refusals.{offer_admitted, finish_admitted}

-- ---- a packet that asks nothing

-- nothing is said to an answer
to_answer : (access held register : ℕ) (message : Message) (write : Remembered) → is_answer message ≡ true → on_message access held register message write ≡ responding None write
to_answer access held register (Bare ReadRequest) write e = true_not_false e refl
to_answer access held register (Bare Sync) write e = true_not_false e refl
to_answer access held register (Bare NotAcknowledge) write e = refl
to_answer access held register (With WriteRequest value) write e = true_not_false e refl
to_answer access held register (With ReadAcknowledge value) write e = refl
to_answer access held register (With WriteAcknowledge value) write e = refl
to_answer access held register (With Special value) write e = refl

-- what asks nothing and is for the own address is an answer
own_answer : (own answers : Bool) → own ≡ true → (not own || answers) ≡ true → answers ≡ true
own_answer true answers e h = h
own_answer false answers e h = true_not_false e refl

nothing_said : (address : ℕ) (p : Packet) (d : Relay) (write : Remembered) → asks_nothing address p ≡ true → on_packet address p d write ≡ responding None write
unfolding on_packet
nothing_said address p d write asks =
    pick_cases (λ (r : Response). r ≡ responding None write) (eqb p.address address)
    (on_message (access_at d p.register) (value_at d p.register) p.register p.message write) (responding None write)
    (λ own. to_answer (access_at d p.register) (value_at d p.register) p.register p.message write (own_answer (eqb p.address address) (is_answer p.message) own asks))
    (λ apart. refl)

pub unasked_next : (s : State) (address : ℕ) (input access buffer : List ℕ) (p : Packet) (checked : Bool) → refusal_due (offer address input access buffer) s ≡ None
    → read_packet input ≡ Ok (p, checked) → asks_nothing address p ≡ true
    → given (offer address input access buffer) s ≡ unanswered (offer address input access buffer) s
unasked_next s address input access buffer p checked admitted found asks =
    offer_admitted s access buffer address input p checked admitted found
    ∙ ap (λ (r : Response). responded address p.register r buffer s.registers) (nothing_said address p (relay_of s access) s.write asks)

-- ---- a finish where no write runs

idle_finish : (address : ℕ) (buffer registers : List ℕ) (write : Remembered) → running_in write ≡ []
    → finished address (on_finish write registers) buffer ≡ record { reply = Ok None; buffer = buffer; registers = registers; write = write }
idle_finish address buffer registers Idle idle = refl
idle_finish address buffer registers (Running running new) idle = let z : ◌≡◌ {A = ℕ} 0 1 = cc in absurd (let n : ⊥ = omega arith in n)
idle_finish address buffer registers (Finished finished done) idle = refl

pub idle_next : (s : State) (address : ℕ) (access buffer : List ℕ) → refusal_due (finish address access buffer) s ≡ None → running_in s.write ≡ []
    → given (finish address access buffer) s ≡ unanswered (finish address access buffer) s
idle_next s address access buffer admitted idle = finish_admitted s access buffer address admitted ∙ idle_finish address buffer s.registers s.write idle
