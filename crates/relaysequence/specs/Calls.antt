-- Calls on one relay device, made one after the other: packets offered to it and reports that its write has finished, in any order.
-- What rule R11 speaks of.
-- Assumes nothing.
use Rattle.std.specs.Prelude.{ℕ, List, [], ◌∷◌}
use Rattle.relay.specs.Device.{Relay}
use Rattle.relay.specs.Calls.{Relaying, offer_call, finish_call}
use Rattle.relay.specs.declared.Remembered.{Remembered}

-- a call, with all that it is handed but registers and remembered write: its own address, for an offer the characters, then the access
-- bytes and the answer buffer. None of them is ruled out, and access bytes may differ from call to call
pub data Call : Type 0 where
  offer : ℕ → List ℕ → List ℕ → List ℕ → Call
  finish : ℕ → List ℕ → List ℕ → Call

-- what is lent to it: access bytes and answer buffer
abbrev pub access_of : Call → List ℕ
access_of (offer address input access buffer) = access
access_of (finish address access buffer) = access

abbrev pub buffer_of : Call → List ℕ
buffer_of (offer address input access buffer) = buffer
buffer_of (finish address access buffer) = buffer

-- what the calls are made on
pub record State : Type 0 where
  pub registers : List ℕ
  pub write : Remembered

abbrev pub relay_of : State → List ℕ → Relay
relay_of s access = record { registers = s.registers; access = access }

-- by the definitions that the contracts of the calls promise their results by
abbrev pub given : Call → State → Relaying
given (offer address input access buffer) s = offer_call address input buffer (relay_of s access) s.write
given (finish address access buffer) s = finish_call address buffer (relay_of s access) s.write

abbrev pub stepped : Call → State → State
stepped call s = record { registers = (given call s).registers; write = (given call s).write }

unfoldable pub after_all : List Call → State → State
after_all [] s = s
after_all (call ∷ calls) s = after_all calls (stepped call s)
