-- What a device says is heard: its answer, at the start of the buffer, is read back as what went into it.
-- Assumes nothing.
use Rattle.std.specs.Prelude.{Option, Ok, Some, None}
use mathlib.Core.Path.{◌≡◌, refl, ap, ◌∙◌}
use mathlib.Core.Bool.{Bool, true, false}
use mathlib.Core.List.{List}
use Prim.Native.Nat.{ℕ, ◌<◌}
use lib.ListN.{length, drop}
use lib.Seq.{take-append_seam}
use Rattle.lists.specs.Starting.{starting}
use Rattle.railbus.specs.Layout.{DataRight, Holds}
use Rattle.railbus.specs.Reading.{read_packet}
use Rattle.railbus.specs.RoundTrip.{RailbusPackets}
use Rattle.railbus.specs.declared.Message.{Message}
use Rattle.railbus.specs.declared.Packet.{Packet}
use Rattle.relay.specs.Calls.{answer_text, relaying}
use Rattle.relay.specs.declared.Remembered.{Remembered}
use Rattle.relaysequence.specs.Heard.{Heard, silence, heard, as_read, heard_in, heard_of}
use Rattle.relaysequence.specs.Sequence.{answer}

-- what is heard of what was said
abbrev pub hearing : ℕ → ℕ → Option Message → Heard
hearing address register None = silence
hearing address register (Some message) = heard (answer address register message)

-- it can be written
abbrev pub SaidRight : Option Message → Type 0
SaidRight None = Unit {0}
SaidRight (Some message) = DataRight message

module _ (packets : RailbusPackets) where
  -- a packet that was read can be written
  pub found_holds : (input : List ℕ) (p : Packet) (checked : Bool) → read_packet input ≡ Ok (p, checked) → Holds p
  found_holds input p true e = (packets.packet_exact input p e).0
  found_holds input p false e = (packets.unchecked_exact input p e).0

  module _ (address register : ℕ) (own : address < 256) (named : register < 256) where
    pub answer_heard : (message : Message) (buffer : List ℕ) → DataRight message
        → heard_in (Ok (Some (length (answer_text address register message)))) (starting (answer_text address register message) buffer) ≡ heard (answer address register message)
    answer_heard message buffer right =
        ap (λ (text : List ℕ). as_read (read_packet text))
        (take-append_seam (answer_text address register message) (drop (length (answer_text address register message)) buffer))
        ∙ ap as_read
        (packets.packet_back (answer address register message)
        (record { address_right = own; register_right = named; data_right = right }))

    pub said_heard : (said : Option Message) (buffer registers : List ℕ) (write : Remembered) → SaidRight said
        → heard_of (relaying address register said buffer registers write) ≡ hearing address register said
    said_heard None buffer registers write right = refl
    said_heard (Some message) buffer registers write right = answer_heard message buffer right
