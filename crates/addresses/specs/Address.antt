-- Addresses: rules E6, E7 and E8.
-- Assumes nothing.
use Rattle.std.specs.Prelude.{◌≡◌, ℕ, zero, suc, ◌+◌, ◌/◌, ◌%◌, Bool, true, ◌&&◌, ◌||◌, eqb}
use Rattle.lists.specs.Choice.{pick}
use Rattle.escapes.specs.Escape.{esc, syn}
use Rattle.addresses.specs.declared.ExchangeKind.{ExchangeKind}
use Rattle.addresses.specs.declared.ExchangeKind.TheVariants.{Broadcast, InitiatorInitiator, InitiatorTarget}

-- rule E6: of an initiator address, both nibbles are of these five
unfoldable pub initiator_nibble : ℕ → Bool
initiator_nibble n = eqb n 0x0 || (eqb n 0x1 || (eqb n 0x3 || (eqb n 0x7 || eqb n 0xF)))

unfoldable pub initiator : ℕ → Bool
initiator address = initiator_nibble (address / 16) && initiator_nibble (address % 16)

-- how many numbers below n pass a test
abbrev pub how_many_below : ℕ → (ℕ → Bool) → ℕ
how_many_below zero test = 0
how_many_below (suc n) test = pick (test n) 1 0 + how_many_below n test

-- rule E6: 25 bytes are initiator addresses, and FF is one of them
abbrev pub Initiators : Type 0
Initiators = (how_many_below 256 initiator ≡ 25) × (initiator 0xFF ≡ true)

-- rule E7: no destination
unfoldable pub reserved : ℕ → Bool
reserved address = eqb address esc || eqb address syn

-- the destination of a broadcast
abbrev pub everyone : ℕ
everyone = 0xFE

-- rule E8: the destination decides the kind
unfoldable pub kind_of : ℕ → ExchangeKind
kind_of destination = pick (eqb destination everyone) Broadcast (pick (initiator destination) InitiatorInitiator InitiatorTarget)

-- the kinds as numbers; 0 is no kind
abbrev pub kind_number : ExchangeKind → ℕ
kind_number Broadcast = 1
kind_number InitiatorInitiator = 2
kind_number InitiatorTarget = 3
