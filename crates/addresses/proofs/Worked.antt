-- The W row of kinds in docs/RULES.md, of the definitions; and the number of initiator addresses.
-- Assumes nothing.
use mathlib.Core.Path.{◌≡◌, refl}
use Rattle.addresses.specs.declared.ExchangeKind.TheVariants.{Broadcast, InitiatorInitiator, InitiatorTarget}
use Rattle.addresses.specs.Address.{initiator_nibble, initiator, Initiators, kind_of}

-- W6 kinds: FE broadcast, 10 initiator/initiator, 08 initiator/target
pub w6 : (kind_of 0xFE ≡ Broadcast) × (kind_of 0x10 ≡ InitiatorInitiator) × (kind_of 0x08 ≡ InitiatorTarget)
unfolding kind_of initiator initiator_nibble
w6 = (refl, refl, refl)

-- rule E6's count
pub initiators : Initiators
unfolding initiator initiator_nibble
initiators = (refl, refl)
