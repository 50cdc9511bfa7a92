-- Only for private contracts: how many events a packet lists, where what it carries fits, and whether one may begin at a position.
-- Assumes nothing.
use Rattle.std.specs.Prelude.{Bool, ◌&&◌, List, ℕ, ◌+◌, ◌-◌, leb, length, get_or, take, drop, Option, None}
use Rattle.lists.specs.Choice.{pick}
use Rattle.framing.specs.Layout.{shortest}
use Rattle.events.specs.Events.{is_id, events_in, listing_of}
use Rattle.packets.specs.Layout.{packet_head, packet_fits}

-- what the frame that fills the rest of the input from this position carries
abbrev pub carried_at : List ℕ → ℕ → List ℕ
carried_at input at = take (length input - at - 5) (drop (at + 3) input)

unfoldable pub packet_listing : List ℕ → Option ℕ
packet_listing carried = pick (packet_fits carried) (listing_of (events_in (drop packet_head carried))) None

unfoldable pub sender_at : List ℕ → ℕ → Bool
sender_at input at = leb shortest (length input - at) && is_id (get_or input at 0)
