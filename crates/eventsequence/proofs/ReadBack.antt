-- What a poll hears is read back: a packet of a device with its events, and that nobody has any.
-- Assumes nothing.
use Rattle.std.specs.Prelude.{Ok}
use mathlib.Core.Path.{◌≡◌, sym, ap, ◌∙◌}
use mathlib.Core.Bool.{true}
use mathlib.Core.List.{List, map}
use Prim.Native.Nat.{ℕ, ◌+◌, ◌≤◌}
use native.Mathlib.Omega.{arith}
use lib.ListN.{length, length-map}
use Rattle.events.specs.Events.{is_id, walked}
use Rattle.answers.specs.Reading.{most_fill}
use Rattle.packets.specs.Reading.{read_events}
use Rattle.packets.specs.declared.EventsRead.TheVariants.{Packet, Nothing}
use Rattle.packets.proofs.RoundTrip.{event_packets}
use Rattle.queues.specs.Queues.{Queued}
use Rattle.polls.specs.Poll.{event_of, nothing, packet}
use Rattle.polls.specs.Calls.{heard_bytes}
use Rattle.eventsequence.specs.Sequence.{on_wire}

module _ (dominant id flag queued : ℕ) (events : List Queued) where
  same : length (map event_of events) ≡ length events
  same = length-map events event_of

  pub packet_read : dominant ≤ most_fill → is_id id ≡ true → length events ≤ queued
      → read_events (heard_bytes (packet dominant id flag queued events)) ≡ Ok (Packet dominant id flag queued (length events) (dominant + 6) (on_wire events))
  unfolding heard_bytes
  packet_read low right few =
      event_packets.packet_back dominant id flag queued (map event_of events) low right (omega (arith, same))
      ∙ ap (λ (n : ℕ). Ok (Packet dominant id flag queued n (dominant + 6) (on_wire events))) same

  pub packet_walk : walked (length events) (heard_bytes (packet dominant id flag queued events)) (dominant + 6) ≡ map event_of events
  unfolding heard_bytes
  packet_walk =
      ap (λ (n : ℕ). walked n (heard_bytes (packet dominant id flag queued events)) (dominant + 6)) (sym same)
      ∙ event_packets.events_back dominant id flag queued (map event_of events)

pub nothing_read : (dominant id : ℕ) → dominant ≤ most_fill → read_events (heard_bytes (nothing dominant id)) ≡ Ok (Nothing dominant)
unfolding heard_bytes
nothing_read dominant id low = event_packets.nothing_back dominant low
