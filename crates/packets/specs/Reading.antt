-- The reader of what comes back for a request of event polling, behind up to 32 FF: rules F5, F7 and F8.
-- Assumes nothing.
use Rattle.std.specs.Prelude.{ℕ, ◌+◌, List, [], ◌∷◌, eqb, get_or, drop, Result, Ok, Err}
use Rattle.lists.specs.Choice.{pick}
use Rattle.refusal.specs.Numbers.{Numbers, accepted_with, refused_with}
use Rattle.refusal.specs.declared.Refusal.{Refusal}
use Rattle.framing.specs.Framing.{FrameRead, framed, wrong, framed_at}
use Rattle.answers.specs.Reading.{before_frame, behind_fill}
use Rattle.events.specs.Events.{events_in, how_many_listed}
use Rattle.packets.specs.Layout.{event_framing, event_packet, no_events, packet_head}
use Rattle.packets.specs.declared.EventsRead.{EventsRead}
use Rattle.packets.specs.declared.EventsRead.TheVariants.{Packet, Nothing}

-- what the reader finds, as numbers: the subcommand, how many FF were passed over, and of a packet its sender, its flag, how many
-- events are queued, how many are listed, where the first of those stands, and how many bytes they have
abbrev pub events_numbers : Result EventsRead Refusal → Numbers
events_numbers (Ok (Packet skipped sender flag queued listed first size)) = accepted_with (event_packet ∷ skipped ∷ sender ∷ flag ∷ queued ∷ listed ∷ first ∷ size ∷ [])
events_numbers (Ok (Nothing skipped)) = accepted_with (no_events ∷ skipped ∷ [])
events_numbers (Err why) = refused_with why

-- rule F7: what a packet at this position says; its events stay where they are in the input, and all bytes before it were passed
-- over
abbrev pub packet : ℕ → List ℕ → List ℕ → Result EventsRead Refusal
packet at first carried =
    Ok (Packet at (get_or first 0 0) (get_or carried 0 0) (get_or carried 1 0) (how_many_listed (events_in (drop packet_head carried))) (at + 6) (get_or carried 2 0))

abbrev pub said_by : ℕ → FrameRead → Result EventsRead Refusal
said_by at (framed first subcommand carried) = pick (eqb subcommand event_packet) (packet at first carried) (Ok (Nothing at))
said_by at (wrong why) = Err why

unfoldable pub events_at : List ℕ → ℕ → Result EventsRead Refusal
events_at input at = said_by at (framed_at event_framing input at)

-- rule F5: behind what is passed over
unfoldable pub read_events : List ℕ → Result EventsRead Refusal
read_events input = behind_fill (events_at input) (before_frame input)
