-- Reading what comes back and writing it are inverse to each other, in both directions, as one statement.
-- Assumes nothing.
use Rattle.std.specs.Prelude.{◌≡◌, ℕ, ◌+◌, ◌≤◌, ◌<◌, true, List, ◌++◌, length, get_or, replicate, Ok, Err}
use Rattle.refusal.specs.Number.{frame_length, fill_over, at_place}
use Rattle.answers.specs.Reading.{fill}
use Rattle.events.specs.Events.{is_id, Event, events_bytes, walked}
use Rattle.packets.specs.Layout.{packet_frame, no_events_frame}
use Rattle.packets.specs.Reading.{read_events}
use Rattle.packets.specs.declared.EventsRead.TheVariants.{Packet, Nothing}

-- an input of bytes
abbrev pub Bytes : List ℕ → Type 0
Bytes input = (i : ℕ) → get_or input i 0 < 256

-- the packet that stands in an input: behind so many FF, with these events, which a walk from its first one finds
pub record Holds (input : List ℕ) (n sender flag queued listed first size : ℕ) (events : List Event) : Type 0 where
  pub few : n ≤ 32
  pub from : is_id sender ≡ true
  pub counted : listed ≤ queued
  pub number : listed ≡ length events
  pub place : first ≡ n + 6
  pub room : size ≡ length (events_bytes events)
  pub whole : input ≡ replicate n fill ++ packet_frame sender flag queued events
  pub walk : walked listed input first ≡ events

pub record EventPackets : Type 0 where
  -- a packet of any device, behind up to 32 FF, which are counted, with no more events than are queued
  pub packet_back : (n sender flag queued : ℕ) (events : List Event) → n ≤ 32 → is_id sender ≡ true → length events ≤ queued
      → read_events (replicate n fill ++ packet_frame sender flag queued events) ≡ Ok (Packet n sender flag queued (length events) (n + 6) (length (events_bytes events)))
  -- .. and a walk over its events finds exactly those
  pub events_back : (n sender flag queued : ℕ) (events : List Event)
      → walked (length events) (replicate n fill ++ packet_frame sender flag queued events) (n + 6) ≡ events
  -- what is accepted as a packet is one, with the events that a walk finds
  pub packet_exact : (input : List ℕ) (n sender flag queued listed first size : ℕ) → Bytes input → read_events input ≡ Ok (Packet n sender flag queued listed first size)
      → Holds input n sender flag queued listed first size (walked listed input first)
  -- that nobody has events
  pub nothing_back : (n : ℕ) → n ≤ 32 → read_events (replicate n fill ++ no_events_frame) ≡ Ok (Nothing n)
  pub nothing_exact : (input : List ℕ) (n : ℕ) → read_events input ≡ Ok (Nothing n) → (n ≤ 32) × (input ≡ replicate n fill ++ no_events_frame)
  -- up to 32 FF with nothing behind them are a wrong length
  pub fill_alone : (n : ℕ) → n ≤ 32 → read_events (replicate n fill) ≡ Err (at_place frame_length 0)
  -- a 33rd FF is refused at its place, whatever follows it
  pub over_refused : (n : ℕ) (rest : List ℕ) → 32 < n → read_events (replicate n fill ++ rest) ≡ Err (at_place fill_over 32)
