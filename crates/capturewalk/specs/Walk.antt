-- Rule E23 over a whole capture: who asks for the next exchange, each time behind the one before it, until there is none, meets every
-- byte of the capture exactly once, in an exchange or among those that are skipped.
-- Assumes nothing.
use Rattle.std.specs.Prelude.{ℕ, zero, suc, ◌+◌, ◌-◌, ◌≤◌, ◌<◌, ◌≡◌, List, [], ◌++◌, ◌⊎◌, eqb, length, get_or, take, drop}
use Rattle.lists.specs.Choice.{pick}
use Rattle.escapes.specs.Escape.{syn}
use Rattle.addresses.specs.declared.ExchangeKind.{ExchangeKind}
use Rattle.beginning.specs.Beginning.{command_start}
use Rattle.exchange.specs.Exchange.{limit, accepted, exchange}
use Rattle.listening.specs.Listening.{fresh, fed}
use Rattle.cuts.specs.Cuts.{Open, DecidedBy}
use Rattle.captures.specs.declared.Stretch.{Stretch}
use Rattle.captures.specs.Capture.{next_exchange}

-- ---- a walk over a capture

-- an exchange with the idle time before it: the stretch of bytes that it stands in, and how many of them are used when they are fed to
-- a fresh state
pub record Part : Type 0 where
  pub idle : List ℕ
  pub stretch : List ℕ
  pub used : ℕ

-- the bytes of the exchange, through the one that decides it, and those that a refusal leaves
abbrev pub exchange_of : Part → List ℕ
exchange_of p = take p.used p.stretch

abbrev pub left_of : Part → List ℕ
left_of p = drop p.used p.stretch

-- exchange after exchange, and idle time at the end
pub data Walked : Type 0 where
  ends : List ℕ → Walked
  meets : Part → Walked → Walked

abbrev pub part_of : List ℕ → ℕ → Stretch → Part
part_of capture at s =
    let stretch = take (s.end - s.start) (drop s.start capture) in
    record { idle = take (s.start - at) (drop at capture); stretch = stretch; used = (fed fresh stretch).used }

-- so many exchanges at most, from a position on
unfoldable pub walk_from : ℕ → List ℕ → ℕ → Walked
walk_from zero capture at = ends (drop at capture)
walk_from (suc n) capture at =
    let s = next_exchange capture at in
    pick (eqb s.start s.end) (ends (drop at capture)) (meets (part_of capture at s) (walk_from n capture s.end))

-- a capture has no more exchanges than bytes
abbrev pub walk : List ℕ → Walked
walk capture = walk_from (length capture) capture 0

-- ---- what is promised

-- the bytes that a walk met, in their order
unfoldable pub bytes_of : Walked → List ℕ
bytes_of (ends idle) = idle
bytes_of (meets p w) = p.idle ++ (exchange_of p ++ (left_of p ++ bytes_of w))

-- nothing but idle time: a command would start behind it
abbrev pub Idle : List ℕ → Type 0
Idle bytes = command_start bytes ≡ length bytes

-- one exchange, and the bytes of the capture behind its stretch
pub record OneExchange (p : Part) (behind : List ℕ) : Type 0 where
  -- what stands before it is no exchange
  pub idle_before : Idle p.idle
  -- its bytes are those through the one that decides, and there is one
  pub some : 0 < length (exchange_of p)
  pub decided : DecidedBy p.stretch p.used
  -- SYN stands at its stretch's end alone, and where none does the capture ends
  pub no_syn : (i : ℕ) → i + 1 < length p.stretch → get_or p.stretch i 0 ≡ syn → ⊥
  pub syn_ends : (get_or p.stretch (length p.stretch - 1) 0 ≡ syn) ⊎ (behind ≡ [])
  -- that SYN decides it, of a stretch that is read to its end: number 3 says that the capture ended
  pub syn_decides : length p.stretch ≤ limit → get_or p.stretch (length p.stretch - 1) 0 ≡ syn → Open (exchange (take limit p.stretch)) → ⊥
  -- one that is accepted is all of its stretch, so that the walk goes on at the next byte
  pub accepted_whole : (kind : ExchangeKind) (commands replies next : ℕ) (command first second : List ℕ)
      → exchange (take limit p.stretch) ≡ accepted kind commands replies next command first second
      → (next ≡ length p.stretch) × (left_of p ≡ [])
  -- what is known of it is what judging all that is left of the capture gives
  pub alone : (Open (exchange (take limit p.stretch)) → ⊥) → exchange (take limit (p.stretch ++ behind)) ≡ exchange (take limit p.stretch)

pub data Each : Walked → Type 0 where
  at_end : (idle : List ℕ) → Idle idle → Each (ends idle)
  then : (p : Part) (w : Walked) → OneExchange p (bytes_of w) → Each w → Each (meets p w)

pub record EveryByteOnce (capture : List ℕ) : Type 0 where
  pub every_byte : bytes_of (walk capture) ≡ capture
  pub each : Each (walk capture)

abbrev pub AnyCapture : Type 0
AnyCapture = (capture : List ℕ) → EveryByteOnce capture
