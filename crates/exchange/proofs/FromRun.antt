-- The exchange behind the attempts at a command, by where they stand in the run.
-- Assumes nothing.
use Rattle.std.specs.Prelude.{Ok, Err}
use mathlib.Core.Path.{◌≡◌, sym, ap, ◌∙◌}
use mathlib.Core.Bool.{true}
use mathlib.Core.List.{List}
use Prim.Native.Nat.{ℕ, ◌+◌, ◌<◌}
use lib.ListN.{length, get_or}
use Rattle.refusal.specs.declared.Refusal.{Refusal}
use Rattle.escapes.specs.Logical.{logicals_at}
use Rattle.addresses.specs.Address.{kind_of}
use Rattle.telegram.specs.Telegram.{destination_of}
use Rattle.telegram.proofs.TelegramRead.{destination_raw}
use Rattle.attempts.specs.Inner.{Reads}
use Rattle.exchange.specs.declared.tries.Tries.{Tries as TriesStruct}
use Rattle.exchange.specs.declared.tries.Tried.{Tried}
use Rattle.exchange.specs.declared.tries.Tried.TheVariants.{Once, Twice}
use Rattle.exchange.specs.Exchange.{tries_at, rejected, on_kind, on_command, exchange_at}
use Rattle.exchange.specs.Inner.{tries_as, tries_of, TriesStand}
use Rattle.exchange.proofs.Attempts.{once_read}

-- DST of a command that was read is its second raw byte
pub destination_there : (run : List ℕ) (start : ℕ) (telegram : List ℕ) → Reads true run start telegram → (start + 1 < length run) × (destination_of telegram ≡ get_or run (start + 1) 0)
destination_there run start telegram r = destination_raw run start telegram r.0 r.1 r.2

-- behind the attempts the exchange goes on by DST of the one that was accepted

module _ (run : List ℕ) (at : ℕ) (t : TriesStruct) (is : tries_of (Ok t) run at ≡ tries_at true run at) where
  tried_as : (tried : Tried) → t.tried ≡ tried → tries_at true run at ≡ tries_as (logicals_at run t.len1 at) (logicals_at run t.len2 t.second) t.next tried
  tried_as tried told = sym is ∙ ap (tries_as (logicals_at run t.len1 at) (logicals_at run t.len2 t.second) t.next) told

  module _ (told : t.tried ≡ Once) where
    once_there : (at + 1 < length run) × (destination_of (logicals_at run t.len1 at) ≡ get_or run (at + 1) 0)
    once_there = destination_there run at (logicals_at run t.len1 at) (once_read true run at (logicals_at run t.len1 at) t.next (tried_as Once told))

    pub once_within : at + 1 < length run
    once_within = once_there.0

    pub once_then : exchange_at run at ≡ on_kind 1 (logicals_at run t.len1 at) run t.next (kind_of (get_or run (at + 1) 0))
    unfolding exchange_at
    once_then =
        ap (on_command run) (tried_as Once told)
        ∙ ap (λ (b : ℕ). on_kind 1 (logicals_at run t.len1 at) run t.next (kind_of b)) once_there.1

  module _ (told : t.tried ≡ Twice) (stand : TriesStand true run at t) where
    twice_there : (t.second + 1 < length run) × (destination_of (logicals_at run t.len2 t.second) ≡ get_or run (t.second + 1) 0)
    twice_there = destination_there run t.second (logicals_at run t.len2 t.second) (stand.second_read told)

    pub twice_within : t.second + 1 < length run
    twice_within = twice_there.0

    pub twice_then : exchange_at run at ≡ on_kind 2 (logicals_at run t.len2 t.second) run t.next (kind_of (get_or run (t.second + 1) 0))
    unfolding exchange_at
    twice_then =
        ap (on_command run) (tried_as Twice told)
        ∙ ap (λ (b : ℕ). on_kind 2 (logicals_at run t.len2 t.second) run t.next (kind_of b)) twice_there.1

pub neither_then : (run : List ℕ) (at : ℕ) (why : Refusal) → tries_of (Err why) run at ≡ tries_at true run at → exchange_at run at ≡ rejected why
unfolding exchange_at
neither_then run at why is = ap (on_command run) (sym is)
