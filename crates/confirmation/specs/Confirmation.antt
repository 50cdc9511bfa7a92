-- Rule D12: what a poll confirms. It names a device and a flag; where that device's last packet had this flag, the packet's events
-- are dropped, once, and the device's flag turns.
-- Assumes nothing.
use Rattle.std.specs.Prelude.{◌≡◌, ℕ, Bool, ◌&&◌, List, ltb, eqb}
use Rattle.lists.specs.Choice.{pick}
use Rattle.lists.specs.Tests.{position}
use Rattle.queues.specs.Queues.{Queues, flag_of, last_of}
use Rattle.oldest.specs.Oldest.{without}

-- the other of 0 and 1
abbrev pub other_flag : ℕ → ℕ
other_flag flag = pick (eqb flag 0) 1 0

-- a packet was sent that is not confirmed yet, and it had this flag. The stored flag is that of the next packet, which is that of
-- the last one as long as nobody confirms it.
abbrev pub confirms : Queues → ℕ → ℕ → Bool
confirms q device flag = ltb 0 (last_of q device) && eqb (flag_of q device) flag

-- the queues of the device at this place after it: the packet's events are gone, so is the packet, and the flag has turned
abbrev pub confirmed_of : ℕ → ℕ → Queues → Queues
confirmed_of device flag q = pick (confirms q device flag) (without device (last_of q device) (other_flag flag) 0 q) q

-- the device with this id, among these ids, whichever contends afterwards. In valid queues there is nothing behind the last device,
-- so an id that none has confirms nothing.
unfoldable pub confirmed : List ℕ → ℕ → ℕ → Queues → Queues
confirmed ids id flag q = confirmed_of (position id ids) flag q

-- what the call is promised to leave in the four columns
pub record Leaves (given : Queues) (flags lasts counts slots : List ℕ) : Type 0 where
  pub flags_are : flags ≡ given.flags
  pub lasts_are : lasts ≡ given.lasts
  pub counts_are : counts ≡ given.counts
  pub slots_are : slots ≡ given.slots
