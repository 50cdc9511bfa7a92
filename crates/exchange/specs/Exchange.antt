-- Judging a run, rules E12 to E16, E20 and E21, from its attempts on (attempts/specs/Attempt.antt). Every position is absolute, so
-- places are positions and the bytes read are the last position. What did not happen, and every refusal, has no bytes.
-- Assumes nothing.
use Rattle.std.specs.Prelude.{ℕ, ◌+◌, Bool, true, false, ◌&&◌, List, [], eqb, ltb, leb, length, get_or, take}
use Rattle.lists.specs.Choice.{pick}
use Rattle.refusal.specs.Number.{output_short, command_nacked, reply_nacked, bus_error, at_place}
use Rattle.refusal.specs.declared.Refusal.{Refusal}
use Rattle.escapes.specs.Escape.{syn}
use Rattle.escapes.specs.Logical.{run_over}
use Rattle.addresses.specs.declared.ExchangeKind.{ExchangeKind}
use Rattle.addresses.specs.declared.ExchangeKind.TheVariants.{Broadcast, InitiatorInitiator, InitiatorTarget}
use Rattle.addresses.specs.Address.{kind_of}
use Rattle.telegram.specs.Telegram.{command_room, reply_room, destination_of}
use Rattle.beginning.specs.Beginning.{command_start}
use Rattle.attempts.specs.Attempt.{Attempt, taken, nacked, failed, attempt_at}

-- ---- one attempt or two

-- the telegram and the position behind it; both telegrams; or the refusal
pub data Tries : Type 0 where
  once : List ℕ → ℕ → Tries
  twice : List ℕ → List ℕ → ℕ → Tries
  neither : Refusal → Tries

-- rule E14: a second FF is 10 for a command and 11 for a reply, at that FF
abbrev pub nacked_twice : Bool → ℕ
nacked_twice command = pick command command_nacked reply_nacked

abbrev pub on_second : Bool → List ℕ → Attempt → Tries
on_second command first (taken telegram next) = twice first telegram next
on_second command first (nacked telegram place) = neither (at_place (nacked_twice command) place)
on_second command first (failed why) = neither why

-- rule E14: behind an FF the second attempt is read, and stands for itself
abbrev pub on_first : Bool → List ℕ → Attempt → Tries
on_first command run (taken telegram next) = once telegram next
on_first command run (nacked telegram place) = on_second command telegram (attempt_at command run (place + 1))
on_first command run (failed why) = neither why

unfoldable pub tries_at : Bool → List ℕ → ℕ → Tries
tries_at command run at = on_first command run (attempt_at command run at)

-- ---- SYN, which ends the exchange: nothing behind it is looked at

pub data End : Type 0 where
  ended : ℕ → End
  open_still : Refusal → End

unfoldable pub syn_at : List ℕ → ℕ → End
syn_at run at =
    pick (ltb at (length run)) (pick (eqb (get_or run at 0) syn) (ended (at + 1)) (open_still (at_place bus_error at))) (open_still (run_over run))

-- ---- the exchange

-- rule E16: the kind, the attempts at command and reply, the raw bytes read, and what the command buffer and the two reply
-- buffers start with
pub data Outcome : Type 0 where
  accepted : ExchangeKind → ℕ → ℕ → ℕ → List ℕ → List ℕ → List ℕ → Outcome
  rejected : Refusal → Outcome

abbrev pub on_end : ExchangeKind → ℕ → ℕ → List ℕ → List ℕ → List ℕ → End → Outcome
on_end kind commands replies command first second (ended next) = accepted kind commands replies next command first second
on_end kind commands replies command first second (open_still why) = rejected why

abbrev pub on_reply : ℕ → List ℕ → List ℕ → Tries → Outcome
on_reply commands command run (once reply next) = on_end InitiatorTarget commands 1 command reply [] (syn_at run next)
on_reply commands command run (twice first second next) = on_end InitiatorTarget commands 2 command first second (syn_at run next)
on_reply commands command run (neither why) = rejected why

-- rule E12: only initiator/target has a reply
abbrev pub on_kind : ℕ → List ℕ → List ℕ → ℕ → ExchangeKind → Outcome
on_kind commands command run next Broadcast = on_end Broadcast commands 0 command [] [] (syn_at run next)
on_kind commands command run next InitiatorInitiator = on_end InitiatorInitiator commands 0 command [] [] (syn_at run next)
on_kind commands command run next InitiatorTarget = on_reply commands command run (tries_at false run next)

-- the accepted attempt has its own kind
abbrev pub on_command : List ℕ → Tries → Outcome
on_command run (once command next) = on_kind 1 command run next (kind_of (destination_of command))
on_command run (twice first command next) = on_kind 2 command run next (kind_of (destination_of command))
on_command run (neither why) = rejected why

-- the exchange whose command starts at a position
unfoldable pub exchange_at : List ℕ → ℕ → Outcome
exchange_at run at = on_command run (tries_at true run at)

-- rule E21: the command starts behind all that a SYN threw away
abbrev pub exchange : List ℕ → Outcome
exchange run = exchange_at run (command_start run)

-- rule E16: whether buffers of these lengths are enough
unfoldable pub rooms : ℕ → ℕ → ℕ → Bool
rooms command first second = leb command_room command && (leb reply_room first && leb reply_room second)

-- rule E20: the most raw bytes that are read of a recording, at once or as they arrive
abbrev pub limit : ℕ
limit = 0x80000000

-- number 1 before the first byte is looked at, and then the exchange, as if the run ended behind the bytes that are read
unfoldable pub judged : List ℕ → ℕ → ℕ → ℕ → Outcome
judged run command first second = pick (rooms command first second) (exchange (take limit run)) (rejected (at_place output_short 0))
