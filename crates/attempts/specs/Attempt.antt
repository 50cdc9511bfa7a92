-- One attempt at a command, or else at a reply, with its acknowledge byte: rules E13 and E15. Every position is absolute.
-- Assumes nothing.
use Rattle.std.specs.Prelude.{ℕ, ◌+◌, ◌-◌, Bool, true, false, ◌&&◌, List, eqb, ltb, length, get_or, take, drop}
use Rattle.lists.specs.Choice.{pick}
use Rattle.refusal.specs.Number.{syn_early, check_wrong, bus_error, at_place}
use Rattle.refusal.specs.declared.Refusal.{Refusal}
use Rattle.escapes.specs.Escape.{syn}
use Rattle.escapes.specs.Logical.{run_over}
use Rattle.addresses.specs.declared.ExchangeKind.{ExchangeKind}
use Rattle.addresses.specs.declared.ExchangeKind.TheVariants.{Broadcast, InitiatorInitiator, InitiatorTarget}
use Rattle.addresses.specs.Address.{kind_of}
use Rattle.checkbyte.specs.BitByBit.{check_by}
use Rattle.telegram.specs.Telegram.{destination_of, last_of, check_right, Telegram, read, unread, telegram_at}

-- the two acknowledge bytes
abbrev pub ack : ℕ
ack = 0x00

abbrev pub nack : ℕ
nack = 0xFF

-- ---- the acknowledge byte of a command, and that of a reply, rule E13

-- 00 with the position behind it, FF with its place, or why it is neither: any byte but 00, FF and AA is number 12
pub data Acknowledge : Type 0 where
  positive : ℕ → Acknowledge
  negative : ℕ → Acknowledge
  invalid : Refusal → Acknowledge

unfoldable pub acknowledge_at : List ℕ → ℕ → Acknowledge
acknowledge_at run at =
    pick (ltb at (length run))
    (pick (eqb (get_or run at 0) ack) (positive (at + 1))
    (pick (eqb (get_or run at 0) nack) (negative at)
    (pick (eqb (get_or run at 0) syn) (invalid (at_place syn_early at)) (invalid (at_place bus_error at)))))
    (invalid (run_over run))

-- ---- what was sent, before its check byte is judged

-- a telegram that was acknowledged, with the place of its check byte and the position behind the attempt; one that was NACKed,
-- with the place of the FF; or why there is neither
pub data Ending : Type 0 where
  acknowledged : List ℕ → ℕ → ℕ → Ending
  refused : List ℕ → ℕ → Ending
  broken : Refusal → Ending

abbrev pub on_acknowledge : List ℕ → ℕ → Acknowledge → Ending
on_acknowledge telegram check_place (positive next) = acknowledged telegram check_place next
on_acknowledge telegram check_place (negative place) = refused telegram place
on_acknowledge telegram check_place (invalid why) = broken why

-- a broadcast command is not acknowledged
abbrev pub to_all : ExchangeKind → Bool
to_all Broadcast = true
to_all InitiatorInitiator = false
to_all InitiatorTarget = false

unfoldable pub unanswered : Bool → List ℕ → Bool
unanswered command telegram = command && to_all (kind_of (destination_of telegram))

abbrev pub on_telegram : Bool → List ℕ → Telegram → Ending
on_telegram command run (read telegram check_place next) =
    pick (unanswered command telegram) (acknowledged telegram check_place next) (on_acknowledge telegram check_place (acknowledge_at run next))
on_telegram command run (unread why) = broken why

unfoldable pub ending_at : Bool → List ℕ → ℕ → Ending
ending_at command run at = on_telegram command run (telegram_at command run at)

-- ---- the attempt

-- taken with the position behind it, NACKed with the place of the FF, or refused
pub data Attempt : Type 0 where
  taken : List ℕ → ℕ → Attempt
  nacked : List ℕ → ℕ → Attempt
  failed : Refusal → Attempt

-- rule E15: the check byte is judged once the attempt is accepted; a wrong one is number 9, at the check byte. Before an FF
-- it does not matter, and a right attempt may be NACKed too
abbrev pub settled_by : (List ℕ → ℕ → Bool) → Ending → Attempt
settled_by right (acknowledged telegram check_place next) =
    pick (right telegram check_place) (taken telegram next) (failed (at_place check_wrong check_place))
settled_by right (refused telegram place) = nacked telegram place
settled_by right (broken why) = failed why

unfoldable pub attempt_at : Bool → List ℕ → ℕ → Attempt
attempt_at command run at = settled_by (λ telegram check_place. check_right telegram) (ending_at command run at)

-- the same by the check of any two tables, over the raw bytes before the check byte: by the eBUS tables it is that attempt
-- (proofs/ByTables.antt)
unfoldable pub attempt_by : List ℕ → Bool → List ℕ → ℕ → Attempt
attempt_by tables command run at =
    settled_by (λ telegram check_place. eqb (check_by tables (take (check_place - at) (drop at run))) (last_of telegram)) (ending_at command run at)
