-- A telegram, rules E9 and E10: what one is, and how one is read from a run at an absolute position. It is a
-- command where `command` holds, and else a reply.
-- Assumes nothing.
use Rattle.std.specs.Prelude.{ℕ, zero, suc, ◌+◌, ◌-◌, Bool, true, false, List, [], ◌∷◌, ◌++◌, eqb, leb, length, get_or, take, Result, Ok, Err}
use Rattle.lists.specs.Choice.{pick}
use Rattle.refusal.specs.Number.{source_wrong, destination_wrong, length_over, at_place}
use Rattle.refusal.specs.declared.Refusal.{Refusal}
use Rattle.escapes.specs.Logical.{logical_at}
use Rattle.addresses.specs.Address.{initiator, reserved}
use Rattle.checkbyte.specs.Check.{ebus_check}

-- ---- layout

-- SRC DST PB SB LEN, or LEN alone, then data and check byte. The bytes through LEN are the head
abbrev pub command_head : ℕ
command_head = 5

abbrev pub reply_head : ℕ
reply_head = 1

abbrev pub head_of : Bool → ℕ
head_of command = pick command command_head reply_head

-- where LEN stands, counted from 0
abbrev pub length_place : Bool → ℕ
length_place command = head_of command - 1

-- DST is a command's second byte
abbrev pub destination_of : List ℕ → ℕ
destination_of command = get_or command 1 0

-- rule E9: the largest LEN
abbrev pub longest : ℕ
longest = 16

-- the most bytes that a command has, and a reply: head, data and check byte
abbrev pub command_room : ℕ
command_room = 22

abbrev pub reply_room : ℕ
reply_room = 18

abbrev pub room_of : Bool → ℕ
room_of command = pick command command_room reply_room

-- the last byte of a telegram, or of as much of one as was read
abbrev pub last_of : List ℕ → ℕ
last_of telegram = get_or telegram (length telegram - 1) 0

-- whether the last byte of a telegram is the check byte of those before it
unfoldable pub check_right : List ℕ → Bool
check_right telegram =
    pick (eqb (length telegram) 0) false
    (eqb (ebus_check (take (length telegram - 1) telegram)) (last_of telegram))

-- ---- fields

-- the fields that are judged, and any other byte
pub data Field : Type 0 where
  SRC : Field
  DST : Field
  LEN : Field
  unjudged : Field

-- which field the byte at a place is, counted from 0
unfoldable pub field_at : Bool → ℕ → Field
field_at command place =
    pick command
    (pick (eqb place 0) SRC (pick (eqb place 1) DST (pick (eqb place (length_place true)) LEN unjudged)))
    (pick (eqb place (length_place false)) LEN unjudged)

-- what is wrong with the byte of a field: 6, 7 or 8; 0 is nothing
unfoldable pub fault_of : Field → ℕ → ℕ
fault_of SRC b = pick (initiator b) 0 source_wrong
fault_of DST b = pick (reserved b) destination_wrong 0
fault_of LEN b = pick (leb b longest) 0 length_over
fault_of unjudged b = 0

-- ---- reading

-- a telegram as far as it was read: its logical bytes, the place of the last of them and the position behind it; or why it can't be read
pub data Telegram : Type 0 where
  read : List ℕ → ℕ → ℕ → Telegram
  unread : Refusal → Telegram

-- rule E4: a logical byte's own refusal first, then its field's fault at its first raw byte, and else the rest of the telegram
abbrev pub on_byte : Field → ℕ → Result (ℕ × ℕ) Refusal → (ℕ → ℕ → Telegram) → Telegram
on_byte field at (Ok (b, next)) rest = pick (eqb (fault_of field b) 0) (rest b next) (unread (at_place (fault_of field b) at))
on_byte field at (Err why) rest = unread why

-- n bytes more, behind those read so far, of which the last stands at the position last
unfoldable pub collected : Bool → List ℕ → ℕ → List ℕ → ℕ → ℕ → Telegram
collected command run zero so_far last at = read so_far last at
collected command run (suc n) so_far last at =
    on_byte (field_at command (length so_far)) at (logical_at run at) (λ b next. collected command run n (so_far ++ b ∷ []) at next)

-- behind the head: LEN data bytes and the check byte
abbrev pub on_head : Bool → List ℕ → Telegram → Telegram
on_head command run (read so_far last next) = collected command run (get_or so_far (length_place command) 0 + 1) so_far last next
on_head command run (unread why) = unread why

unfoldable pub telegram_at : Bool → List ℕ → ℕ → Telegram
telegram_at command run at = on_head command run (collected command run (head_of command) [] at at)
