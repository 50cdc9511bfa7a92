-- The worked exchanges W7 and W8, of the definitions, and both sides of rule E21.
-- Assumes nothing.
use mathlib.Core.Path.{◌≡◌, refl, ◌∙◌}
use mathlib.Core.List.{List, [], ◌∷◌}
use Prim.Native.Nat.{ℕ, ◌≤◌}
use Rattle.refusal.specs.Number.{run_ended, escape_wrong, syn_early, source_wrong, bus_error, at_place}
use Rattle.crc.specs.Register.{step, enter, bits}
use Rattle.escapes.specs.Escape.{escaped, expanded}
use Rattle.escapes.specs.Logical.{escape_at, logical_at}
use Rattle.addresses.specs.declared.ExchangeKind.TheVariants.{InitiatorTarget}
use Rattle.addresses.specs.Address.{initiator_nibble, initiator, reserved, kind_of}
use Rattle.checkbyte.specs.Check.{ebus_bytes, ebus_check}
use Rattle.telegram.specs.Telegram.{command_room, reply_room, check_right, field_at, fault_of, collected, telegram_at}
use Rattle.beginning.specs.Beginning.{piece_of, behind_pieces}
use Rattle.attempts.specs.Attempt.{acknowledge_at, unanswered, ending_at, attempt_at}
use Rattle.exchange.specs.Exchange.{accepted, rejected, tries_at, syn_at, exchange_at, exchange, judged}
use Rattle.exchange.proofs.Buffers.{room_enough}

abbrev pub command : List ℕ
command = 0x10 ∷ 0x08 ∷ 0xB5 ∷ 0x11 ∷ 0x01 ∷ 0x01 ∷ 0x89 ∷ []

abbrev pub reply : List ℕ
reply = 0x01 ∷ 0x2A ∷ 0xB1 ∷ []

-- the command, the first acknowledge byte, and the rest of the exchange
abbrev pub answered_by : ℕ → List ℕ
answered_by b = 0x10 ∷ 0x08 ∷ 0xB5 ∷ 0x11 ∷ 0x01 ∷ 0x01 ∷ 0x89 ∷ b ∷ 0x01 ∷ 0x2A ∷ 0xB1 ∷ 0x00 ∷ 0xAA ∷ []

-- W7 10 08 B5 11 01 01 89 00 01 2A B1 00 AA: accepted, one attempt each, 13 bytes read (its data: replies/proofs/Worked.antt)
pub w7 : exchange (answered_by 0x00) ≡ accepted InitiatorTarget 1 1 13 command reply []
unfolding ebus_check ebus_bytes enter step bits escaped expanded initiator_nibble initiator reserved kind_of escape_at logical_at check_right field_at fault_of collected telegram_at piece_of behind_pieces acknowledge_at unanswered ending_at attempt_at tries_at syn_at exchange_at
w7 = refl

-- W8 the same with 55 for the first 00: number 12 at place 7
pub w8 : exchange (answered_by 0x55) ≡ rejected (at_place bus_error 7)
unfolding ebus_check ebus_bytes enter step bits escaped expanded initiator_nibble initiator reserved kind_of escape_at logical_at check_right field_at fault_of collected telegram_at piece_of behind_pieces acknowledge_at unanswered ending_at attempt_at tries_at syn_at exchange_at
w8 = refl

-- rule E21: W7 behind each piece of idle time, and its places
pub idle_w7 : exchange (0xAA ∷ 0xA9 ∷ 0xAA ∷ 0x31 ∷ 0xAA ∷ 0x10 ∷ 0xA9 ∷ 0xAA ∷ answered_by 0x00) ≡ accepted InitiatorTarget 1 1 21 command reply []
unfolding ebus_check ebus_bytes enter step bits escaped expanded initiator_nibble initiator reserved kind_of escape_at logical_at check_right field_at fault_of collected telegram_at piece_of behind_pieces acknowledge_at unanswered ending_at attempt_at tries_at syn_at exchange_at
idle_w7 = refl

pub idle_w8 : exchange (0xAA ∷ 0x10 ∷ 0xAA ∷ answered_by 0x55) ≡ rejected (at_place bus_error 10)
unfolding ebus_check ebus_bytes enter step bits escaped expanded initiator_nibble initiator reserved kind_of escape_at logical_at check_right field_at fault_of collected telegram_at piece_of behind_pieces acknowledge_at unanswered ending_at attempt_at tries_at syn_at exchange_at
idle_w8 = refl

pub wrong_source : exchange (0x02 ∷ 0xAA ∷ []) ≡ rejected (at_place source_wrong 0)
unfolding ebus_check ebus_bytes enter step bits escaped expanded initiator_nibble initiator reserved kind_of escape_at logical_at check_right field_at fault_of collected telegram_at piece_of behind_pieces acknowledge_at unanswered ending_at attempt_at tries_at syn_at exchange_at
wrong_source = refl

pub wrong_escape : exchange (0xA9 ∷ 0x10 ∷ []) ≡ rejected (at_place escape_wrong 1)
unfolding ebus_check ebus_bytes enter step bits escaped expanded initiator_nibble initiator reserved kind_of escape_at logical_at check_right field_at fault_of collected telegram_at piece_of behind_pieces acknowledge_at unanswered ending_at attempt_at tries_at syn_at exchange_at
wrong_escape = refl

pub idle_alone : exchange (0xAA ∷ 0xAA ∷ []) ≡ rejected (at_place run_ended 2)
unfolding ebus_check ebus_bytes enter step bits escaped expanded initiator_nibble initiator reserved kind_of escape_at logical_at check_right field_at fault_of collected telegram_at piece_of behind_pieces acknowledge_at unanswered ending_at attempt_at tries_at syn_at exchange_at
idle_alone = refl

pub syn_behind_two : exchange (0x10 ∷ 0x08 ∷ 0xAA ∷ []) ≡ rejected (at_place syn_early 2)
unfolding ebus_check ebus_bytes enter step bits escaped expanded initiator_nibble initiator reserved kind_of escape_at logical_at check_right field_at fault_of collected telegram_at piece_of behind_pieces acknowledge_at unanswered ending_at attempt_at tries_at syn_at exchange_at
syn_behind_two = refl

-- so judged, where the buffers are long enough
module _ (c f s : ℕ) (command_room_lem : command_room ≤ c) (first_room : reply_room ≤ f) (second_room : reply_room ≤ s) where
  pub w7_judged : judged (answered_by 0x00) c f s ≡ accepted InitiatorTarget 1 1 13 command reply []
  w7_judged = room_enough c f s (answered_by 0x00) command_room_lem first_room second_room ∙ w7

  pub w8_judged : judged (answered_by 0x55) c f s ≡ rejected (at_place bus_error 7)
  w8_judged = room_enough c f s (answered_by 0x55) command_room_lem first_room second_room ∙ w8
