-- Bytes as they arrive, rules E19 to E21: a state of listening, what a byte and a run make of it, and what it answers when
-- it is closed. A state holds what was accepted and the raw bytes of the attempt in hand, which is judged anew with each
-- byte until it is decided. There is an answer for every state, also for one that no listening leads to.
-- Assumes nothing.
use Rattle.std.specs.Prelude.{ℕ, ◌+◌, ◌-◌, min, Bool, ◌&&◌, List, [], ◌∷◌, ◌++◌, eqb, ltb, leb, length, take, drop, replicate}
use Rattle.lists.specs.Choice.{pick}
use Rattle.lists.specs.Starting.{starting}
use Rattle.refusal.specs.Number.{output_short, run_ended, bus_error, at_place}
use Rattle.refusal.specs.declared.Refusal.{Refusal}
use Rattle.escapes.specs.Escape.{syn}
use Rattle.addresses.specs.declared.ExchangeKind.{ExchangeKind}
use Rattle.addresses.specs.declared.ExchangeKind.TheVariants.{Broadcast, InitiatorInitiator, InitiatorTarget}
use Rattle.addresses.specs.Address.{kind_of}
use Rattle.telegram.specs.Telegram.{command_room, reply_room, destination_of}
use Rattle.beginning.specs.Beginning.{is_piece}
use Rattle.attempts.specs.Attempt.{Attempt, taken, nacked, failed, attempt_at}
use Rattle.exchange.specs.Exchange.{limit, nacked_twice, Outcome, accepted, rejected, rooms}
use Rattle.listening.specs.declared.Listening.{Listening}
use Rattle.listening.specs.declared.Fed.{Fed}

-- ---- a state

-- what is due next: the command's first attempt, its second, the reply's first, its second, SYN, and then nothing
abbrev pub first_command : ℕ
first_command = 0

abbrev pub second_command : ℕ
second_command = 1

abbrev pub first_reply : ℕ
first_reply = 2

abbrev pub second_reply : ℕ
second_reply = 3

abbrev pub syn_due : ℕ
syn_due = 4

abbrev pub nothing_due : ℕ
nothing_due = 5

-- room for the raw bytes of an attempt: two for each of 22 logical ones, its acknowledge byte, and one that fills the state. It
-- is a bound: by rule E11 an attempt takes 42 at most
abbrev pub hand_room : ℕ
hand_room = 46

-- where the replies stand behind the command, and room for all three
abbrev pub first_place : ℕ
first_place = 22

abbrev pub second_place : ℕ
second_place = 40

abbrev pub kept_room : ℕ
kept_room = 58

-- nothing was heard
abbrev pub fresh : Listening
fresh =
    record { start = 0; place = 0; due = first_command; number = 0; held = 0; command_attempts = 0; reply_attempts = 0; command_length = 0; reply_1_length = 0; reply_2_length = 0; raw = replicate hand_room 0; kept = replicate kept_room 0 }

-- the raw bytes in hand, and how many bytes were used in all
abbrev pub in_hand : Listening → List ℕ
in_hand s = take s.held s.raw

abbrev pub heard : Listening → ℕ
heard s = min limit (s.start + length (in_hand s))

unfoldable pub has_answered : Listening → Bool
has_answered s = leb nothing_due s.due

-- ---- what becomes of a state

-- these bytes are in hand now
abbrev pub in_hand_now : Listening → List ℕ → Listening
in_hand_now s c =
    record { start = s.start; place = s.place; due = s.due; number = s.number; held = length c; command_attempts = s.command_attempts; reply_attempts = s.reply_attempts; command_length = s.command_length; reply_1_length = s.reply_1_length; reply_2_length = s.reply_2_length; raw = starting c (replicate hand_room 0); kept = s.kept }

-- the recording is used up to this position, and this is due
abbrev pub goes_on : Listening → ℕ → ℕ → Listening
goes_on s start due =
    record { start = start; place = s.place; due = due; number = s.number; held = 0; command_attempts = s.command_attempts; reply_attempts = s.reply_attempts; command_length = s.command_length; reply_1_length = s.reply_1_length; reply_2_length = s.reply_2_length; raw = replicate hand_room 0; kept = s.kept }

-- the answer is known: a number and its place in the recording, or 0 and 0
abbrev pub answers : Listening → ℕ → ℕ → ℕ → Listening
answers s start number place =
    record { start = start; place = place; due = nothing_due; number = number; held = 0; command_attempts = s.command_attempts; reply_attempts = s.reply_attempts; command_length = s.command_length; reply_1_length = s.reply_1_length; reply_2_length = s.reply_2_length; raw = replicate hand_room 0; kept = s.kept }

-- the accepted command, after so many attempts; a reply's first or second attempt, and how many there were, 0 until one is
-- taken
abbrev pub keeps_command : Listening → ℕ → List ℕ → Listening
keeps_command s attempts t =
    record { start = s.start; place = s.place; due = s.due; number = s.number; held = s.held; command_attempts = attempts; reply_attempts = s.reply_attempts; command_length = length t; reply_1_length = s.reply_1_length; reply_2_length = s.reply_2_length; raw = s.raw; kept = starting t s.kept }

abbrev pub keeps_first : Listening → ℕ → List ℕ → Listening
keeps_first s attempts t =
    record { start = s.start; place = s.place; due = s.due; number = s.number; held = s.held; command_attempts = s.command_attempts; reply_attempts = attempts; command_length = s.command_length; reply_1_length = length t; reply_2_length = s.reply_2_length; raw = s.raw; kept = take first_place s.kept ++ starting t (drop first_place s.kept) }

abbrev pub keeps_second : Listening → ℕ → List ℕ → Listening
keeps_second s attempts t =
    record { start = s.start; place = s.place; due = s.due; number = s.number; held = s.held; command_attempts = s.command_attempts; reply_attempts = attempts; command_length = s.command_length; reply_1_length = s.reply_1_length; reply_2_length = length t; raw = s.raw; kept = take second_place s.kept ++ starting t (drop second_place s.kept) }

-- ---- a byte more

-- a refusal whose place counts from the start of what is in hand, of which n bytes are used
abbrev pub refuses : Listening → ℕ → Refusal → Listening
refuses s n why = answers s (s.start + n) why.number (s.start + why.place)

-- rule E12: only initiator/target has a reply
abbrev pub due_behind : ExchangeKind → ℕ
due_behind Broadcast = syn_due
due_behind InitiatorInitiator = syn_due
due_behind InitiatorTarget = first_reply

-- behind the command that is kept
abbrev pub replies_to : Listening → ℕ → Listening
replies_to s start = goes_on s start (due_behind (kind_of (destination_of s.kept)))

abbrev pub is_command : Listening → Bool
is_command s = ltb s.due first_reply

-- an attempt was taken, and n bytes are used from the start of what was in hand
unfoldable pub on_taken : Listening → ℕ → List ℕ → Listening
on_taken s n t =
    pick (is_command s) (replies_to (keeps_command s (s.due + 1) t) (s.start + n))
    (pick (eqb s.due first_reply) (goes_on (keeps_first s 1 t) (s.start + n) syn_due) (goes_on (keeps_second s 2 t) (s.start + n) syn_due))

-- .. or NACKed, at a place of them: rule E14
unfoldable pub on_nacked : Listening → ℕ → List ℕ → ℕ → Listening
on_nacked s n t place =
    pick (eqb s.due first_command) (goes_on s (s.start + n) second_command)
    (pick (eqb s.due first_reply) (goes_on (keeps_first s 0 t) (s.start + n) second_reply)
    (refuses s n (at_place (nacked_twice (is_command s)) place)))

-- an attempt as far as these bytes go: where they end before it is decided, they are in hand
abbrev pub on_attempt : Listening → List ℕ → Attempt → Listening
on_attempt s c (taken t next) = on_taken s (length c) t
on_attempt s c (nacked t place) = on_nacked s (length c) t place
on_attempt s c (failed why) = pick (eqb why.number run_ended) (in_hand_now s c) (refuses s (length c) why)

-- SYN ends the exchange
abbrev pub on_syn : Listening → ℕ → Listening
on_syn s b =
    let n = length (in_hand s) in
    pick (eqb b syn) (answers s (s.start + (n + 1)) 0 0) (refuses s (n + 1) (at_place bus_error n))

-- rule E21: as long as SRC or DST of the first command is not whole, a SYN throws away what is in hand
abbrev pub restarts : Listening → List ℕ → Bool
restarts s c = eqb s.due first_command && is_piece c

-- one byte behind those in hand: all is thrown away, or the attempt is judged anew, or it is SYN's turn
unfoldable pub hear : Listening → ℕ → Listening
hear s b =
    let c = in_hand s ++ b ∷ [] in
    pick (restarts s c) (goes_on s (s.start + length c) first_command)
    (pick (ltb s.due syn_due) (on_attempt s c (attempt_at (is_command s) c 0)) (on_syn s b))

-- ---- a run more

-- n bytes before these
abbrev pub after : ℕ → Fed → Fed
after n f = record { state = f.state; used = n + f.used }

-- byte by byte, until the answer is known
unfoldable pub listened : Listening → List ℕ → Fed
listened s [] = record { state = s; used = 0 }
listened s (b ∷ bs) = pick (has_answered s) (record { state = s; used = 0 }) (after 1 (listened (hear s b) bs))

-- rule E20: and no byte behind the recording's 2^31st
unfoldable pub fed : Listening → List ℕ → Fed
fed s run = listened s (take (limit - heard s) run)

-- ---- the answer

-- what the buffers start with
abbrev pub kept_command : Listening → List ℕ
kept_command s = take s.command_length (take command_room s.kept)

abbrev pub kept_first : Listening → List ℕ
kept_first s = take s.reply_1_length (take reply_room (drop first_place s.kept))

abbrev pub kept_second : Listening → List ℕ
kept_second s = take s.reply_2_length (take reply_room (drop second_place s.kept))

-- number 3 where the answer is not known yet
unfoldable pub answer : Listening → Outcome
answer s =
    pick (has_answered s)
    (pick (eqb s.number 0)
    (accepted (kind_of (destination_of s.kept)) s.command_attempts s.reply_attempts s.start (kept_command s) (kept_first s) (kept_second s))
    (rejected (at_place s.number s.place)))
    (rejected (at_place run_ended (heard s)))

-- a state that was closed has answered, with number 3 if it had not before
unfoldable pub closed : Listening → Listening
closed s = pick (has_answered s) s (answers s (heard s) run_ended (heard s))

-- number 1 first, also where a refusal is held; the state is then kept
unfoldable pub closing : Listening → ℕ → ℕ → ℕ → Outcome
closing s command first second = pick (rooms command first second) (answer s) (rejected (at_place output_short 0))

unfoldable pub closing_state : Listening → ℕ → ℕ → ℕ → Listening
closing_state s command first second = pick (rooms command first second) (closed s) s
