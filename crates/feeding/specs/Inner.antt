-- What only private contracts need: what an attempt makes of a state when all the bytes that are there are looked at at once.
-- Assumes nothing.
use Rattle.std.specs.Prelude.{◌≡◌, ℕ, ◌+◌, ◌-◌, ◌≤◌, ◌<◌, max, Bool, true, List, ◌++◌, eqb, ltb, length, get_or, take, drop, replicate}
use Rattle.lists.specs.Choice.{pick}
use Rattle.refusal.specs.Number.{run_ended}
use Rattle.beginning.specs.Beginning.{passed_over}
use Rattle.attempts.specs.Attempt.{Attempt, taken, nacked, failed, attempt_at}
use Rattle.attempts.specs.Looks.{looked_at}
use Rattle.listening.specs.declared.Listening.{Listening}
use Rattle.listening.specs.declared.Fed.{Fed}
use Rattle.listening.specs.Listening.{first_command, first_reply, syn_due, nothing_due, hand_room, in_hand, is_command, in_hand_now, goes_on, refuses, on_taken, on_nacked, on_syn, after, listened}
use Rattle.feeding.specs.declared.marks.Marks.{Marks}
use Rattle.feeding.specs.declared.attempt.Step.{Step}

-- ---- marks

-- those of a state, from a start in the recording
abbrev pub marks_of : Listening → ℕ → Marks
marks_of s start =
    record { start = start; place = s.place; due = s.due; number = s.number; command_attempts = s.command_attempts; reply_attempts = s.reply_attempts; command_length = s.command_length; reply_1_length = s.reply_1_length; reply_2_length = s.reply_2_length }

-- the state with these marks and these bytes, of which so many are in hand
abbrev pub state_with : Marks → ℕ → List ℕ → List ℕ → Listening
state_with m held raw kept =
    record { start = m.start; place = m.place; due = m.due; number = m.number; held = held; command_attempts = m.command_attempts; reply_attempts = m.reply_attempts; command_length = m.command_length; reply_1_length = m.reply_1_length; reply_2_length = m.reply_2_length; raw = raw; kept = kept }

-- .. and nothing in hand
abbrev pub state_of : Marks → List ℕ → Listening
state_of m kept = state_with m 0 (replicate hand_room 0) kept

abbrev pub command_due : Marks → Bool
command_due m = ltb m.due first_reply

-- the answer is known
abbrev pub answers_on : Marks → ℕ → ℕ → ℕ → Marks
answers_on m start number place =
    record { start = start; place = place; due = nothing_due; number = number; command_attempts = m.command_attempts; reply_attempts = m.reply_attempts; command_length = m.command_length; reply_1_length = m.reply_1_length; reply_2_length = m.reply_2_length }

-- what a step on these bytes made, with what is kept then
abbrev pub fed_of : Step → List ℕ → List ℕ → Fed
fed_of r c kept = record { state = pick r.open (in_hand_now (state_of r.marks kept) c) (state_of r.marks kept); used = r.used }

-- an open one used them all, and they have room in hand
abbrev pub Ends : Step → List ℕ → Type 0
Ends r c = r.open ≡ true → (r.used ≡ length c) × (length c ≤ hand_room)

-- ---- an attempt

-- an attempt on these bytes, of which n are used if they decide it, and else all
abbrev pub step_by : Listening → List ℕ → ℕ → Attempt → Fed
step_by s c n (taken t next) = record { state = on_taken s n t; used = n }
step_by s c n (nacked t place) = record { state = on_nacked s n t place; used = n }
step_by s c n (failed why) =
    pick (eqb why.number run_ended) (record { state = in_hand_now s c; used = length c }) (record { state = refuses s n why; used = n })

-- the bytes through the one that decides, and at least so many
abbrev pub step_on : Listening → List ℕ → ℕ → Fed
step_on s c least = step_by s c (max least (looked_at (is_command s) c 0)) (attempt_at (is_command s) c 0)

-- ---- the beginning

-- how many of these bytes are thrown away behind so many in hand, which go with them: those of the pieces before the first command
abbrev pub thrown_by : ℕ → List ℕ → ℕ → ℕ
thrown_by due c held = pick (eqb due first_command) (passed_over (take held c) (drop held c)) 0

-- nothing is in hand behind so many bytes, and what was due is due
abbrev pub begins_anew : Listening → ℕ → Fed
begins_anew s n = record { state = goes_on s (s.start + n) s.due; used = n }

-- what an attempt on these bytes makes, unless some are thrown away: it begins anew behind them
abbrev pub unless_thrown : Listening → List ℕ → ℕ → Fed → Fed
unless_thrown s c held f = pick (eqb (thrown_by s.due c held) 0) f (begins_anew s (held + thrown_by s.due c held))

abbrev pub tries_on : Listening → List ℕ → ℕ → Fed
tries_on s c held = unless_thrown s c held (step_on s c (held + 1))

-- .. or the byte that is due to be SYN
abbrev pub turn_on : Listening → List ℕ → ℕ → Fed
turn_on s c held = pick (ltb s.due syn_due) (tries_on s c held) (record { state = on_syn s (get_or c 0 0); used = 1 })

-- ---- the bytes in hand and a run

-- room for the bytes in hand and some of a run behind them. It is more than what can stay in hand, so that an attempt which
-- is open has looked at the whole run
abbrev pub joined_room : ℕ
joined_room = 64

-- the bytes in hand, and behind them those of a run that there is room for
abbrev pub joined : List ℕ → List ℕ → List ℕ
joined hand run = hand ++ take (joined_room - length hand) run

-- ---- a turn

-- some bytes of a run were used, and what is left of it goes on from the state that they made
pub record Turned (s : Listening) (run : List ℕ) (r : Fed) : Type 0 where
  pub some : 0 < r.used
  pub within : r.used ≤ length run
  pub same : listened s run ≡ after r.used (listened r.state (drop r.used run))
  pub moves : r.state.start + length (in_hand r.state) ≡ s.start + length (in_hand s) + r.used
