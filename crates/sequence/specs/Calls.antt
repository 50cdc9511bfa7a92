-- A list of calls to the devices, made one after the other on one table: what rule D9 speaks of.
-- Assumes nothing.
use Rattle.std.specs.Prelude.{◌≡◌, ℕ, zero, suc, min, List, [], ◌∷◌, ◌++◌, ltb, length, Option, Some, None, Result, Ok, Err}
use Rattle.lists.specs.Choice.{pick}
use Rattle.refusal.specs.Number.{output_short, at_place}
use Rattle.refusal.specs.declared.Refusal.{Refusal}
use Rattle.requests.specs.Reading.{read_request}
use Rattle.requests.specs.declared.Request.{Request}
use Rattle.requests.specs.declared.Request.TheVariants.{Start, Continue}
use Rattle.table.specs.Table.{Table}
use Rattle.turns.specs.Request.{Turn, respond}
use Rattle.devices.specs.Calls.{Answering, answer_room, ask_call}
use Rattle.devices.specs.WholeScan.{Scanning, scan_call, serial_in}

-- ---- a call, with all that it is lent but the table; no frame, cap or buffer is ruled out

pub data Call : Type 0 where
  -- the request as it was read, and the answer buffer
  ask : Result Request Refusal → List ℕ → Call
  -- the cap, the list for serials and the list for addresses
  scan : ℕ → List ℕ → List ℕ → Call

-- a start, a continue and a raw frame offered to the devices ask what they read as
abbrev pub start : List ℕ → Call
start buffer = ask (Ok Start) buffer

abbrev pub continue : List ℕ → Call
continue buffer = ask (Ok Continue) buffer

abbrev pub offer : List ℕ → List ℕ → Call
offer frame buffer = ask (read_request frame) buffer

-- what a call gives: by the definitions that the contracts in crates/devices promise its results by
pub data Outcome : Type 0 where
  answering : Answering → Outcome
  scanning : Scanning → Outcome

abbrev pub step : Call → Table → Outcome
step (ask read buffer) t = answering (ask_call read buffer t)
step (scan cap serials addresses) t = scanning (scan_call cap serials addresses t)

-- the table after a call, and the turns that it made
abbrev pub table_of : Outcome → Table
table_of (answering a) = a.table
table_of (scanning s) = s.table

abbrev pub turns_of : Outcome → List Turn
turns_of (answering a) = a.turns
turns_of (scanning s) = s.turns

-- what a call was lent besides the table, and what that holds afterwards
abbrev pub lent : Call → List (List ℕ)
lent (ask read buffer) = buffer ∷ []
lent (scan cap serials addresses) = serials ∷ addresses ∷ []

abbrev pub lent_after : Outcome → List (List ℕ)
lent_after (answering a) = a.buffer ∷ []
lent_after (scanning s) = s.serials ∷ s.addresses ∷ []

-- the refusal that it gave, if any
abbrev pub refusal_in : {A : Type 0} → Result A Refusal → Option Refusal
refusal_in (Ok given) = None
refusal_in (Err why) = Some why

abbrev pub refusal_of : Outcome → Option Refusal
refusal_of (answering a) = refusal_in a.response
refusal_of (scanning s) = refusal_in s.scanned

-- ---- calls one after the other

-- the table after them
unfoldable pub after : List Call → Table → Table
after [] t = t
after (call ∷ calls) t = after calls (table_of (step call t))

-- all turns that they made, whichever call made them; a refused call makes none (rule D9)
unfoldable pub history : List Call → Table → List Turn
history [] t = []
history (call ∷ calls) t = turns_of (step call t) ++ history calls (table_of (step call t))

-- turns one after the other, from a first table to a last one: each is the one operation on the table that those before it
-- left
unfoldable pub Linked : Table → List Turn → Table → Type 0
Linked first [] last = first ≡ last
Linked first (turn ∷ turns) last = (turn ≡ respond turn.request first) × Linked turn.table turns last

-- ---- counting the requests from the last start on, itself included (rule D9)

-- 0 until the first start: a continue before it counts for nothing
abbrev pub counted : ℕ → Request → ℕ
counted m Start = 1
counted zero Continue = zero
counted (suc m) Continue = suc (suc m)

unfoldable pub since_start : ℕ → List Turn → ℕ
since_start m [] = m
since_start m (turn ∷ turns) = since_start (counted m turn.request) turns

-- the serials named since the last start
abbrev pub kept : Request → List ℕ → List ℕ
kept Start before = []
kept Continue before = before

unfoldable pub named : List ℕ → List Turn → List ℕ
named before [] = before
named before (turn ∷ turns) = named (kept turn.request before ++ serial_in turn.answer []) turns

-- ---- which calls are refused, on a valid table of n devices (rules N2, D7)

-- number 1 at 0 where there is less room than is needed
abbrev pub short_or : ℕ → ℕ → Option Refusal → Option Refusal
short_or needed room otherwise = pick (ltb room needed) (Some (at_place output_short 0)) otherwise

-- the request reader's own number and place
abbrev pub reader_refusal : Result Request Refusal → Option Refusal
reader_refusal (Ok request) = None
reader_refusal (Err why) = Some why

-- an answer buffer is measured before what was read; of a scan's two lists the shorter one is measured
abbrev pub refusal_due : ℕ → Call → Option Refusal
refusal_due n (ask read buffer) = short_or answer_room (length buffer) (reader_refusal read)
refusal_due n (scan cap serials addresses) = short_or n (min (length serials) (length addresses)) None
