-- A whole scan, request by request under the caller's cap. Rule D8.
-- Assumes nothing.
use Rattle.std.specs.Prelude.{◌≡◌, ℕ, zero, suc, ◌+◌, min, List, [], ◌∷◌, length, Result, Ok, Err}
use Rattle.lists.specs.Starting.{starting}
use Rattle.refusal.specs.Numbers.{Numbers, accepted_with, refused_with}
use Rattle.refusal.specs.declared.Refusal.{Refusal}
use Rattle.requests.specs.declared.Request.{Request}
use Rattle.requests.specs.declared.Request.TheVariants.{Start, Continue}
use Rattle.table.specs.Table.{Table, devices, valid}
use Rattle.turns.specs.Request.{Turn, respond}
use Rattle.guard.specs.Guard.{guard}
use Rattle.turns.specs.declared.Answer.{Answer}
use Rattle.turns.specs.declared.Answer.TheVariants.{Silence, Found, End}
use Rattle.devices.specs.declared.Scanned.{Scanned}
use Rattle.devices.specs.declared.Scanned.TheVariants.{Complete, Nobody, Unfinished}

-- a device was found, so the scan goes on; end and silence end it
abbrev pub onward : Answer → List Turn → List Turn
onward (Found dominant serial address) later = later
onward (End dominant) later = []
onward Silence later = []

-- the turns of a scan from a request on, with so many requests left under the cap: each is the one operation, on the table
-- that the one before left
unfoldable pub scan_from : ℕ → Request → Table → List Turn
scan_from zero request t = []
scan_from (suc cap) request t =
    respond request t ∷ onward (respond request t).answer (scan_from cap Continue (respond request t).table)

-- the table after turns that began with this one
unfoldable pub left_by : List Turn → Table → Table
left_by [] t = t
left_by (turn ∷ turns) t = left_by turns turn.table

-- what the two lists are to hold: each device found, in the order of the turns
abbrev pub serial_in : Answer → List ℕ → List ℕ
serial_in (Found dominant serial address) later = serial ∷ later
serial_in (End dominant) later = later
serial_in Silence later = later

abbrev pub address_in : Answer → List ℕ → List ℕ
address_in (Found dominant serial address) later = address ∷ later
address_in (End dominant) later = later
address_in Silence later = later

unfoldable pub serials_heard : List Turn → List ℕ
serials_heard [] = []
serials_heard (turn ∷ turns) = serial_in turn.answer (serials_heard turns)

unfoldable pub addresses_heard : List Turn → List ℕ
addresses_heard [] = []
addresses_heard (turn ∷ turns) = address_in turn.answer (addresses_heard turns)

-- how many FF stand before an answer, and before all answers of a scan together, the end's included
abbrev pub fill_of : Answer → ℕ
fill_of (Found dominant serial address) = dominant
fill_of (End dominant) = dominant
fill_of Silence = 0

unfoldable pub fill_heard : List Turn → ℕ
fill_heard [] = 0
fill_heard (turn ∷ turns) = fill_of turn.answer + fill_heard turns

-- how a scan closed: Complete by an end, Nobody by silence, Unfinished by neither
abbrev pub closed_by : Answer → (ℕ → ℕ → Scanned) → ℕ → ℕ → Scanned
closed_by (Found dominant serial address) later = later
closed_by (End dominant) later = Complete
closed_by Silence later = Nobody

unfoldable pub closing : List Turn → ℕ → ℕ → Scanned
closing [] = Unfinished
closing (turn ∷ turns) = closed_by turn.answer (closing turns)

-- rule D8: a scan's answer as numbers: how it ended, the requests sent, how many devices were heard, which its lists hold, and how
-- many FF stood before its answers
abbrev pub scanned_numbers : Result Scanned Refusal → ℕ → Numbers
scanned_numbers (Ok (Complete sent skipped)) heard = accepted_with (1 ∷ sent ∷ heard ∷ skipped ∷ [])
scanned_numbers (Ok (Nobody sent skipped)) heard = accepted_with (2 ∷ sent ∷ heard ∷ skipped ∷ [])
scanned_numbers (Ok (Unfinished sent skipped)) heard = accepted_with (3 ∷ sent ∷ heard ∷ skipped ∷ [])
scanned_numbers (Err why) heard = refused_with why

-- what the call gives: how the scan closed, the two lent lists afterwards, the table afterwards, and the turns that it made
pub record Scanning : Type 0 where
  pub scanned : Result Scanned Refusal
  pub serials : List ℕ
  pub addresses : List ℕ
  pub table : Table
  pub turns : List Turn

-- what the call is promised to give: its result, which shows how the scan closed and may show how many devices were heard,
-- and what the two lists and the table hold afterwards
pub record GivesScan {A : Type 0} (shows : Result Scanned Refusal → ℕ → A) (given : Scanning) (r : A) (serials addresses : List ℕ) (t : Table) : Type 0 where
  pub result : r ≡ shows given.scanned (length (serials_heard given.turns))
  pub serials_are : serials ≡ given.serials
  pub addresses_are : addresses ≡ given.addresses
  pub table_is : t ≡ given.table

-- what a scan comes to: its number is that of the turns, and the lists are overwritten only as far as something was heard
abbrev pub concluded : List ℕ → List ℕ → Table → List Turn → Scanning
concluded serials addresses t turns =
    record {
      scanned = Ok (closing turns (length turns) (fill_heard turns));
      serials = starting (serials_heard turns) serials;
      addresses = starting (addresses_heard turns) addresses;
      table = left_by turns t;
      turns = turns;
    }

-- a refusal leaves all that was lent as it was, and no request is made (rule N1)
abbrev pub scan_refusing : Refusal → List ℕ → List ℕ → Table → Scanning
scan_refusing why serials addresses t = record { scanned = Err why; serials = serials; addresses = addresses; table = t; turns = [] }

abbrev pub scan_behind : Result (Unit {0}) Refusal → ℕ → List ℕ → List ℕ → Table → Scanning
scan_behind (Ok tt) cap serials addresses t = concluded serials addresses t (scan_from cap Start t)
scan_behind (Err why) cap serials addresses t = scan_refusing why serials addresses t

-- the call: each of the two lists has room for all devices, so the shorter one is measured (rules D8, N2)
unfoldable pub scan_call : ℕ → List ℕ → List ℕ → Table → Scanning
scan_call cap serials addresses t =
    scan_behind (guard (devices t) (min (length serials) (length addresses)) (valid t)) cap serials addresses t
