-- One request to the devices. Rules D2 to D5.
-- Assumes nothing.
use Rattle.std.specs.Prelude.{ℕ, ◌+◌, ◌*◌, List, [], ◌∷◌, eqb, length, get_or, set, replicate}
use Rattle.lists.specs.Choice.{pick}
use Rattle.arbitration.specs.Contest.{decided}
use Rattle.arbitration.specs.declared.Decided.{Decided}
use Rattle.table.specs.Table.{Table, devices, marked, serial_limit}
use Rattle.requests.specs.declared.Request.{Request}
use Rattle.requests.specs.declared.Request.TheVariants.{Start, Continue}
use Rattle.turns.specs.declared.Answer.{Answer}
use Rattle.turns.specs.declared.Answer.TheVariants.{Silence, Found, End}

-- a device's key (rule D2): four mark bits, one number of an unscanned and another of a scanned device, above 28 bits of serial
unfoldable pub key_with : ℕ → ℕ → ℕ → ℕ → ℕ
key_with unscanned scanned mark serial = pick (eqb mark 0) unscanned scanned * serial_limit + serial

-- the numbers are 0 and 15 (rule D2)
abbrev pub key : ℕ → ℕ → ℕ
key mark serial = key_with 0 15 mark serial

-- a number for each device, by its mark and its serial
unfoldable pub for_each : (ℕ → ℕ → ℕ) → List ℕ → List ℕ → List ℕ
for_each number [] marks = []
for_each number (s ∷ ss) [] = []
for_each number (s ∷ ss) (m ∷ ms) = number m s ∷ for_each number ss ms

-- the keys of all devices
abbrev pub keys_of : List ℕ → List ℕ → List ℕ
keys_of serials marks = for_each key serials marks

abbrev pub keys : Table → List ℕ
keys t = keys_of t.serials t.marks

-- a window for each bit of a key (rule D3)
abbrev pub windows : ℕ
windows = 32

-- what the contest of all devices decides, with the marks as they stand: where the one that remains stands in the table, and
-- how many windows were dominant
abbrev pub contest : Table → Decided
contest t = decided windows (keys t)

-- the winner names itself where it is unscanned, and is the end where it is scanned (rule D5)
abbrev pub found_answer : Table → Answer
found_answer t =
    Found (contest t).dominant (get_or t.serials (contest t).place 0) (get_or t.addresses (contest t).place 0)

abbrev pub end_answer : Table → Answer
end_answer t = End (contest t).dominant

-- all devices contend with the marks as they stand; where there is none, nobody answers (rule D5)
unfoldable pub contend : Table → Answer
contend t =
    pick (eqb (devices t) 0) Silence (pick (eqb (get_or t.marks (contest t).place 0) 0) (found_answer t) (end_answer t))

-- the table after an answer: the mark of the one that was found becomes 1; an end and silence leave it as it is (rule D5)
abbrev pub table_after : Answer → Table → Table
table_after (Found dominant serial address) t = marked t (set t.marks (contest t).place 1)
table_after (End dominant) t = t
table_after Silence t = t

-- the table that contends: a start forgets who was scanned, a continue does not (rule D4)
abbrev pub cleared : Table → Table
cleared t = marked t (replicate (length t.marks) 0)

abbrev pub standing : Request → Table → Table
standing Start t = cleared t
standing Continue t = t

-- a request made: the table that it met, what the devices answered, and the table after it
pub record Turn : Type 0 where
  pub request : Request
  pub met : Table
  pub answer : Answer
  pub table : Table

-- one request to the devices: the one operation of start, continue, a raw frame and the whole scan
unfoldable pub respond : Request → Table → Turn
respond request t =
    record {
      request = request;
      met = t;
      answer = contend (standing request t);
      table = table_after (contend (standing request t)) (standing request t);
    }
