-- Each answer on scan frames and devices as a struct that C can take. It holds the numbers that stand beside the answer's type,
-- by their names: rule N1's number, 0 where nothing is refused, its place, and the values, of which one that is not there is 0.
-- Assumes nothing.
use Rattle.std.specs.Prelude.{ℕ, ◌-◌, Option, Result, Ok, Err}
use Rattle.refusal.specs.declared.Refusal.{Refusal}
use Rattle.requests.specs.declared.Request.{Request}
use Rattle.refusal.specs.Numbers.{value}
use Rattle.boundary.specs.ForC.{length_for_c}
use Rattle.boundary.specs.declared.MoorWritten.{MoorWritten}
use Rattle.requests.specs.Reading.{request_numbers}
use Rattle.answers.specs.Reading.{answer_numbers}
use Rattle.answers.specs.declared.AnswerRead.{AnswerRead}
use Rattle.arbitration.specs.declared.Decided.{Decided}
use Rattle.devices.specs.declared.Scanned.{Scanned}
use Rattle.devices.specs.declared.Scanned.TheVariants.{Complete, Nobody, Unfinished}
use Rattle.devices.specs.Calls.{response_numbers}
use Rattle.devices.specs.WholeScan.{scanned_numbers}
use Rattle.scanboundary.specs.declared.MoorRequestRead.{MoorRequestRead}
use Rattle.scanboundary.specs.declared.MoorAnswerRead.{MoorAnswerRead}
use Rattle.scanboundary.specs.declared.MoorDecided.{MoorDecided}
use Rattle.scanboundary.specs.declared.MoorScanned.{MoorScanned}

abbrev pub response_for_c : Result (Option ℕ) Refusal → MoorWritten
response_for_c x = length_for_c (response_numbers x)

abbrev pub request_for_c : Result Request Refusal → MoorRequestRead
request_for_c x =
    let n = request_numbers x in
    record { number = n.number; request = value n 0; place = n.place }

abbrev pub answer_for_c : Result AnswerRead Refusal → MoorAnswerRead
answer_for_c x =
    let n = answer_numbers x in
    record { number = n.number; answer = value n 0; address = value n 3; serial = value n 2; place = n.place; skipped = value n 1 }

-- the key that remains and the dominant windows; who has that key is not told
abbrev pub decided_for_c : Decided → MoorDecided
decided_for_c d = record { key = d.key; dominant = d.dominant }

abbrev pub scanned_for_c : Result Scanned Refusal → ℕ → MoorScanned
scanned_for_c x heard =
    let n = scanned_numbers x heard in
    record { number = n.number; end = value n 0; place = n.place; requests = value n 1; found = value n 2; skipped = value n 3 }

-- how many devices were heard by a scan's answer alone: one less than the requests where the last one found no device
abbrev pub found_by : Result Scanned Refusal → ℕ
found_by (Ok (Complete sent skipped)) = sent - 1
found_by (Ok (Nobody sent skipped)) = sent - 1
found_by (Ok (Unfinished sent skipped)) = sent
found_by (Err why) = 0
