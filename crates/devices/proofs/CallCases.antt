-- What a call gives by the way it gets past its guard, or does not, as the definition and as the promise.
-- Assumes nothing.
use Rattle.std.specs.Prelude.{Result, Ok, Err}
use mathlib.Core.Path.{◌≡◌, ap, ◌∙◌}
use mathlib.Core.List.{List}
use mathlib.Mathlib.Logic.Function.Defs.{const}
use Prim.Native.Nat.{ℕ, min}
use lib.ListN.{length}
use Rattle.refusal.specs.declared.Refusal.{Refusal}
use Rattle.requests.specs.declared.Request.{Request}
use Rattle.requests.specs.declared.Request.TheVariants.{Start}
use Rattle.table.specs.Table.{Table, devices, valid}
use Rattle.guard.specs.Guard.{guard}
use Rattle.devices.specs.Calls.{answer_room, behind, reading, refusing, ask_call}
use Rattle.devices.specs.WholeScan.{Scanning, GivesScan, serials_heard, scan_from, concluded, scan_refusing, scan_behind, scan_call}
use Rattle.devices.specs.declared.Scanned.{Scanned}

-- ---- a request as it was read

module _ (read : Result Request Refusal) (buffer : List ℕ) (t : Table) where
  pub ask_refused : (why : Refusal) → guard answer_room (length buffer) (valid t) ≡ Err why → ask_call read buffer t ≡ refusing why buffer t
  unfolding ask_call
  ask_refused why g = ap (λ (x : Result (Unit {0}) Refusal). behind x read buffer t) g

  pub ask_passed : guard answer_room (length buffer) (valid t) ≡ Ok tt → ask_call read buffer t ≡ reading read buffer t
  unfolding ask_call
  ask_passed g = ap (λ (x : Result (Unit {0}) Refusal). behind x read buffer t) g

-- ---- a whole scan

module _ (cap : ℕ) (serials addresses : List ℕ) (t : Table) where
  pub scan_refused : (why : Refusal) → guard (devices t) (min (length serials) (length addresses)) (valid t) ≡ Err why
      → scan_call cap serials addresses t ≡ scan_refusing why serials addresses t
  unfolding scan_call
  scan_refused why g = ap (λ (x : Result (Unit {0}) Refusal). scan_behind x cap serials addresses t) g

  pub scan_passed : guard (devices t) (min (length serials) (length addresses)) (valid t) ≡ Ok tt
      → scan_call cap serials addresses t ≡ concluded serials addresses t (scan_from cap Start t)
  unfolding scan_call
  scan_passed g = ap (λ (x : Result (Unit {0}) Refusal). scan_behind x cap serials addresses t) g

pub scans_shown : {A : Type 0} (shows : Result Scanned Refusal → ℕ → A) (given : Scanning) (scanned : Result Scanned Refusal) (r : A) (serials addresses : List ℕ) (t : Table)
    → r ≡ shows scanned (length (serials_heard given.turns)) → GivesScan (const ℕ) given scanned serials addresses t → GivesScan shows given r serials addresses t
scans_shown shows given scanned r serials addresses t e g =
    record {
      result = e ∙ ap (λ (s : Result Scanned Refusal). shows s (length (serials_heard given.turns))) g.result;
      serials_are = g.serials_are;
      addresses_are = g.addresses_are;
      table_is = g.table_is;
    }
