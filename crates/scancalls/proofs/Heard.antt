-- A scan's answer tells how many devices were heard: every request found one but for the request that ended the scan.
-- Assumes nothing.
use Rattle.std.specs.Prelude.{Result, Ok, Err}
use Rattle.refusal.specs.declared.Refusal.{Refusal}
use mathlib.Core.Path.{◌≡◌, refl, sym, ap, ◌∙◌}
use mathlib.Core.List.{List}
use Prim.Native.Nat.{ℕ, zero, suc, ◌+◌, min}
use native.Mathlib.Omega.{arith}
use lib.ListN.{length}
use Rattle.requests.specs.declared.Request.{Request}
use Rattle.requests.specs.declared.Request.TheVariants.{Start, Continue}
use Rattle.table.specs.Table.{Table, devices, valid}
use Rattle.turns.specs.Request.{Turn, respond}
use Rattle.guard.specs.Guard.{guard}
use Rattle.devices.specs.WholeScan.{onward, scan_from, closing, closed_by, serial_in, serials_heard, fill_heard, scan_behind, scan_call}
use Rattle.turns.specs.declared.Answer.{Answer}
use Rattle.turns.specs.declared.Answer.TheVariants.{Silence, Found, End}
use Rattle.scanboundary.specs.ForC.{found_by}

-- of turns behind j others that found a device each, whatever number of FF is told
abbrev Told : ℕ → List Turn → Type 0
Told j turns = (fill : ℕ) → found_by (Ok (closing turns (j + length turns) fill)) ≡ j + length (serials_heard turns)

-- one turn more, by what was heard in it
told_step : (answer : Answer) (later : List Turn) (j fill : ℕ) → ((k : ℕ) → Told k later)
    → found_by (Ok (closed_by answer (closing (onward answer later)) (j + suc (length (onward answer later))) fill)) ≡ j + length (serial_in answer (serials_heard (onward answer later)))
unfolding closing serials_heard
told_step (Found dominant serial address) later j fill rest =
    ap (λ (k : ℕ). found_by (Ok (closing later k fill))) (moved j (length later)) ∙ rest (suc j) fill ∙ sym (moved j (length (serials_heard later)))
  where
    moved : (j n : ℕ) → j + suc n ≡ suc j + n
    moved j n = omega arith
told_step (End dominant) later j fill rest = omega arith
told_step Silence later j fill rest = omega arith

pub told : (most : ℕ) (request : Request) (t : Table) (j : ℕ) → Told j (scan_from most request t)
unfolding scan_from closing serials_heard
told zero request t j fill = refl
told (suc most) request t j fill =
    told_step (respond request t).answer (scan_from most Continue (respond request t).table) j fill (told most Continue (respond request t).table)

behind : (g : Result (Unit {0}) Refusal) (most : ℕ) (serials addresses : List ℕ) (t : Table)
    → found_by (scan_behind g most serials addresses t).scanned ≡ length (serials_heard (scan_behind g most serials addresses t).turns)
unfolding serials_heard
behind (Ok tt) most serials addresses t =
    ap (λ (k : ℕ). found_by (Ok (closing (scan_from most Start t) k (fill_heard (scan_from most Start t))))) (from_none (length (scan_from most Start t)))
    ∙ told most Start t 0 (fill_heard (scan_from most Start t))
    ∙ sym (from_none (length (serials_heard (scan_from most Start t))))
  where
    from_none : (n : ℕ) → n ≡ 0 + n
    from_none n = omega arith
behind (Err why) most serials addresses t = refl

-- of a whole scan
pub heard : (most : ℕ) (serials addresses : List ℕ) (t : Table)
    → found_by (scan_call most serials addresses t).scanned ≡ length (serials_heard (scan_call most serials addresses t).turns)
unfolding scan_call
heard most serials addresses t = behind (guard (devices t) (min (length serials) (length addresses)) (valid t)) most serials addresses t
