-- The steps of a whole scan: what it comes to from here on, and how many devices it can still find.
-- Assumes nothing.
use mathlib.Core.Path.{◌≡◌, sym, ap, ap₂, ◌∙◌}
use mathlib.Core.Bool.{true}
use mathlib.Core.List.{List, ◌∷◌}
use Prim.Native.Nat.{ℕ, suc, ◌+◌, ◌<◌}
use native.Mathlib.Nat.{add-zero, add_assoc}
use native.Mathlib.Omega.{arith}
use lib.ListN.{length, get_or, set}
use lib.Seq.{sets}
use borrow.Author.Tests.{ne_eqb}
use Rattle.requests.specs.declared.Request.{Request}
use Rattle.requests.specs.declared.Request.TheVariants.{Continue}
use Rattle.table.specs.Table.{Table, devices, valid}
use Rattle.turns.specs.Request.{Turn, contest, contend, table_after, standing, respond}
use Rattle.devices.specs.WholeScan.{onward, scan_from, left_by, serials_heard, addresses_heard, fill_heard, closing}
use Rattle.lists.specs.Tests.{how_many}
use Rattle.turns.specs.declared.Answer.{Answer}
use Rattle.turns.specs.declared.Answer.TheVariants.{Silence, Found, End}
use Rattle.devices.specs.declared.Scanned.{Scanned}
use Rattle.devices.specs.declared.Scanned.TheVariants.{Complete, Nobody, Unfinished}
use Rattle.table.proofs.Meaning.{tested}
use Rattle.turns.proofs.TurnCases.{by_contest, place_inside}
use Rattle.turns.proofs.TurnKeeps.{standing_valid, standing_devices}
use Rattle.lists.proofs.Counting.{is_marked, how_many_not_all, how_many_set}

-- a turn whose answer is known
abbrev pub answered : Turn → Answer → Turn
answered turn answer = record { request = turn.request; met = turn.met; answer = answer; table = turn.table }

-- the scan's first turn, by its answer, and what comes after it
pub scan_step : (k : ℕ) (request : Request) (t : Table) (answer : Answer) → (respond request t).answer ≡ answer
    → scan_from (suc k) request t ≡ answered (respond request t) answer ∷ onward answer (scan_from k Continue (respond request t).table)
unfolding scan_from
scan_step k request t answer e = ap (λ (a : Answer). answered (respond request t) a ∷ onward a (scan_from k Continue (respond request t).table)) e

-- what a scan comes to from here on, with so many devices heard and FF passed over before, and the lists as they are
pub record Finish : Type 0 where
  pub scanned : Scanned
  pub serials : List ℕ
  pub addresses : List ℕ
  pub table : Table

abbrev pub finish : ℕ → ℕ → List ℕ → List ℕ → Table → List Turn → Finish
finish sent fill serials addresses t turns =
    record {
      scanned = closing turns (sent + length turns) (fill + fill_heard turns);
      serials = sets serials sent (serials_heard turns);
      addresses = sets addresses sent (addresses_heard turns);
      table = left_by turns t;
    }

abbrev pub finished : Scanned → List ℕ → List ℕ → Table → Finish
finished scanned serials addresses t = record { scanned = scanned; serials = serials; addresses = addresses; table = t }

module _ (sent fill k : ℕ) (serials addresses : List ℕ) (request : Request) (t : Table) where
  pub finish_found : (dominant serial address : ℕ) → (respond request t).answer ≡ Found dominant serial address
      → finish sent fill serials addresses t (scan_from (suc k) request t)
      ≡ finish (suc sent) (fill + dominant) (set serials sent serial) (set addresses sent address) (respond request t).table (scan_from k Continue (respond request t).table)
  unfolding serials_heard addresses_heard fill_heard closing left_by
  finish_found dominant serial address e =
      let later = scan_from k Continue (respond request t).table in
      ap (finish sent fill serials addresses t) (scan_step k request t (Found dominant serial address) e)
      ∙ ap₂ (λ (n f : ℕ). finished (closing later n f) (sets (set serials sent serial) (suc sent) (serials_heard later))
      (sets (set addresses sent address) (suc sent) (addresses_heard later)) (left_by later (respond request t).table))
      (let n : ℕ = length later in
      let e : sent + suc n ≡ suc sent + n = omega arith in e)
      (sym (add_assoc fill dominant (fill_heard later)))

  pub finish_ended : (dominant : ℕ) → (respond request t).answer ≡ End dominant
      → finish sent fill serials addresses t (scan_from (suc k) request t) ≡ finished (Complete (sent + 1) (fill + dominant)) serials addresses (respond request t).table
  unfolding serials_heard addresses_heard fill_heard closing left_by
  finish_ended dominant e =
      ap (finish sent fill serials addresses t) (scan_step k request t (End dominant) e)
      ∙ ap (λ (f : ℕ). finished (Complete (sent + 1) (fill + f)) serials addresses (respond request t).table) (add-zero dominant)

  pub finish_silent : (respond request t).answer ≡ Silence
      → finish sent fill serials addresses t (scan_from (suc k) request t) ≡ finished (Nobody (sent + 1) fill) serials addresses (respond request t).table
  unfolding serials_heard addresses_heard fill_heard closing left_by
  finish_silent e =
      ap (finish sent fill serials addresses t) (scan_step k request t Silence e)
      ∙ ap (λ (f : ℕ). finished (Nobody (sent + 1) f) serials addresses (respond request t).table) (add-zero fill)

pub finish_none : (sent fill : ℕ) (serials addresses : List ℕ) (request : Request) (t : Table)
    → finish sent fill serials addresses t (scan_from 0 request t) ≡ finished (Unfinished sent fill) serials addresses t
unfolding scan_from serials_heard addresses_heard fill_heard closing left_by
finish_none sent fill serials addresses request t = ap₂ (λ (n f : ℕ). finished (Unfinished n f) serials addresses t) (add-zero sent) (add-zero fill)

-- ---- how many marks there are

-- a device found is one mark more, and there was one without
contend_more : (t : Table) → valid t ≡ true → (dominant serial address : ℕ) → contend t ≡ Found dominant serial address
    → (how_many is_marked (table_after (contend t) t).marks ≡ how_many is_marked t.marks + 1) × (how_many is_marked t.marks < devices t)
contend_more t v dominant serial address =
    by_contest (λ (a : Answer). a ≡ Found dominant serial address → (how_many is_marked (table_after a t).marks ≡ how_many is_marked t.marks + 1) × (how_many is_marked t.marks < devices t)) t
    (λ none e. let z : ◌≡◌ {A = ℕ} 0 1 = cc in absurd (let w : ⊥ = omega arith in w))
    (λ s unscanned e.
    let g = tested t v in
    let here : (contest t).place < length t.marks = omega (arith, g.marks_long, place_inside t v s) in
    let not_one : get_or t.marks (contest t).place 0 ≡ 1 → ⊥ = λ m. omega arith in (
      how_many_set t.marks (contest t).place here unscanned,
      omega (arith, g.marks_long, how_many_not_all is_marked t.marks (contest t).place here (ne_eqb (get_or t.marks (contest t).place 0) 1 not_one)),
    ))
    (λ s scanned e. let z : ◌≡◌ {A = ℕ} 0 1 = cc in absurd (let w : ⊥ = omega arith in w))

pub respond_more : (request : Request) (t : Table) → valid t ≡ true → (dominant serial address : ℕ) → (respond request t).answer ≡ Found dominant serial address
    → (how_many is_marked (respond request t).table.marks ≡ how_many is_marked (standing request t).marks + 1) × (how_many is_marked (standing request t).marks < devices t)
unfolding respond
respond_more request t v dominant serial address e =
    let more = contend_more (standing request t) (standing_valid request t v) dominant serial address e in
    (more.0, omega (arith, more.1, standing_devices request t))
