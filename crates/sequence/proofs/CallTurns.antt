-- The turns that calls make: every request of any list of calls is the one operation on the table that those before it left.
-- Assumes nothing.
use Rattle.std.specs.Prelude.{Result, Ok, Err}
use Rattle.refusal.specs.declared.Refusal.{Refusal}
use mathlib.Core.Path.{refl, sym, subst}
use mathlib.Core.List.{List, [], ◌∷◌, ◌++◌}
use Prim.Native.Nat.{ℕ, zero, suc, min}
use lib.ListN.{length}
use Rattle.requests.specs.declared.Request.{Request}
use Rattle.requests.specs.declared.Request.TheVariants.{Start, Continue}
use Rattle.table.specs.Table.{Table, devices, valid}
use Rattle.turns.specs.Request.{Turn, respond}
use Rattle.guard.specs.Guard.{guard}
use Rattle.devices.specs.Calls.{answer_room, answering, reading, behind, ask_call}
use Rattle.devices.specs.WholeScan.{onward, scan_from, left_by, scan_behind, scan_call}
use Rattle.turns.specs.declared.Answer.{Answer}
use Rattle.turns.specs.declared.Answer.TheVariants.{Silence, Found, End}
use Rattle.sequence.specs.Calls.{Call, ask, scan, step, table_of, turns_of, after, history, Linked}

-- no turn, and turns put together
none_made : (t : Table) → Linked t [] t
unfolding Linked
none_made t = refl

joined : (xs ys : List Turn) (first middle last : Table) → Linked first xs middle → Linked middle ys last → Linked first (xs ++ ys) last
unfolding Linked
joined [] ys first middle last h rest = subst (λ (t : Table). Linked t ys last) (sym h) rest
joined (x ∷ xs) ys first middle last h rest = (h.0, joined xs ys x.table middle last h.1 rest)

-- ---- a request as it was read

reading_made : (read : Result Request Refusal) (buffer : List ℕ) (t : Table) → Linked t (reading read buffer t).turns (reading read buffer t).table
unfolding Linked answering respond
reading_made (Ok request) buffer t = (refl, refl)
reading_made (Err why) buffer t = refl

behind_made : (g : Result (Unit {0}) Refusal) (read : Result Request Refusal) (buffer : List ℕ) (t : Table) → Linked t (behind g read buffer t).turns (behind g read buffer t).table
behind_made (Ok tt) read buffer t = reading_made read buffer t
behind_made (Err why) read buffer t = none_made t

-- ---- a whole scan

onward_made : (answer : Answer) (later : List Turn) (t : Table) → Linked t later (left_by later t) → Linked t (onward answer later) (left_by (onward answer later) t)
unfolding left_by
onward_made (Found d s a) later t h = h
onward_made (End d) later t h = none_made t
onward_made Silence later t h = none_made t

pub scan_made : (k : ℕ) (request : Request) (t : Table) → Linked t (scan_from k request t) (left_by (scan_from k request t) t)
unfolding scan_from left_by Linked respond
scan_made zero request t = refl
scan_made (suc k) request t =
    (refl, onward_made (respond request t).answer (scan_from k Continue (respond request t).table) (respond request t).table (scan_made k Continue (respond request t).table))

scan_behind_made : (g : Result (Unit {0}) Refusal) (cap : ℕ) (serials addresses : List ℕ) (t : Table)
    → Linked t (scan_behind g cap serials addresses t).turns (scan_behind g cap serials addresses t).table
scan_behind_made (Ok tt) cap serials addresses t = scan_made cap Start t
scan_behind_made (Err why) cap serials addresses t = none_made t

-- ---- any list of calls

step_made : (call : Call) (t : Table) → Linked t (turns_of (step call t)) (table_of (step call t))
unfolding ask_call scan_call
step_made (ask read buffer) t = behind_made (guard answer_room (length buffer) (valid t)) read buffer t
step_made (scan cap serials addresses) t = scan_behind_made (guard (devices t) (min (length serials) (length addresses)) (valid t)) cap serials addresses t

pub rules_hold : (calls : List Call) (t : Table) → Linked t (history calls t) (after calls t)
unfolding history after
rules_hold [] t = none_made t
rules_hold (call ∷ calls) t =
    joined (turns_of (step call t)) (history calls (table_of (step call t))) t (table_of (step call t)) (after calls (table_of (step call t)))
    (step_made call t) (rules_hold calls (table_of (step call t)))
