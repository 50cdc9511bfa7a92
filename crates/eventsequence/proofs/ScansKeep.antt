-- What the calls of a scan keep, for any number of devices: serials and addresses stay, and the table stays valid.
-- Assumes nothing.
use mathlib.Core.Path.{◌≡◌, refl, sym, ap, ◌∙◌, subst}
use mathlib.Core.Bool.{true}
use mathlib.Core.List.{List, [], ◌∷◌}
use Rattle.requests.specs.declared.Request.{Request}
use Rattle.table.specs.Table.{Table, marked, valid}
use Rattle.turns.specs.Request.{Turn, respond}
use Rattle.turns.proofs.TurnKeeps.{respond_columns, respond_valid}
use Rattle.sequence.specs.Calls.{Call, step, table_of, after, history, Linked}
use Rattle.sequence.proofs.CallTurns.{rules_hold}

-- the same devices, with any marks that are right
pub record SameDevices (t now : Table) : Type 0 where
  pub columns_stay : now ≡ marked t now.marks
  pub right : valid now ≡ true

pub same_at_first : (t : Table) → valid t ≡ true → SameDevices t t
same_at_first t v = record { columns_stay = refl; right = v }

module _ (t : Table) where
  after_turn : (request : Request) (met : Table) → SameDevices t met → SameDevices t (respond request met).table
  after_turn request met same =
      record {
        columns_stay = respond_columns request met ∙ ap (λ (x : Table). marked x (respond request met).table.marks) same.columns_stay;
        right = respond_valid request met same.right;
      }

  after_turns : (turns : List Turn) (first last : Table) → SameDevices t first → Linked first turns last → SameDevices t last
  unfolding Linked
  after_turns [] first last same linked = subst (SameDevices t) linked same
  after_turns (turn ∷ turns) first last same linked =
      after_turns turns turn.table last (subst (λ (x : Turn). SameDevices t x.table) (sym linked.0) (after_turn turn.request first same)) linked.1

  pub after_scans : (calls : List Call) (now : Table) → SameDevices t now → SameDevices t (after calls now)
  after_scans calls now same = after_turns (history calls now) now (after calls now) same (rules_hold calls now)

  pub after_scan : (call : Call) (now : Table) → SameDevices t now → SameDevices t (table_of (step call now))
  unfolding after
  after_scan call now same = after_scans (call ∷ []) now same
