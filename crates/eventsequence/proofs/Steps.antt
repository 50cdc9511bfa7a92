-- One call of any kind, and any list of them: table and queues stay valid, the devices stay the same, and every device's ledger
-- follows its queue.
-- Assumes nothing.
use mathlib.Core.Path.{◌≡◌, refl, sym, ap, ◌∙◌, subst}
use mathlib.Core.Bool.{true}
use mathlib.Core.List.{List, [], ◌∷◌}
use Prim.Native.Nat.{ℕ, ◌<◌}
use lib.ListN.{get_or}
use Rattle.table.specs.Table.{Table, devices}
use Rattle.queues.specs.Queues.{Queues, Queued, valid_queues}
use Rattle.queues.proofs.Meaning.{tested}
use Rattle.newevents.specs.Event.{Adding, add_call}
use Rattle.polls.specs.Calls.{Polling, poll_call}
use Rattle.sequence.specs.Calls.{step, table_of, after}
use Rattle.eventsequence.specs.Calls.{AnyCall, add, poll, scan, State, stepped, after_all, scans_of, events_of, Ledger, enter, ledger}
use Rattle.eventsequence.proofs.ScansKeep.{SameDevices, same_at_first, after_scan}
use Rattle.eventsequence.proofs.MarksUnseen.{valid_same, add_same, poll_same}
use Rattle.eventsequence.proofs.Follows.{FollowsIn}
use Rattle.eventsequence.proofs.NewEvents.{adding_valid, adding_follows}
use Rattle.eventsequence.proofs.Polls.{polling_valid, polling_follows}

-- ---- one call

step_valid : (call : AnyCall) (s : State) → valid_queues s.table s.queues ≡ true → valid_queues (stepped call s).table (stepped call s).queues ≡ true
step_valid (add to e) s v = adding_valid s v to e
step_valid (poll read buffer) s v = polling_valid s.table s.queues v buffer read
step_valid (scan call) s v =
    let right = (tested s.table s.queues v).table_valid in
    valid_same s.table (table_of (step call s.table)) right (after_scan s.table call s.table (same_at_first s.table right)) s.queues ∙ v

step_same : (t : Table) (call : AnyCall) (s : State) → SameDevices t s.table → SameDevices t (stepped call s).table
step_same t (add to e) s same = same
step_same t (poll read buffer) s same = same
step_same t (scan call) s same = after_scan t call s.table same

step_follows : (call : AnyCall) (s : State) → valid_queues s.table s.queues ≡ true → (device : ℕ) → device < devices s.table → {old : List Queued} {l : Ledger}
    → FollowsIn old device s.queues l → FollowsIn old device (stepped call s).queues (enter (get_or s.table.addresses device 0) call s l)
step_follows (add to e) s v device there f = adding_follows s v to e device there f
step_follows (poll read buffer) s v device there f = polling_follows s.table s.queues v buffer device there f read
step_follows (scan call) s v device there f = f

-- ---- any list of them

pub all_valid : (calls : List AnyCall) (s : State) → valid_queues s.table s.queues ≡ true → valid_queues (after_all calls s).table (after_all calls s).queues ≡ true
unfolding after_all
all_valid [] s v = v
all_valid (call ∷ calls) s v = all_valid calls (stepped call s) (step_valid call s v)

-- the table is that of the scans alone
pub table_alone : (calls : List AnyCall) (s : State) → (after_all calls s).table ≡ after (scans_of calls) s.table
unfolding after_all scans_of after
table_alone [] s = refl
table_alone (add to e ∷ calls) s = table_alone calls (stepped (add to e) s)
table_alone (poll read buffer ∷ calls) s = table_alone calls (stepped (poll read buffer) s)
table_alone (scan call ∷ calls) s = table_alone calls (stepped (scan call) s)

-- a table with its queues
abbrev at : Table → Queues → State
at t q = record { table = t; queues = q }

-- the queues are those of the events alone
pub queues_alone : (t : Table) (calls : List AnyCall) (now : Table) (q : Queues) → SameDevices t now → valid_queues t q ≡ true
    → (after_all calls (at now q)).queues ≡ (after_all (events_of calls) (at t q)).queues
unfolding after_all events_of
queues_alone t [] now q same v = refl
queues_alone t (add to e ∷ calls) now q same v =
    ap (λ (a : Adding). (after_all calls (at now a.queues)).queues) (add_same t now (tested t q v).table_valid same q to e)
    ∙ queues_alone t calls now (add_call t q to e).queues same (adding_valid (at t q) v to e)
queues_alone t (poll read buffer ∷ calls) now q same v =
    ap (λ (p : Polling). (after_all calls (at now p.queues)).queues) (poll_same t now (tested t q v).table_valid same q read buffer)
    ∙ queues_alone t calls now (poll_call read buffer t q).queues same (polling_valid t q v buffer read)
queues_alone t (scan call ∷ calls) now q same v = queues_alone t calls (table_of (step call now)) q (after_scan t call now same) v

-- each device's ledger follows
module _ (t : Table) (device : ℕ) (there : device < devices t) where
  abbrev id : ℕ
  id = get_or t.addresses device 0

  one_follows : (call : AnyCall) (s : State) {old : List Queued} {l : Ledger} → SameDevices t s.table → valid_queues s.table s.queues ≡ true
      → FollowsIn old device s.queues l → FollowsIn old device (stepped call s).queues (enter id call s l)
  one_follows call s {old} {l} same v f =
      subst (λ (i : ℕ). FollowsIn old device (stepped call s).queues (enter i call s l)) (ap (λ (x : Table). get_or x.addresses device 0) same.columns_stay)
      (step_follows call s v device (subst (λ (x : Table). device < devices x) (sym same.columns_stay) there) f)

  pub all_follow : (calls : List AnyCall) (s : State) {old : List Queued} {l : Ledger} → SameDevices t s.table → valid_queues s.table s.queues ≡ true
      → FollowsIn old device s.queues l → FollowsIn old device (after_all calls s).queues (ledger id calls s l)
  unfolding after_all ledger
  all_follow [] s same v f = f
  all_follow (call ∷ calls) s same v f = all_follow calls (stepped call s) (step_same t call s same) (step_valid call s v) (one_follows call s same v f)
