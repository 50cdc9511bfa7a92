-- What every turn keeps: the table stays valid, its serials and addresses stay, and the answer can be written.
-- Assumes nothing.
use mathlib.Core.Path.{◌≡◌, refl, ap, ◌∙◌, subst}
use mathlib.Core.Bool.{true}
use mathlib.Core.List.{List}
use Prim.Native.Nat.{ℕ, ◌<◌}
use native.Mathlib.Omega.{arith}
use lib.Dec.{eqb}
use lib.ListN.{length, get_or, set, replicate, length-set, length-replicate, get_or-replicate}
use lib.Seq.{get_or-set_same, get_or-set_other}
use borrow.Author.Tests.{eqb-true, eqb-false, lt-ltb}
use Rattle.lists.proofs.Cases.{by_test}
use Rattle.arbitration.proofs.Contenders.{decided_le}
use Rattle.requests.specs.declared.Request.{Request}
use Rattle.requests.specs.declared.Request.TheVariants.{Start, Continue}
use Rattle.table.specs.Table.{Table, devices, marked, valid, mark_right}
use Rattle.turns.specs.Request.{keys, windows, contest, contend, table_after, cleared, standing, respond}
use Rattle.turns.specs.Inner.{Writable}
use Rattle.turns.specs.declared.Answer.{Answer}
use Rattle.lists.proofs.All.{all_from}
use Rattle.table.proofs.Meaning.{tested, valid_from, mark_below, serial_below}
use Rattle.turns.proofs.TurnCases.{by_contest, place_inside}

-- other marks that are right leave the table valid
marked_valid : (t : Table) (marks : List ℕ) → valid t ≡ true → length marks ≡ devices t
    → ((i : ℕ) → i < devices t → get_or marks i 0 < 2) → valid (marked t marks) ≡ true
marked_valid t marks v long right =
    let g = tested t v in
    valid_from (marked t marks)
    (record {
      addresses_long = g.addresses_long;
      marks_long = long;
      few = g.few;
      serials_right = g.serials_right;
      differ = g.differ;
      marks_right = all_from mark_right marks (λ i h. lt-ltb (get_or marks i 0) 2 (right i (omega arith)));
    })

pub cleared_valid : (t : Table) → valid t ≡ true → valid (cleared t) ≡ true
cleared_valid t v =
    let g = tested t v in
    marked_valid t (replicate (length t.marks) 0) v (length-replicate {A = ℕ} (length t.marks) 0 ∙ g.marks_long)
    (λ i h. let inside : i < length t.marks = omega (arith, g.marks_long) in omega (arith, get_or-replicate {A = ℕ} (length t.marks) i 0 0 inside))

pub standing_valid : (request : Request) (t : Table) → valid t ≡ true → valid (standing request t) ≡ true
standing_valid Start t v = cleared_valid t v
standing_valid Continue t v = v

-- one mark set
set_valid : (t : Table) (place : ℕ) → valid t ≡ true → valid (marked t (set t.marks place 1)) ≡ true
set_valid t place v =
    let g = tested t v in
    marked_valid t (set t.marks place 1) v (length-set t.marks place 1 ∙ g.marks_long)
    (λ i h. by_test (eqb i place)
    (λ e. let here : i < length t.marks = omega (arith, g.marks_long) in
    subst (λ (p : ℕ). get_or (set t.marks p 1) i 0 < 2) (eqb-true i place e) (omega (arith, get_or-set_same t.marks i 1 0 here)))
    (λ e. omega (arith, get_or-set_other t.marks place i 1 0 (eqb-false i place e), mark_below t g i h)))

-- the devices stay as many
pub standing_devices : (request : Request) (t : Table) → devices (standing request t) ≡ devices t
standing_devices Start t = refl
standing_devices Continue t = refl

-- only the marks change
only_marks : (t : Table) → table_after (contend t) t ≡ marked t (table_after (contend t) t).marks
only_marks t = by_contest (λ (a : Answer). table_after a t ≡ marked t (table_after a t).marks) t (λ e. refl) (λ s e. refl) (λ s e. refl)

pub respond_columns : (request : Request) (t : Table) → (respond request t).table ≡ marked t (respond request t).table.marks
unfolding respond
respond_columns Start t = only_marks (cleared t)
respond_columns Continue t = only_marks t

pub respond_devices : (request : Request) (t : Table) → devices (respond request t).table ≡ devices t
respond_devices request t = ap devices (respond_columns request t)

contend_valid : (t : Table) → valid t ≡ true → valid (table_after (contend t) t) ≡ true
contend_valid t v = by_contest (λ (a : Answer). valid (table_after a t) ≡ true) t (λ e. v) (λ s e. set_valid t (contest t).place v) (λ s e. v)

pub respond_valid : (request : Request) (t : Table) → valid t ≡ true → valid (respond request t).table ≡ true
unfolding respond
respond_valid request t v = contend_valid (standing request t) (standing_valid request t v)

contend_writable : (t : Table) → valid t ≡ true → Writable (contend t)
contend_writable t v =
    by_contest Writable t (λ e. tt)
    (λ s e. (decided_le windows (keys t), serial_below t (tested t v) (contest t).place (place_inside t v s)))
    (λ s e. decided_le windows (keys t))

pub respond_writable : (request : Request) (t : Table) → valid t ≡ true → Writable (respond request t).answer
unfolding respond
respond_writable request t v = contend_writable (standing request t) (standing_valid request t v)
