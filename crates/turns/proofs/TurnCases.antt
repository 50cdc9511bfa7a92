-- The three ways a contest comes out, and the turn that each makes.
-- Assumes nothing.
use mathlib.Core.Path.{◌≡◌, refl, sym, ap, ◌∙◌, subst}
use mathlib.Core.Bool.{Bool, true}
use mathlib.Core.List.{List}
use Prim.Native.Nat.{ℕ, ◌<◌}
use native.Mathlib.Omega.{arith}
use lib.Dec.{eqb}
use lib.ListN.{length, get_or, set, replicate}
use borrow.Author.Tests.{eq-eqb, ne_eqb, eqb-true, eqb-false}
use Rattle.lists.specs.Choice.{pick}
use Rattle.lists.proofs.Cases.{by_test}
use Rattle.arbitration.specs.declared.Decided.{Decided}
use Rattle.requests.specs.declared.Request.{Request}
use Rattle.requests.specs.declared.Request.TheVariants.{Start, Continue}
use Rattle.table.specs.Table.{Table, devices, marked, valid}
use Rattle.turns.specs.Request.{contest, found_answer, end_answer, contend, table_after, respond}
use Rattle.turns.specs.Inner.{GivesTurn}
use Rattle.turns.specs.declared.Answer.{Answer}
use Rattle.turns.specs.declared.Answer.TheVariants.{Silence, Found, End}
use Rattle.table.proofs.Meaning.{tested}
use Rattle.turns.proofs.Winner.{winner_wins}

contend_silent : (t : Table) → devices t ≡ 0 → contend t ≡ Silence
unfolding contend
contend_silent t e = ap (λ (b : Bool). pick b Silence (pick (eqb (get_or t.marks (contest t).place 0) 0) (found_answer t) (end_answer t))) (eq-eqb (devices t) 0 e)

module _ (t : Table) (somebody : devices t ≡ 0 → ⊥) where
  pub not_silent : contend t ≡ pick (eqb (get_or t.marks (contest t).place 0) 0) (found_answer t) (end_answer t)
  unfolding contend
  not_silent = ap (λ (b : Bool). pick b Silence (pick (eqb (get_or t.marks (contest t).place 0) 0) (found_answer t) (end_answer t))) (ne_eqb (devices t) 0 somebody)

  contend_found : get_or t.marks (contest t).place 0 ≡ 0 → contend t ≡ found_answer t
  contend_found e = not_silent ∙ ap (λ (b : Bool). pick b (found_answer t) (end_answer t)) (eq-eqb (get_or t.marks (contest t).place 0) 0 e)

  contend_end : (get_or t.marks (contest t).place 0 ≡ 0 → ⊥) → contend t ≡ end_answer t
  contend_end e = not_silent ∙ ap (λ (b : Bool). pick b (found_answer t) (end_answer t)) (ne_eqb (get_or t.marks (contest t).place 0) 0 e)

-- what holds of the three answers holds of the one given
pub by_contest : (P : Answer → Type 0) (t : Table) → (devices t ≡ 0 → P Silence)
    → ((devices t ≡ 0 → ⊥) → get_or t.marks (contest t).place 0 ≡ 0 → P (found_answer t))
    → ((devices t ≡ 0 → ⊥) → (get_or t.marks (contest t).place 0 ≡ 0 → ⊥) → P (end_answer t)) → P (contend t)
by_contest P t silent found ended =
    by_test (eqb (devices t) 0)
    (λ e. let none = eqb-true (devices t) 0 e in subst P (sym (contend_silent t none)) (silent none))
    (λ e. let somebody = eqb-false (devices t) 0 e in
    by_test (eqb (get_or t.marks (contest t).place 0) 0)
    (λ m. let unscanned = eqb-true (get_or t.marks (contest t).place 0) 0 m in subst P (sym (contend_found t somebody unscanned)) (found somebody unscanned))
    (λ m. let scanned = eqb-false (get_or t.marks (contest t).place 0) 0 m in subst P (sym (contend_end t somebody scanned)) (ended somebody scanned)))

-- an answer is one of the three
pub by_answer : (P : Answer → Type 0) (a : Answer) → (a ≡ Silence → P Silence) → ((d s x : ℕ) → a ≡ Found d s x → P (Found d s x)) → ((d : ℕ) → a ≡ End d → P (End d)) → P a
by_answer P Silence silent found ended = silent refl
by_answer P (Found d s x) silent found ended = found d s x refl
by_answer P (End d) silent found ended = ended d refl

-- the winner is one of the devices
pub place_inside : (t : Table) → valid t ≡ true → (devices t ≡ 0 → ⊥) → (contest t).place < devices t
place_inside t v somebody = (winner_wins t (tested t v) (omega arith)).inside

-- ---- the turn that each makes: a continue contends with the marks as they stand

contest_is : (t : Table) (answer : Answer) → contend t ≡ answer → GivesTurn (respond Continue t) answer (table_after answer t)
unfolding respond
contest_is t answer e = record { answer_is = sym e; table_is = ap (λ (a : Answer). table_after a t) (sym e) }

pub silent_is : (t : Table) → devices t ≡ 0 → GivesTurn (respond Continue t) Silence t
silent_is t e = contest_is t Silence (contend_silent t e)

-- of what the code's contest decided
module _ (t : Table) (somebody : devices t ≡ 0 → ⊥) (won : Decided) (is : won ≡ contest t) where
  pub found_is : get_or t.marks won.place 0 ≡ 0
      → GivesTurn (respond Continue t) (Found won.dominant (get_or t.serials won.place 0) (get_or t.addresses won.place 0)) (marked t (set t.marks won.place 1))
  found_is =
      subst (λ (d : Decided). get_or t.marks d.place 0 ≡ 0
      → GivesTurn (respond Continue t) (Found d.dominant (get_or t.serials d.place 0) (get_or t.addresses d.place 0)) (marked t (set t.marks d.place 1))) (sym is)
      (λ unscanned. contest_is t (found_answer t) (contend_found t somebody unscanned))

  pub end_is : (get_or t.marks won.place 0 ≡ 0 → ⊥) → GivesTurn (respond Continue t) (End won.dominant) t
  end_is =
      subst (λ (d : Decided). (get_or t.marks d.place 0 ≡ 0 → ⊥) → GivesTurn (respond Continue t) (End d.dominant) t) (sym is)
      (λ scanned. contest_is t (end_answer t) (contend_end t somebody scanned))

-- a request is a contest of the marks that it lets stand
pub start_is : (request : Request) (t : Table) (marks : List ℕ) (answer : Answer) (after : Table) → request ≡ Start → marks ≡ replicate (length t.marks) 0
    → GivesTurn (respond Continue (marked t marks)) answer after → GivesTurn (respond request t) answer after
unfolding respond
start_is request t marks answer after e m turn =
    let cleared_turn = subst (λ (l : List ℕ). GivesTurn (respond Continue (marked t l)) answer after) m turn in
    subst (λ (r : Request). GivesTurn (respond r t) answer after) (sym e) (record { answer_is = cleared_turn.answer_is; table_is = cleared_turn.table_is })

pub continue_is : (request : Request) (t : Table) (answer : Answer) (after : Table) → request ≡ Continue
    → GivesTurn (respond Continue t) answer after → GivesTurn (respond request t) answer after
continue_is request t answer after e turn = subst (λ (r : Request). GivesTurn (respond r t) answer after) (sym e) turn
