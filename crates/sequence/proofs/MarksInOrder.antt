-- What holds between requests: a marked device has only marked devices below it, and so many are marked. The winner of the
-- next contest is then the unmarked device of that rank, or, with all marked, the smallest.
-- Assumes nothing.
use mathlib.Core.Path.{◌≡◌, refl, sym, ap, ◌∙◌, subst}
use mathlib.Core.Logic.{◌⊎◌, inl, inr}
use mathlib.Core.Bool.{Bool, true}
use mathlib.Core.List.{List}
use Prim.Native.Nat.{ℕ, suc, ◌≤◌, ◌<◌, min}
use native.Mathlib.Omega.{arith}
use lib.Dec.{ltb, eqb}
use lib.ListN.{length, get_or, set, replicate, get_or-replicate}
use lib.Seq.{get_or-set_same, get_or-set_other}
use borrow.Author.Tests.{ltb-true, ltb-false, lt-ltb, le-ltb, eqb-true, eqb-false, eq-eqb, ne_eqb}
use Rattle.lists.specs.Choice.{pick}
use Rattle.lists.proofs.Cases.{by_test}
use Rattle.arbitration.specs.Smallest.{zero_bits}
use Rattle.table.specs.Table.{Table, devices, marked, valid}
use Rattle.turns.specs.Request.{key, windows, contest, found_answer, end_answer, contend, table_after}
use Rattle.lists.specs.Tests.{how_many}
use Rattle.turns.specs.Rank.{rank}
use Rattle.turns.specs.declared.Answer.{Answer}
use Rattle.turns.specs.declared.Answer.TheVariants.{Found, End}
use Rattle.lists.proofs.Counting.{is_marked, how_many_le, how_many_lt, how_many_all, how_many_not_all, how_many_set, how_many_cleared}
use Rattle.turns.proofs.Keys.{key_unscanned, key_scanned}
use Rattle.table.proofs.Meaning.{Tested, tested, serial_below, mark_below, same_device}
use Rattle.turns.proofs.Winner.{Wins, winner_wins}
use Rattle.turns.proofs.TurnCases.{by_contest}
use Rattle.sequence.specs.Sequence.{serial_at, address_at}
use Rattle.sequence.proofs.Ranks.{count_none, rank_below}

pub record Ordered (t : Table) (m : ℕ) (marks : List ℕ) : Type 0 where
  pub so_many : how_many is_marked marks ≡ min m (devices t)
  pub below : (i j : ℕ) → i < devices t → j < devices t → get_or marks j 0 ≡ 1 → serial_at t i < serial_at t j → get_or marks i 0 ≡ 1

-- no mark at all
pub ordered_cleared : (t : Table) (n : ℕ) → n ≡ devices t → Ordered t 0 (replicate n 0)
ordered_cleared t n e =
    record {
      so_many = omega (arith, how_many_cleared n);
      below = λ i j hi hj one less.
          let z : ⊥ = (let inside : j < n = omega arith in omega (arith, one, get_or-replicate {A = ℕ} n j 0 0 inside)) in absurd z;
    }

-- what the next contest is, with k marked
pub record FoundAs (t : Table) (k : ℕ) (marks : List ℕ) (answer : Answer) : Type 0 where
  pub left : k < devices t
  pub place : ℕ
  pub inside : place < devices t
  pub ranked : rank t place ≡ k
  pub answer_is : answer ≡ Found (zero_bits windows (key 0 (serial_at t place))) (serial_at t place) (address_at t place)
  pub table_is : table_after answer (marked t marks) ≡ marked t (set marks place 1)
  pub next : Ordered t (suc k) (set marks place 1)

pub record EndAs (t : Table) (k : ℕ) (marks : List ℕ) (answer : Answer) : Type 0 where
  pub all : devices t ≤ k
  pub place : ℕ
  pub inside : place < devices t
  pub ranked : rank t place ≡ 0
  pub answer_is : answer ≡ End (zero_bits windows (key 1 (serial_at t place)))
  pub table_is : table_after answer (marked t marks) ≡ marked t marks
  pub next : Ordered t (suc k) marks

module _ (t : Table) (k : ℕ) (marks : List ℕ) (v : valid (marked t marks) ≡ true) (somebody : 0 < devices t) (o : Ordered t k marks) where
  facts : Tested (marked t marks)
  facts = tested (marked t marks) v

  won : Wins (marked t marks) (contest (marked t marks)).place
  won = winner_wins (marked t marks) facts somebody

  long : length marks ≡ devices t
  long = facts.marks_long

  -- a mark is 0 or 1
  one_of : (i : ℕ) → i < devices t → (get_or marks i 0 ≡ 0 → ⊥) → get_or marks i 0 ≡ 1
  one_of i h e = omega (arith, mark_below (marked t marks) facts i h)

  -- a marked device is below an unmarked one
  marked_below : (p j : ℕ) → p < devices t → j < devices t → get_or marks p 0 ≡ 0 → get_or marks j 0 ≡ 1 → serial_at t j < serial_at t p
  marked_below p j hp hj unmarked one =
      by_test (ltb (serial_at t j) (serial_at t p)) (λ e. ltb-true (serial_at t j) (serial_at t p) e)
      (λ e. let le : serial_at t p ≤ serial_at t j = ltb-false (serial_at t j) (serial_at t p) e in
      by_test (eqb (serial_at t p) (serial_at t j))
      (λ same. let z : ⊥ = (let q : get_or marks p 0 ≡ get_or marks j 0 = ap (λ (x : ℕ). get_or marks x 0) (same_device (marked t marks) facts p j hp hj (eqb-true (serial_at t p) (serial_at t j) same)) in omega arith) in absurd z)
      (λ other. let z : ⊥ = (let d = eqb-false (serial_at t p) (serial_at t j) other in let less : serial_at t p < serial_at t j = omega arith in omega (arith, o.below p j hp hj one less)) in absurd z))

  module _ (unmarked : get_or marks (contest (marked t marks)).place 0 ≡ 0) where
    -- a smaller serial is marked
    smaller_marked : (i : ℕ) → i < devices t → serial_at t i < serial_at t (contest (marked t marks)).place → get_or marks i 0 ≡ 1
    smaller_marked i h less =
        one_of i h (λ zero_mark.
        let low = won.least i h in
        omega (
          arith,
          low,
          less,
          key_unscanned (get_or marks i 0) (serial_at t i) zero_mark,
          key_unscanned (get_or marks (contest (marked t marks)).place 0) (serial_at t (contest (marked t marks)).place) unmarked,
        ))

    rank_is : rank t (contest (marked t marks)).place ≡ how_many is_marked marks
    unfolding rank
    rank_is =
        let p = (contest (marked t marks)).place in
        let up = how_many_le (λ s. ltb s (serial_at t p)) is_marked t.serials marks (sym long)
        (λ i h e. eq-eqb (get_or marks i 0) 1 (smaller_marked i h (ltb-true (serial_at t i) (serial_at t p) e))) in
        let down = how_many_le is_marked (λ s. ltb s (serial_at t p)) marks t.serials long
        (λ i h e. lt-ltb (serial_at t i) (serial_at t p) (marked_below p i won.inside (omega (arith, long)) unmarked (eqb-true (get_or marks i 0) 1 e))) in
        omega (arith, up, down)

    not_all : how_many is_marked marks < devices t
    not_all =
        let p = (contest (marked t marks)).place in
        let here : p < length marks = omega (arith, long, won.inside) in
        omega (arith, long, how_many_not_all is_marked marks p here (ne_eqb (get_or marks p 0) 1 (λ e. omega arith)))

    -- the marks with the winner's
    after_below : (i j : ℕ) → i < devices t → j < devices t → get_or (set marks (contest (marked t marks)).place 1) j 0 ≡ 1
        → serial_at t i < serial_at t j → get_or (set marks (contest (marked t marks)).place 1) i 0 ≡ 1
    after_below i j hi hj one less =
        let p = (contest (marked t marks)).place in
        by_test (eqb i p)
        (λ e. let here : i < length marks = omega (arith, long) in
        subst (λ (x : ℕ). get_or (set marks x 1) i 0 ≡ 1) (eqb-true i p e) (get_or-set_same marks i 1 0 here))
        (λ e. get_or-set_other marks p i 1 0 (eqb-false i p e)
        ∙ by_test (eqb j p)
        (λ same. smaller_marked i hi (subst (λ (x : ℕ). serial_at t i < serial_at t x) (eqb-true j p same) less))
        (λ other. o.below i j hi hj (sym (get_or-set_other marks p j 1 0 (eqb-false j p other)) ∙ one) less))

    found_as : FoundAs t k marks (found_answer (marked t marks))
    found_as =
        let p = (contest (marked t marks)).place in
        let here : p < length marks = omega (arith, long, won.inside) in
        record {
          left = omega (arith, o.so_many, not_all);
          place = p;
          inside = won.inside;
          ranked = omega (arith, rank_is, o.so_many, not_all);
          answer_is = ap (λ (f : ℕ). Found f (serial_at t p) (address_at t p)) (won.zeros ∙ ap (λ (m : ℕ). zero_bits windows (key m (serial_at t p))) unmarked);
          table_is = refl;
          next = record {
            so_many = how_many_set marks p here unmarked ∙ omega (arith, o.so_many, not_all);
            below = after_below;
          };
        }

  module _ (scanned : get_or marks (contest (marked t marks)).place 0 ≡ 0 → ⊥) where
    all_marked : (i : ℕ) → i < devices t → get_or marks i 0 ≡ 1
    all_marked i h =
        let p = (contest (marked t marks)).place in
        one_of i h (λ zero_mark.
        omega (
          arith,
          won.least i h,
          key_unscanned (get_or marks i 0) (serial_at t i) zero_mark,
          key_scanned (get_or marks p 0) (serial_at t p) scanned,
          serial_below (marked t marks) facts i h,
        ))

    end_as : EndAs t k marks (end_answer (marked t marks))
    unfolding rank
    end_as =
        let p = (contest (marked t marks)).place in
        let whole = how_many_all is_marked marks (λ i h. eq-eqb (get_or marks i 0) 1 (all_marked i (omega (arith, long)))) in
        record {
          all = omega (arith, whole, long, o.so_many);
          place = p;
          inside = won.inside;
          ranked = count_none (λ s. ltb s (serial_at t p)) t.serials
              (λ i h. le-ltb (serial_at t i) (serial_at t p)
              (omega (
                arith,
                won.least i h,
                key_scanned (get_or marks p 0) (serial_at t p) scanned,
                key_scanned (get_or marks i 0) (serial_at t i) (λ e. omega (arith, all_marked i h)),
              )));
          answer_is = ap End (won.zeros ∙ ap (λ (m : ℕ). zero_bits windows (key m (serial_at t p))) (all_marked p won.inside));
          table_is = refl;
          next = record { so_many = omega (arith, whole, long, o.so_many); below = o.below };
        }

  pub turn_of : FoundAs t k marks (contend (marked t marks)) ⊎ EndAs t k marks (contend (marked t marks))
  turn_of =
      by_contest (λ (a : Answer). FoundAs t k marks a ⊎ EndAs t k marks a) (marked t marks)
      (λ none. let z : ⊥ = omega arith in absurd z) (λ s unmarked. inl (found_as unmarked)) (λ s scanned. inr (end_as scanned))

  -- the marks after m requests: exactly the m smallest
  pub marks_are : 0 < k → (i : ℕ) → i < devices t → get_or marks i 0 ≡ pick (ltb (rank t i) k) 1 0
  unfolding rank
  marks_are counting i h =
      let more = rank_below t i h in
      by_test (eqb (get_or marks i 0) 1)
      (λ e. let one = eqb-true (get_or marks i 0) 1 e in
      let lower = how_many_lt (λ s. ltb s (serial_at t i)) is_marked t.serials marks (sym long)
      (λ j hj less. eq-eqb (get_or marks j 0) 1 (o.below j i hj h one (ltb-true (serial_at t j) (serial_at t i) less))) i h
      (le-ltb (serial_at t i) (serial_at t i) (omega arith)) e in
      one ∙ ap (λ (b : Bool). pick b 1 0) (sym (lt-ltb (rank t i) k (omega (arith, lower, o.so_many)))))
      (λ e. let zero_mark : get_or marks i 0 ≡ 0 = (let n = eqb-false (get_or marks i 0) 1 e in omega (arith, mark_below (marked t marks) facts i h)) in
      let upper = how_many_le is_marked (λ s. ltb s (serial_at t i)) marks t.serials long
      (λ j hj one. lt-ltb (serial_at t j) (serial_at t i) (marked_below i j h (omega (arith, long)) zero_mark (eqb-true (get_or marks j 0) 1 one))) in
      zero_mark ∙ ap (λ (b : Bool). pick b 1 0) (sym (le-ltb (rank t i) k (omega (arith, upper, o.so_many, more)))))
