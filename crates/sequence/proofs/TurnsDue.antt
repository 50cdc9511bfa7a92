-- Turns one after the other: each is answered as is due to its number, whoever makes the request.
-- Assumes nothing.
use Rattle.std.specs.Prelude.{Ok}
use mathlib.Core.Path.{◌≡◌, refl, sym, ap, ◌∙◌, subst}
use mathlib.Core.Logic.{⊎_elim}
use mathlib.Core.Bool.{true}
use mathlib.Core.List.{List, [], ◌∷◌, ◌++◌, append-nil}
use Prim.Native.Nat.{ℕ, zero, suc, ◌+◌, ◌<◌, min}
use native.Mathlib.Omega.{arith}
use lib.Dec.{ltb}
use lib.ListN.{length, get_or, replicate, length-append, get_or-append}
use lib.Seq.{get_or-append_seam}
use borrow.Author.Tests.{ltb-true, ltb-false}
use Rattle.lists.proofs.Cases.{by_test}
use Rattle.arbitration.specs.Smallest.{zero_bits}
use Rattle.arbitration.proofs.Contenders.{zeros_le}
use Rattle.answers.specs.Layout.{found_frame, end_frame}
use Rattle.answers.specs.Reading.{fill, read_answer}
use Rattle.requests.specs.declared.Request.{Request}
use Rattle.requests.specs.declared.Request.TheVariants.{Start, Continue}
use Rattle.answers.specs.declared.AnswerRead.TheVariants.{Found as FoundRead, End as EndRead}
use Rattle.answers.proofs.RoundTrip.{found_read_back, end_read_back}
use Rattle.table.specs.Table.{Table, devices, marked, valid}
use Rattle.turns.specs.Request.{Turn, key, windows, contend, table_after, respond}
use Rattle.devices.specs.Calls.{answer_bytes}
use Rattle.devices.specs.WholeScan.{serial_in}
use Rattle.turns.specs.Rank.{rank}
use Rattle.turns.specs.declared.Answer.{Answer}
use Rattle.turns.specs.declared.Answer.TheVariants.{Found, End}
use Rattle.table.proofs.Meaning.{tested, serial_below}
use Rattle.turns.proofs.TurnKeeps.{respond_columns, respond_valid, cleared_valid}
use Rattle.sequence.specs.Calls.{Linked, counted, since_start, kept, named}
use Rattle.sequence.specs.Sequence.{serial_at, address_at, FoundDue, EndDue, Due}
use Rattle.sequence.proofs.MarksInOrder.{Ordered, ordered_cleared, FoundAs, EndAs, turn_of}

-- a list with one more at its end
snoc_long : (l : List ℕ) (a : ℕ) → length (l ++ a ∷ []) ≡ length l + 1
snoc_long l a = length-append l (a ∷ [])

snoc_last : (l : List ℕ) (a k : ℕ) → k ≡ length l → get_or (l ++ a ∷ []) k 0 ≡ a
snoc_last l a k e = ap (λ (n : ℕ). get_or (l ++ a ∷ []) n 0) e ∙ get_or-append_seam l a [] 0

-- ---- the two answers, written and read

module _ (t : Table) (answer : Answer) (place : ℕ) (inside : place < devices t) where
  pub found_read : valid t ≡ true → answer ≡ Found (zero_bits windows (key 0 (serial_at t place))) (serial_at t place) (address_at t place)
      → read_answer (answer_bytes answer) ≡ Ok (FoundRead (zero_bits windows (key 0 (serial_at t place))) (serial_at t place) (address_at t place))
  unfolding answer_bytes
  found_read v e =
      ap (λ (a : Answer). read_answer (answer_bytes a)) e
      ∙ found_read_back (zero_bits windows (key 0 (serial_at t place))) (serial_at t place) (address_at t place) (zeros_le windows (key 0 (serial_at t place))) (serial_below t (tested t v) place inside)

  found_due : (k : ℕ) → valid t ≡ true → rank t place ≡ k
      → answer ≡ Found (zero_bits windows (key 0 (serial_at t place))) (serial_at t place) (address_at t place) → FoundDue t (suc k) answer
  unfolding answer_bytes
  found_due k v r e =
      let dominant = zero_bits windows (key 0 (serial_at t place)) in
      let bytes : answer_bytes answer ≡ replicate dominant fill ++ found_frame (serial_at t place) (address_at t place) = ap answer_bytes e in
      record {
        place = place;
        inside = inside;
        kth = omega (arith, r);
        written = bytes;
        read = found_read v e;
      }

  pub end_read : answer ≡ End (zero_bits windows (key 1 (serial_at t place))) → read_answer (answer_bytes answer) ≡ Ok (EndRead (zero_bits windows (key 1 (serial_at t place))))
  unfolding answer_bytes
  end_read e =
      ap (λ (a : Answer). read_answer (answer_bytes a)) e
      ∙ end_read_back (zero_bits windows (key 1 (serial_at t place))) (zeros_le windows (key 1 (serial_at t place)))

  end_due : rank t place ≡ 0 → answer ≡ End (zero_bits windows (key 1 (serial_at t place))) → EndDue t answer
  unfolding answer_bytes
  end_due r e =
      let dominant = zero_bits windows (key 1 (serial_at t place)) in
      let bytes : answer_bytes answer ≡ replicate dominant fill ++ end_frame = ap answer_bytes e in
      record { place = place; inside = inside; smallest = r; written = bytes; read = end_read e }

-- ---- what holds between requests

-- the serials named so far, each in the place of its rank
pub record Names (t : Table) (m : ℕ) (l : List ℕ) : Type 0 where
  pub many : length l ≡ min m (devices t)
  pub each : (k : ℕ) → k < length l → (place : ℕ) × (place < devices t) × (rank t place ≡ k) × (get_or l k 0 ≡ serial_at t place)

pub record Goes (t : Table) (m : ℕ) (now : Table) (l : List ℕ) : Type 0 where
  pub columns_stay : now ≡ marked t now.marks
  pub right : valid now ≡ true
  pub ordered : 0 < m → Ordered t m now.marks
  pub names : 0 < m → Names t m l

-- one answer from a table with k marked, and the table after it
pub record Turned (t : Table) (k : ℕ) (l : List ℕ) (answer : Answer) (after : Table) : Type 0 where
  pub due : Due t (suc k) answer
  pub ordered : Ordered t (suc k) after.marks
  pub names : Names t (suc k) (l ++ serial_in answer [])

module _ (t : Table) (somebody : 0 < devices t) (k : ℕ) (l : List ℕ) (n : Names t k l) where
  -- one name more
  named_more : (place : ℕ) → place < devices t → rank t place ≡ k → k < devices t → Names t (suc k) (l ++ serial_at t place ∷ [])
  named_more place inside r left =
      record {
        many = omega (arith, snoc_long l (serial_at t place), n.many);
        each = λ j h. by_test (ltb j (length l))
            (λ e. let before = n.each j (ltb-true j (length l) e) in
            (before.0, before.1, before.2, get_or-append l (serial_at t place ∷ []) 0 j (ltb-true j (length l) e) ∙ before.3))
            (λ e. let last : j ≡ length l = (let le = ltb-false j (length l) e in omega (arith, snoc_long l (serial_at t place))) in
            (place, inside, omega (arith, r, n.many), snoc_last l (serial_at t place) j last));
      }

  module _ (marks : List ℕ) (v : valid (marked t marks) ≡ true) (v₀ : valid t ≡ true) (o : Ordered t k marks) where
    by_found : FoundAs t k marks (contend (marked t marks)) → Turned t k l (contend (marked t marks)) (table_after (contend (marked t marks)) (marked t marks))
    by_found f =
        record {
          due = ((λ p h. found_due t (contend (marked t marks)) f.place f.inside k v₀ f.ranked f.answer_is), (λ h. let z : ⊥ = omega (arith, f.left) in absurd z));
          ordered = subst (λ (x : Table). Ordered t (suc k) x.marks) (sym f.table_is) f.next;
          names = subst (λ (a : Answer). Names t (suc k) (l ++ serial_in a [])) (sym f.answer_is) (named_more f.place f.inside f.ranked f.left);
        }

    by_end_lem : EndAs t k marks (contend (marked t marks)) → Turned t k l (contend (marked t marks)) (table_after (contend (marked t marks)) (marked t marks))
    by_end_lem f =
        record {
          due = ((λ p h. let z : ⊥ = omega (arith, f.all) in absurd z), (λ h. end_due t (contend (marked t marks)) f.place f.inside f.ranked f.answer_is));
          ordered = subst (λ (x : Table). Ordered t (suc k) x.marks) (sym f.table_is) f.next;
          names = subst (λ (x : List ℕ). Names t (suc k) x) (sym (ap (λ (a : Answer). l ++ serial_in a []) f.answer_is ∙ append-nil l))
              (record { many = omega (arith, n.many, f.all); each = n.each });
        }

    pub turned : Turned t k l (contend (marked t marks)) (table_after (contend (marked t marks)) (marked t marks))
    turned = ⊎_elim by_found by_end_lem (turn_of t k marks v somebody o)

no_names : (t : Table) → Names t 0 []
no_names t = record { many = omega arith; each = λ k h. let z : ⊥ = omega arith in absurd z }

-- ---- one request

pub record Stepped (t : Table) (m : ℕ) (l : List ℕ) (request : Request) (now : Table) : Type 0 where
  pub due : Due t (counted m request) (respond request now).answer
  pub goes : Goes t (counted m request) (respond request now).table (kept request l ++ serial_in (respond request now).answer [])

module _ (t : Table) (v₀ : valid t ≡ true) (somebody : 0 < devices t) where
  stepped_columns : (request : Request) (marks : List ℕ) → (respond request (marked t marks)).table ≡ marked t (respond request (marked t marks)).table.marks
  stepped_columns request marks = respond_columns request (marked t marks)

  from_marks : (m : ℕ) (marks l : List ℕ) (request : Request) → Goes t m (marked t marks) l → Stepped t m l request (marked t marks)
  unfolding respond
  from_marks m marks l Start g =
      let size : length marks ≡ devices t = (tested (marked t marks) g.right).marks_long in
      let one = turned t somebody 0 [] (no_names t) (replicate (length marks) 0) (cleared_valid (marked t marks) g.right) v₀ (ordered_cleared t (length marks) size) in
      record {
        due = one.due;
        goes = record {
          columns_stay = stepped_columns Start marks;
          right = respond_valid Start (marked t marks) g.right;
          ordered = λ p. one.ordered;
          names = λ p. one.names;
        };
      }
  from_marks zero marks l Continue g =
      record {
        due = ((λ p h. let z : ⊥ = omega arith in absurd z), (λ h. let z : ⊥ = omega arith in absurd z));
        goes = record {
          columns_stay = stepped_columns Continue marks;
          right = respond_valid Continue (marked t marks) g.right;
          ordered = λ p. let z : ⊥ = omega arith in absurd z;
          names = λ p. let z : ⊥ = omega arith in absurd z;
        };
      }
  from_marks (suc k) marks l Continue g =
      let one = turned t somebody (suc k) l (g.names (omega arith)) marks g.right v₀ (g.ordered (omega arith)) in
      record {
        due = one.due;
        goes = record {
          columns_stay = stepped_columns Continue marks;
          right = respond_valid Continue (marked t marks) g.right;
          ordered = λ p. one.ordered;
          names = λ p. one.names;
        };
      }

  one_request : (m : ℕ) (now : Table) (l : List ℕ) (request : Request) → Goes t m now l → Stepped t m l request now
  one_request m now l request g =
      subst (Stepped t m l request) (sym g.columns_stay) (from_marks m now.marks l request (subst (λ (x : Table). Goes t m x l) g.columns_stay g))

  -- ---- any list of turns

  goes_next : (m : ℕ) (now : Table) (l : List ℕ) (turn : Turn) → turn ≡ respond turn.request now → Goes t m now l
      → Goes t (counted m turn.request) turn.table (kept turn.request l ++ serial_in turn.answer [])
  goes_next m now l turn is g =
      subst (λ (u : Turn). Goes t (counted m turn.request) u.table (kept turn.request l ++ serial_in u.answer [])) (sym is) (one_request m now l turn.request g).goes

  pub goes_on : (turns : List Turn) (m : ℕ) (now last : Table) (l : List ℕ) → Linked now turns last → Goes t m now l → Goes t (since_start m turns) last (named l turns)
  unfolding Linked since_start named
  goes_on [] m now last l h g = subst (λ (x : Table). Goes t m x l) h g
  goes_on (turn ∷ turns) m now last l h g =
      goes_on turns (counted m turn.request) turn.table last (kept turn.request l ++ serial_in turn.answer []) h.1 (goes_next m now l turn h.0 g)

  -- what holds where a turn is made, and that it is the one operation on the table that it met
  pub reached : (earlier later : List Turn) (turn : Turn) (m : ℕ) (now last : Table) (l : List ℕ) → Linked now (earlier ++ turn ∷ later) last → Goes t m now l
      → Goes t (since_start m earlier) turn.met (named l earlier) × (turn ≡ respond turn.request turn.met)
  unfolding Linked since_start named respond
  reached [] later turn m now last l h g =
      let met : turn.met ≡ now = ap (λ (u : Turn). u.met) h.0 in
      (subst (λ (x : Table). Goes t m x l) (sym met) g, subst (λ (x : Table). turn ≡ respond turn.request x) (sym met) h.0)
  reached (x ∷ xs) later turn m now last l h g =
      reached xs later turn (counted m x.request) x.table last (kept x.request l ++ serial_in x.answer []) h.1 (goes_next m now l x h.0 g)

-- a turn is counted behind those before it
counted_last : (earlier : List Turn) (turn : Turn) (m : ℕ) → counted (since_start m earlier) turn.request ≡ since_start m (earlier ++ turn ∷ [])
unfolding since_start
counted_last [] turn m = refl
counted_last (x ∷ xs) turn m = counted_last xs turn (counted m x.request)

-- what is due depends on serials and addresses alone, so it is due on each table that the calls meet
pub due_met : (t now : Table) (m : ℕ) (answer : Answer) → now ≡ marked t now.marks → Due t m answer → Due now m answer
unfolding rank
due_met t now m answer same due =
    subst (λ (x : Table). Due x m answer) (sym same) (
      (λ p h. let f = due.0 p h in record { place = f.place; inside = f.inside; kth = f.kth; written = f.written; read = f.read }),
      (λ h. let f = due.1 h in record { place = f.place; inside = f.inside; smallest = f.smallest; written = f.written; read = f.read }),
    )

module _ (t : Table) (v₀ : valid t ≡ true) (somebody : 0 < devices t) where
  pub next_due : (m : ℕ) (now : Table) (l : List ℕ) (request : Request) → Goes t m now l → Due now (counted m request) (respond request now).answer
  next_due m now l request g = due_met t now (counted m request) (respond request now).answer g.columns_stay (one_request t v₀ somebody m now l request g).due

  pub turn_due : (earlier : List Turn) (turn : Turn) (m : ℕ) (l : List ℕ) → Goes t (since_start m earlier) turn.met l → turn ≡ respond turn.request turn.met
      → Due turn.met (since_start m (earlier ++ turn ∷ [])) turn.answer
  turn_due earlier turn m l g is =
      subst (λ (n : ℕ). Due turn.met n turn.answer) (counted_last earlier turn m)
      (subst (λ (u : Turn). Due turn.met (counted (since_start m earlier) turn.request) u.answer) (sym is) (next_due (since_start m earlier) turn.met l turn.request g))
