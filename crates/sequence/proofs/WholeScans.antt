-- A whole scan on any table: how many requests it sends, what it hears, and how it ends.
-- Assumes nothing.
use Rattle.std.specs.Prelude.{None, Result, Ok}
use Rattle.refusal.specs.declared.Refusal.{Refusal}
use mathlib.Core.Path.{◌≡◌, refl, sym, ap, ap₂, ◌∙◌, subst}
use mathlib.Core.Logic.{⊎_elim}
use mathlib.Core.Bool.{Bool, true, false}
use mathlib.Core.List.{List, [], ◌∷◌, ◌++◌, map}
use Prim.Native.Nat.{ℕ, zero, suc, ◌+◌, ◌-◌, ◌*◌, ◌≤◌, ◌<◌, min}
use native.Mathlib.Nat.{sub-zero}
use native.Mathlib.Omega.{arith}
use lib.Dec.{eqb, ltb}
use lib.ListN.{length, get_or, take, drop, replicate, length-append, get_or-append}
use lib.Seq.{drop_at}
use borrow.Author.Tests.{lt-ltb, le-ltb, ltb-true, ltb-false}
use Rattle.lists.proofs.Cases.{by_test}
use Rattle.lists.proofs.Filling.{length_starting}
use Rattle.lists.specs.Choice.{pick}
use Rattle.lists.specs.Starting.{starting}
use Rattle.arbitration.specs.Smallest.{zero_bits}
use Rattle.arbitration.proofs.Contenders.{dominant_le}
use Rattle.answers.specs.Reading.{read_answer}
use Rattle.requests.specs.declared.Request.{Request}
use Rattle.requests.specs.declared.Request.TheVariants.{Start, Continue}
use Rattle.answers.specs.declared.AnswerRead.{AnswerRead}
use Rattle.answers.specs.declared.AnswerRead.TheVariants.{Found as FoundRead, End as EndRead}
use Rattle.table.specs.Table.{Table, devices, marked, valid}
use Rattle.turns.specs.Request.{Turn, key, keys, windows, contend, table_after, standing, respond}
use Rattle.devices.specs.Calls.{answer_bytes}
use Rattle.devices.specs.WholeScan.{onward, scan_from, left_by, serials_heard, addresses_heard, fill_of, fill_heard, closing, Scanning, concluded, scan_call}
use Rattle.turns.specs.Rank.{rank}
use Rattle.turns.specs.declared.Answer.{Answer}
use Rattle.turns.specs.declared.Answer.TheVariants.{Silence, Found, End}
use Rattle.devices.specs.declared.Scanned.TheVariants.{Complete, Unfinished}
use Rattle.turns.proofs.TurnKeeps.{standing_valid, respond_valid, respond_columns}
use Rattle.table.proofs.Meaning.{tested}
use Rattle.devices.proofs.ScanSteps.{answered, scan_step}
use Rattle.sequence.specs.Calls.{scan, Linked, counted, since_start, refusal_due}
use Rattle.sequence.specs.Sequence.{serial_at, address_at, mark_at, dominant_in, dominant_over, ScanDue}
use Rattle.sequence.proofs.Ranks.{same_test}
use Rattle.sequence.proofs.MarksInOrder.{Ordered, ordered_cleared, FoundAs, EndAs, turn_of}
use Rattle.sequence.proofs.TurnsDue.{found_read, end_read, reached}
use Rattle.sequence.proofs.OneRemains.{contested}
use Rattle.sequence.proofs.CallTurns.{scan_made}
use Rattle.sequence.proofs.CallRefusals.{scan_enough, scan_room}

-- the entry that stands at a place of the two lists of what was heard
abbrev Entry : Table → List ℕ → List ℕ → ℕ → ℕ → Type 0
Entry t serials addresses j k =
    (place : ℕ) × (place < devices t) × (rank t place ≡ k) × (get_or serials j 0 ≡ serial_at t place) × (get_or addresses j 0 ≡ address_at t place)

-- what is read from the answer to request j, behind so many FF, where so many devices are left
abbrev Read : ℕ → List ℕ → List ℕ → ℕ → ℕ → Result AnswerRead Refusal
Read d serials addresses j left = Ok (pick (ltb j left) (FoundRead d (get_or serials j 0) (get_or addresses j 0)) (EndRead d))

-- a scan from here on, with k devices named before and so many requests left under the cap
record Scans (t : Table) (cap k : ℕ) (turns : List Turn) : Type 0 where
  sent : length turns ≡ min cap (devices t + 1 - k)
  heard : length (serials_heard turns) ≡ min cap (devices t - k)
  beside : length (addresses_heard turns) ≡ min cap (devices t - k)
  closes : (n f : ℕ) → closing turns n f ≡ pick (ltb (devices t - k) cap) (Complete n f) (Unfinished n f)
  entry : (j : ℕ) → j < min cap (devices t - k) → Entry t (serials_heard turns) (addresses_heard turns) j (k + j)
  read : (earlier later : List Turn) (turn : Turn) → turns ≡ earlier ++ turn ∷ later
      → read_answer (answer_bytes turn.answer) ≡ Read (fill_of turn.answer) (serials_heard turns) (addresses_heard turns) (length earlier) (devices t - k)

-- the number answered is the number sent
count_of : (cap n sent f : ℕ) → sent ≡ min cap (n + 1) → pick (ltb n cap) (Complete sent f) (Unfinished sent f) ≡ pick (ltb n cap) (Complete (n + 1) f) (Unfinished cap f)
count_of cap n sent f e =
    by_test (ltb n cap)
    (λ b. let h = ltb-true n cap b in
    let all : sent ≡ n + 1 = omega arith in
    ap (λ (x : Bool). pick x (Complete sent f) (Unfinished sent f)) b ∙ ap (λ (k : ℕ). Complete k f) all ∙ ap (λ (x : Bool). pick x (Complete (n + 1) f) (Unfinished cap f)) (sym b))
    (λ b. let h = ltb-false n cap b in
    let part : sent ≡ cap = omega arith in
    ap (λ (x : Bool). pick x (Complete sent f) (Unfinished sent f)) b ∙ ap (λ (k : ℕ). Unfinished k f) part ∙ ap (λ (x : Bool). pick x (Complete (n + 1) f) (Unfinished cap f)) (sym b))

-- ---- which requests are sent, and what they count for

abbrev asked : Turn → Request
asked turn = turn.request

-- behind the first, a scan sends only continues
abbrev OnlyContinues : List Turn → Type 0
OnlyContinues turns = map asked turns ≡ replicate (length turns) Continue

continues_onward : (answer : Answer) (later : List Turn) → OnlyContinues later → OnlyContinues (onward answer later)
continues_onward (Found dominant serial address) later rest = rest
continues_onward (End dominant) later rest = refl
continues_onward Silence later rest = refl

continues : (cap : ℕ) (now : Table) → OnlyContinues (scan_from cap Continue now)
unfolding scan_from respond
continues zero now = refl
continues (suc cap) now =
    ap (λ (l : List Request). Continue ∷ l)
    (continues_onward (respond Continue now).answer (scan_from cap Continue (respond Continue now).table) (continues cap (respond Continue now).table))

take_continues : (k n : ℕ) → take k (replicate n Continue) ≡ replicate (min k n) Continue
take_continues zero n = let none : 0 ≡ min 0 n = omega arith in ap (λ (m : ℕ). replicate m Continue) none
take_continues (suc k) zero = let none : 0 ≡ min (suc k) 0 = omega arith in ap (λ (m : ℕ). replicate m Continue) none
take_continues (suc k) (suc n) =
    let more : suc (min k n) ≡ min (suc k) (suc n) = omega arith in
    ap (λ (l : List Request). Continue ∷ l) (take_continues k n) ∙ ap (λ (m : ℕ). replicate m Continue) more

module _ (now : Table) (n : ℕ) where
  requests_are : (cap : ℕ) → length (scan_from cap Start now) ≡ min cap (n + 1) → map asked (scan_from cap Start now) ≡ take cap (Start ∷ replicate n Continue)
  unfolding scan_from respond
  requests_are zero sent = refl
  requests_are (suc cap) sent =
      let later = scan_from cap Continue (respond Start now).table in
      let rest = onward (respond Start now).answer later in
      let many : length rest ≡ min cap n = omega arith in
      ap (λ (l : List Request). Start ∷ l)
      (continues_onward (respond Start now).answer later (continues cap (respond Start now).table) ∙ ap (λ (m : ℕ). replicate m Continue) many ∙ sym (take_continues cap n))

  -- each continue counts one more
  counted_on : (turns : List Turn) (m : ℕ) → OnlyContinues turns → since_start (suc m) turns ≡ suc m + length turns
  unfolding since_start
  counted_on [] m only = omega arith
  counted_on (turn ∷ turns) m only =
      let first : turn.request ≡ Continue = cc in
      let rest : OnlyContinues turns = cc in
      ap (λ (r : Request). since_start (counted (suc m) r) turns) first ∙ counted_on turns (suc m) rest ∙ omega arith

  counts_are : (cap : ℕ) → length (scan_from cap Start now) ≡ min cap (n + 1) → 0 < cap → (m : ℕ) → since_start m (scan_from cap Start now) ≡ min cap (n + 1)
  unfolding scan_from respond since_start
  counts_are zero sent some m = let z : ⊥ = omega arith in absurd z
  counts_are (suc cap) sent some m =
      let later = scan_from cap Continue (respond Start now).table in
      let rest = onward (respond Start now).answer later in
      counted_on rest 0 (continues_onward (respond Start now).answer later (continues cap (respond Start now).table)) ∙ omega arith

module _ (t : Table) (v₀ : valid t ≡ true) (somebody : 0 < devices t) where
  -- under the cap nothing is sent
  capped : (k : ℕ) (request : Request) (now : Table) → Scans t 0 k (scan_from 0 request now)
  unfolding scan_from serials_heard addresses_heard closing
  capped k request now =
      record {
        sent = omega arith;
        heard = omega arith;
        beside = omega arith;
        closes = λ n f. ap (λ (b : Bool). pick b (Complete n f) (Unfinished n f)) (sym (le-ltb (devices t - k) 0 (omega arith)));
        entry = λ j h. let z : ⊥ = omega arith in absurd z;
        read = nothing;
      }
    where
      nothing : (earlier later : List Turn) (turn : Turn) → [] ≡ earlier ++ turn ∷ later → read_answer (answer_bytes turn.answer) ≡ Read (fill_of turn.answer) [] [] (length earlier) (devices t - k)
      nothing [] later turn same = let z : ◌≡◌ {A = ℕ} 0 1 = cc in absurd (let w : ⊥ = omega arith in w)
      nothing (x ∷ xs) later turn same = let z : ◌≡◌ {A = ℕ} 0 1 = cc in absurd (let w : ⊥ = omega arith in w)

  module _ (cap k : ℕ) (turn : Turn) where
    -- a device answers, and the scan goes on
    found_first : (place d : ℕ) (later : List Turn) → k < devices t → place < devices t → rank t place ≡ k
        → read_answer (answer_bytes (Found d (serial_at t place) (address_at t place))) ≡ Ok (FoundRead d (serial_at t place) (address_at t place))
        → Scans t cap (suc k) later → Scans t (suc cap) k (answered turn (Found d (serial_at t place) (address_at t place)) ∷ later)
    unfolding serials_heard addresses_heard closing
    found_first place d later left inside r reads s =
        record {
          sent = omega (arith, s.sent);
          heard = omega (arith, s.heard);
          beside = omega (arith, s.beside);
          closes = λ n f. s.closes n f ∙ ap (λ (b : Bool). pick b (Complete n f) (Unfinished n f)) (same_test (devices t - suc k) cap (devices t - k) (suc cap) (λ h. omega arith) (λ h. omega arith));
          entry = entries;
          read = each;
        }
      where
        entries : (j : ℕ) → j < min (suc cap) (devices t - k)
            → Entry t (serial_at t place ∷ serials_heard later) (address_at t place ∷ addresses_heard later) j (k + j)
        entries zero h = (place, inside, omega (arith, r), refl, refl)
        entries (suc j) h =
            let rest = s.entry j (omega arith) in
            (rest.0, rest.1, omega (arith, rest.2), rest.3, rest.4)

        each : (earlier following : List Turn) (x : Turn) → answered turn (Found d (serial_at t place) (address_at t place)) ∷ later ≡ earlier ++ x ∷ following
            → read_answer (answer_bytes x.answer) ≡ Read (fill_of x.answer) (serial_at t place ∷ serials_heard later) (address_at t place ∷ addresses_heard later) (length earlier) (devices t - k)
        each [] following x same =
            let here : answered turn (Found d (serial_at t place) (address_at t place)) ≡ x = cc in
            ap (λ (y : Turn). read_answer (answer_bytes y.answer)) (sym here) ∙ reads
            ∙ ap (λ (b : Bool). Ok (pick b (FoundRead d (serial_at t place) (address_at t place)) (EndRead d))) (sym (lt-ltb 0 (devices t - k) (omega arith)))
            ∙ ap (λ (y : Turn). Read (fill_of y.answer) (serial_at t place ∷ serials_heard later) (address_at t place ∷ addresses_heard later) 0 (devices t - k)) here
        each (y ∷ ys) following x same =
            let rest : later ≡ ys ++ x ∷ following = cc in
            s.read ys following x rest
            ∙ ap (λ (b : Bool). Ok (pick b (FoundRead (fill_of x.answer) (get_or (serials_heard later) (length ys) 0) (get_or (addresses_heard later) (length ys) 0)) (EndRead (fill_of x.answer))))
            (same_test (length ys) (devices t - suc k) (suc (length ys)) (devices t - k) (λ h. omega arith) (λ h. omega arith))

    -- the end is heard, and the scan is over
    end_first : (d : ℕ) → k ≡ devices t → read_answer (answer_bytes (End d)) ≡ Ok (EndRead d) → Scans t (suc cap) k (answered turn (End d) ∷ [])
    unfolding serials_heard addresses_heard closing
    end_first d all reads =
        record {
          sent = omega arith;
          heard = omega arith;
          beside = omega arith;
          closes = λ n f. ap (λ (b : Bool). pick b (Complete n f) (Unfinished n f)) (sym (lt-ltb (devices t - k) (suc cap) (omega arith)));
          entry = λ j h. let z : ⊥ = omega arith in absurd z;
          read = each;
        }
      where
        each : (earlier following : List Turn) (x : Turn) → answered turn (End d) ∷ [] ≡ earlier ++ x ∷ following
            → read_answer (answer_bytes x.answer) ≡ Read (fill_of x.answer) [] [] (length earlier) (devices t - k)
        each [] following x same =
            let here : answered turn (End d) ≡ x = cc in
            ap (λ (y : Turn). read_answer (answer_bytes y.answer)) (sym here) ∙ reads
            ∙ ap (λ (b : Bool). Ok (pick b (FoundRead d 0 0) (EndRead d))) (sym (le-ltb 0 (devices t - k) (omega arith)))
            ∙ ap (λ (y : Turn). Read (fill_of y.answer) [] [] 0 (devices t - k)) here
        each (y ∷ []) following x same = let z : ◌≡◌ {A = ℕ} 0 1 = cc in absurd (let w : ⊥ = omega arith in w)
        each (y ∷ z ∷ zs) following x same = let w : ◌≡◌ {A = ℕ} 0 1 = cc in absurd (let u : ⊥ = omega arith in u)

  -- one request, with the scan from the next one on handed in
  module _ (cap k : ℕ) (request : Request) (now : Table) (columns_stay : now ≡ marked t now.marks) (v : valid now ≡ true) (few : k ≤ devices t) where
    standing_is : (r : Request) → standing r now ≡ marked t (standing r now).marks
    standing_is Start = ap (λ (x : Table). standing Start x) columns_stay
    standing_is Continue = columns_stay

    answer_same : (respond request now).answer ≡ contend (marked t (standing request now).marks)
    unfolding respond
    answer_same = ap contend (standing_is request)

    table_same : (respond request now).table ≡ table_after (contend (marked t (standing request now).marks)) (marked t (standing request now).marks)
    unfolding respond
    table_same = ap (λ (x : Table). table_after (contend x) x) (standing_is request)

    after_columns : (respond request now).table ≡ marked t (respond request now).table.marks
    after_columns = respond_columns request now ∙ ap (λ (x : Table). marked x (respond request now).table.marks) columns_stay

    by_found : (suc k ≤ devices t → Ordered t (suc k) (respond request now).table.marks → Scans t cap (suc k) (scan_from cap Continue (respond request now).table))
        → FoundAs t k (standing request now).marks (contend (marked t (standing request now).marks)) → Scans t (suc cap) k (scan_from (suc cap) request now)
    by_found later f =
        let d = zero_bits windows (key 0 (serial_at t f.place)) in
        let heard = Found d (serial_at t f.place) (address_at t f.place) in
        subst (Scans t (suc cap) k) (sym (scan_step cap request now heard (answer_same ∙ f.answer_is)))
        (found_first cap k (respond request now) f.place d (scan_from cap Continue (respond request now).table)
        f.left f.inside f.ranked (found_read t heard f.place f.inside v₀ refl)
        (later f.left (subst (λ (x : Table). Ordered t (suc k) x.marks) (sym (table_same ∙ f.table_is)) f.next)))

    by_end_lem : EndAs t k (standing request now).marks (contend (marked t (standing request now).marks)) → Scans t (suc cap) k (scan_from (suc cap) request now)
    by_end_lem f =
        let d = zero_bits windows (key 1 (serial_at t f.place)) in
        subst (Scans t (suc cap) k) (sym (scan_step cap request now (End d) (answer_same ∙ f.answer_is)))
        (end_first cap k (respond request now) d (omega (arith, f.all)) (end_read t (End d) f.place f.inside refl))

    one_step : Ordered t k (standing request now).marks
        → (suc k ≤ devices t → Ordered t (suc k) (respond request now).table.marks → Scans t cap (suc k) (scan_from cap Continue (respond request now).table))
        → Scans t (suc cap) k (scan_from (suc cap) request now)
    one_step o later =
        let right : valid (marked t (standing request now).marks) ≡ true = subst (λ (x : Table). valid x ≡ true) (standing_is request) (standing_valid request now v) in
        ⊎_elim (by_found later) by_end_lem (turn_of t k (standing request now).marks right somebody o)

  from_standing : (cap k : ℕ) (request : Request) (now : Table) → now ≡ marked t now.marks → valid now ≡ true → k ≤ devices t
      → Ordered t k (standing request now).marks → Scans t cap k (scan_from cap request now)
  from_standing zero k request now columns_stay v few o = capped k request now
  from_standing (suc cap) k request now columns_stay v few o =
      one_step cap k request now columns_stay v few o
      (λ left next. from_standing cap (suc k) Continue (respond request now).table (after_columns cap k request now columns_stay v few) (respond_valid request now v) left next)

  -- the lists of the call
  first_of : (heard old : List ℕ) (n j : ℕ) → length heard ≡ n → j < n → get_or (starting heard old) j 0 ≡ get_or heard j 0
  first_of heard old n j e h = get_or-append heard (drop (length heard) old) 0 j (omega arith)

  behind : (heard old : List ℕ) (n : ℕ) → length heard ≡ n → drop n (starting heard old) ≡ drop n old
  behind heard old n e = drop_at heard (drop (length heard) old) n e ∙ ap (λ (k : ℕ). drop k old) e

  -- each turn's FF are the windows that were dominant in its contest
  abbrev Counted : List Turn → Type 0
  Counted turns = (earlier later : List Turn) (turn : Turn) → turns ≡ earlier ++ turn ∷ later → fill_of turn.answer ≡ dominant_in turn

  either_fill : (b : Bool) (d serial address : ℕ) → fill_of (pick b (Found d serial address) (End d)) ≡ d
  either_fill true d serial address = refl
  either_fill false d serial address = refl

  scan_counted : (cap : ℕ) (now : Table) → now ≡ marked t now.marks → valid now ≡ true → Counted (scan_from cap Start now)
  scan_counted cap now columns_stay v earlier later turn same =
      let at = reached t v₀ somebody earlier later turn 0 now (left_by (scan_from cap Start now) now) []
      (subst (λ (turns : List Turn). Linked now turns (left_by (scan_from cap Start now) now)) same (scan_made cap Start now))
      (record {
        columns_stay = columns_stay;
        right = v;
        ordered = λ h. let z : ⊥ = omega arith in absurd z;
        names = λ h. let z : ⊥ = omega arith in absurd z;
      }) in
      let one = contested turn.request turn.met at.0.right (omega (arith, ap devices at.0.columns_stay)) in
      let met = standing turn.request turn.met in
      ap (λ (u : Turn). fill_of u.answer) at.1 ∙ ap fill_of one.answers
      ∙ either_fill (eqb (mark_at met one.place) 0) (dominant_in turn) (serial_at met one.place) (address_at met one.place)

  all_counted : (turns : List Turn) → Counted turns → fill_heard turns ≡ dominant_over turns
  unfolding fill_heard dominant_over
  all_counted [] each = refl
  all_counted (turn ∷ turns) each =
      ap₂ ◌+◌ (each [] turns turn refl) (all_counted turns (λ earlier later x same. each (turn ∷ earlier) later x (ap (λ (l : List Turn). turn ∷ l) same)))

  over_most : (turns : List Turn) → dominant_over turns ≤ 32 * length turns
  unfolding dominant_over
  over_most [] = omega arith
  over_most (turn ∷ turns) = omega (arith, dominant_le windows (keys (standing turn.request turn.met)), over_most turns)

  concluded_due : (cap : ℕ) (serials addresses : List ℕ) (now : Table) → devices t ≤ length serials → devices t ≤ length addresses → Scans t cap 0 (scan_from cap Start now)
      → Counted (scan_from cap Start now) → ScanDue t cap serials addresses (concluded serials addresses now (scan_from cap Start now))
  concluded_due cap serials addresses now s_room a_room s each =
      let turns = scan_from cap Start now in
      let n = devices t in
      let f = dominant_over turns in
      let heard : length (serials_heard turns) ≡ min cap n = s.heard ∙ ap (min cap) (sub-zero n) in
      let beside : length (addresses_heard turns) ≡ min cap n = s.beside ∙ ap (min cap) (sub-zero n) in
      let sent : length turns ≡ min cap (n + 1) = s.sent ∙ ap (min cap) (sub-zero (n + 1)) in
      record {
        requests = requests_are now n cap sent;
        sent = sent;
        counts = counts_are now n cap sent;
        scanned =
            ap Ok
            (ap (closing turns (length turns)) (all_counted turns each) ∙ s.closes (length turns) f
            ∙ ap (λ (x : ℕ). pick (ltb x cap) (Complete (length turns) f) (Unfinished (length turns) f)) (sub-zero n) ∙ count_of cap n (length turns) f sent);
        skipped_most = over_most turns;
        names = heard;
        entries = λ k h.
            let at = s.entry k (omega arith) in
            (at.0, at.1, omega (arith, at.2), first_of (serials_heard turns) serials (min cap n) k heard h ∙ at.3, first_of (addresses_heard turns) addresses (min cap n) k beside h ∙ at.4);
        serials_long = length_starting (serials_heard turns) serials (omega arith);
        addresses_long = length_starting (addresses_heard turns) addresses (omega arith);
        serials_behind = behind (serials_heard turns) serials (min cap n) heard;
        addresses_behind = behind (addresses_heard turns) addresses (min cap n) beside;
        read = λ earlier later turn same.
            let d = dominant_in turn in
            s.read earlier later turn same
            ∙ ap₂ (λ (x y : ℕ). Read x (serials_heard turns) (addresses_heard turns) (length earlier) y) (each earlier later turn same) (sub-zero n)
            ∙ by_test (ltb (length earlier) n)
            (λ less.
            let l = ltb-true (length earlier) n less in
            let made : length earlier < length turns = omega (arith, ap length same, length-append earlier (turn ∷ later)) in
            let h : length earlier < min cap n = omega arith in
            ap (λ (b : Bool). Ok (pick b (FoundRead d (get_or (serials_heard turns) (length earlier) 0) (get_or (addresses_heard turns) (length earlier) 0)) (EndRead d))) less
            ∙ ap₂ (λ (x : ℕ) (y : ℕ). Ok (FoundRead d x y)) (sym (first_of (serials_heard turns) serials (min cap n) (length earlier) heard h)) (sym (first_of (addresses_heard turns) addresses (min cap n) (length earlier) beside h))
            ∙ ap (λ (b : Bool). Ok (pick b (FoundRead d (get_or (starting (serials_heard turns) serials) (length earlier) 0) (get_or (starting (addresses_heard turns) addresses) (length earlier) 0)) (EndRead d))) (sym less))
            (λ over.
            ap (λ (b : Bool). Ok (pick b (FoundRead d (get_or (serials_heard turns) (length earlier) 0) (get_or (addresses_heard turns) (length earlier) 0)) (EndRead d))) over
            ∙ ap (λ (b : Bool). Ok (pick b (FoundRead d (get_or (starting (serials_heard turns) serials) (length earlier) 0) (get_or (starting (addresses_heard turns) addresses) (length earlier) 0)) (EndRead d))) (sym over));
      }

  -- what is due depends on serials and addresses alone, so it is due on the table that the scan met
  due_met : (cap : ℕ) (serials addresses : List ℕ) (given : Scanning) (now : Table) → now ≡ marked t now.marks → ScanDue t cap serials addresses given → ScanDue now cap serials addresses given
  unfolding rank
  due_met cap serials addresses given now same due =
      subst (λ (x : Table). ScanDue x cap serials addresses given) (sym same)
      (record {
        requests = due.requests;
        sent = due.sent;
        counts = due.counts;
        scanned = due.scanned;
        skipped_most = due.skipped_most;
        names = due.names;
        entries = due.entries;
        serials_long = due.serials_long;
        addresses_long = due.addresses_long;
        serials_behind = due.serials_behind;
        addresses_behind = due.addresses_behind;
        read = due.read;
      })

  pub scan_is : (cap : ℕ) (serials addresses : List ℕ) (now : Table) → now ≡ marked t now.marks → valid now ≡ true
      → refusal_due (devices t) (scan cap serials addresses) ≡ None → ScanDue now cap serials addresses (scan_call cap serials addresses now)
  scan_is cap serials addresses now columns_stay v due =
      let size : length now.marks ≡ devices now = (tested now v).marks_long in
      let same : devices now ≡ devices t = ap devices columns_stay in
      let room = scan_room cap serials addresses (devices t) due in
      subst (ScanDue now cap serials addresses) (sym (scan_enough cap serials addresses now v (omega (arith, room))))
      (due_met cap serials addresses (concluded serials addresses now (scan_from cap Start now)) now columns_stay
      (concluded_due cap serials addresses now (omega (arith, room)) (omega (arith, room))
      (from_standing cap 0 Start now columns_stay v (omega arith) (ordered_cleared t (length now.marks) (omega arith)))
      (scan_counted cap now columns_stay v)))
