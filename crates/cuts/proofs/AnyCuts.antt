-- Listening to the runs of a recording, whatever their lengths, and closing gives what judging it at once gives.
-- Assumes nothing.
use mathlib.Core.Path.{◌≡◌, refl, sym, ap, ◌∙◌, subst}
use mathlib.Core.Bool.{Bool, true, false}
use mathlib.Core.List.{List, [], ◌∷◌, ◌++◌, append_assoc, append-nil}
use mathlib.Core.Logic.{⊎_elim}
use Prim.Native.Nat.{ℕ, zero, suc, ◌+◌, ◌≤◌, ◌<◌}
use native.Mathlib.Omega.{arith}
use lib.Dec.{eqb}
use lib.ListN.{length, take, drop, length-take, take-append-drop}
use lib.Seq.{take-length, take-take}
use borrow.Author.Tests.{lt-leb}
use Rattle.lists.specs.Choice.{pick}
use Rattle.lists.proofs.Cases.{true_or_false, true_not_false}
use Rattle.refusal.specs.Number.{output_short, run_ended, at_place}
use Rattle.addresses.specs.Address.{kind_of}
use Rattle.telegram.specs.Telegram.{destination_of}
use Rattle.attempts.proofs.Sized.{attempt_none}
use Rattle.exchange.specs.Exchange.{limit, Outcome, accepted, rejected, exchange, rooms, judged}
use Rattle.listening.specs.declared.Listening.{Listening}
use Rattle.listening.specs.declared.Fed.{Fed}
use Rattle.listening.specs.Listening.{fresh, heard, has_answered, answers, hear, after, listened, fed, kept_command, kept_first, kept_second, answer, closed, closing, closing_state}
use Rattle.cuts.specs.Cuts.{joined, fed_all, Open, DecidedBy, AnyCuts, ClosedStays, Call, feeds, closes, state_after, recorded, AnyCalls}
use Rattle.cuts.proofs.Cutting.{answered_listens, open_listens, none_listens, all_used, fed_joined, none_fed, fed_append, answered_stays}
use Rattle.cuts.proofs.Stages.{Is, Stage, first_command, second_command, first_reply, second_reply, syn_is_due, known}
use Rattle.cuts.proofs.Steps.{step, open_exchange}

-- ---- byte after byte

-- a state that stood somewhere, and was fed these bytes
record RunOn (p bytes : List ℕ) (f : Fed) : Type 0 where
  pub within : f.used ≤ length bytes
  pub before : (m : ℕ) → m < f.used → Open (exchange (p ++ take m bytes))
  pub stage : Stage (p ++ take f.used bytes) f.state

not_on : (p bytes : List ℕ) (s : Listening) → Stage p s → RunOn p bytes (record { state = s; used = 0 })
not_on p bytes s st =
    record { within = omega arith; before = λ m h. let f : ⊥ = omega arith in absurd f; stage = subst (λ (x : List ℕ). Stage x s) (sym (append-nil p)) st }

run_on : (bytes p : List ℕ) (s : Listening) → Stage p s → RunOn p bytes (listened s bytes)
run_on [] p s st = subst (RunOn p []) (sym (none_listens s)) (not_on p [] s st)
run_on (b ∷ bs) p s st =
    ⊎_elim (λ (h : has_answered s ≡ true). subst (RunOn p (b ∷ bs)) (sym (answered_listens s (b ∷ bs) h)) (not_on p (b ∷ bs) s st))
    (λ (h : has_answered s ≡ false). subst (RunOn p (b ∷ bs)) (sym (open_listens s b bs h)) (one_on h (listened (hear s b) bs) (run_on bs (p ++ b ∷ []) (hear s b) (step p s st h b))))
    (true_or_false (has_answered s))
  where
    one_on : has_answered s ≡ false → (f : Fed) → RunOn (p ++ b ∷ []) bs f → RunOn p (b ∷ bs) (after 1 f)
    one_on h f r =
        record {
          within = omega (arith, r.within);
          before = λ m k. each m k;
          stage = subst (λ (x : List ℕ). Stage x f.state) (append_assoc p (b ∷ []) (take f.used bs) ∙ ap (λ (n : ℕ). p ++ take n (b ∷ bs)) (let e : suc f.used ≡ 1 + f.used = omega arith in e)) r.stage;
        }
      where
        each : (m : ℕ) → m < 1 + f.used → Open (exchange (p ++ take m (b ∷ bs)))
        each zero k = subst (λ (x : List ℕ). Open (exchange x)) (sym (append-nil p)) (length p, open_exchange p s st h)
        each (suc m) k = subst (λ (x : List ℕ). Open (exchange x)) (append_assoc p (b ∷ []) (take m bs)) (r.before m (omega arith))

fresh_stage : Stage [] fresh
fresh_stage =
    first_command refl (record { before = []; split = refl; begins = refl; room = refl }) (attempt_none true) (record { first = refl; second = refl; attempts = refl })
    (λ more. omega arith)

-- ---- at the end

record Known (p : List ℕ) (s : Listening) : Type 0 where
  pub is : Is p (λ r. answer s)
  pub not_open : Open (answer s) → ⊥

due_open : (s : Listening) (d : ℕ) → s.due ≡ d → d < 5 → has_answered s ≡ false
unfolding has_answered
due_open s d e h = lt-leb 5 s.due (omega (arith, e))

known_of : (p : List ℕ) (s : Listening) → Stage p s → has_answered s ≡ true → Known p s
known_of p s (known a is not_open) h = record { is = is; not_open = not_open }
known_of p s (first_command e heard undecided none is) h = true_not_false h (due_open s 0 e (omega arith))
known_of p s (second_command e heard undecided none first is) h = true_not_false h (due_open s 1 e (omega arith))
known_of p s (first_reply e heard undecided none target is) h = true_not_false h (due_open s 2 e (omega arith))
known_of p s (second_reply e heard undecided target is) h = true_not_false h (due_open s 3 e (omega arith))
known_of p s (syn_is_due e heard empty is) h = true_not_false h (due_open s 4 e (omega arith))

now_answered : (s : Listening) → has_answered (answers s (heard s) run_ended (heard s)) ≡ true
unfolding has_answered
now_answered s = refl

now_answers : (s : Listening) → answer (answers s (heard s) run_ended (heard s)) ≡ rejected (at_place run_ended (heard s))
unfolding answer has_answered
now_answers s = refl

abbrev told : Listening → Outcome
told s =
    pick (eqb s.number 0)
    (accepted (kind_of (destination_of s.kept)) s.command_attempts s.reply_attempts s.start (kept_command s) (kept_first s) (kept_second s))
    (rejected (at_place s.number s.place))

answer_open : (s : Listening) → has_answered s ≡ false → answer s ≡ rejected (at_place run_ended (heard s))
unfolding answer
answer_open s h = ap (λ (t : Bool). pick t (told s) (rejected (at_place run_ended (heard s)))) h

-- a recording of which no more is read than is there
answer_is : (t : List ℕ) → length t ≤ limit → answer (listened fresh t).state ≡ exchange t
answer_is t short =
    let f = listened fresh t in
    let r = run_on t [] fresh fresh_stage in
    ⊎_elim
    (λ (h : has_answered f.state ≡ true).
    sym ((known_of (take f.used t) f.state r.stage h).is (drop f.used t)) ∙ ap exchange (take-append-drop f.used t))
    (λ (h : has_answered f.state ≡ false).
    let all = all_used t fresh h in
    let far : heard f.state ≡ length t = omega (arith, all.heard_all, short) in
    let whole : take f.used t ≡ t = ap (λ (n : ℕ). take n t) all.used ∙ take-length t in
    answer_open f.state h
    ∙ ap (λ (n : ℕ). rejected (at_place run_ended n)) far
    ∙ sym (open_exchange t f.state (subst (λ (x : List ℕ). Stage x f.state) whole r.stage) h))
    (true_or_false (has_answered f.state))

read_most : (recording : List ℕ) → length (take limit recording) ≤ limit
read_most recording = omega (arith, length-take limit recording)

decided_by : (recording : List ℕ) → DecidedBy recording (listened fresh (take limit recording)).used
decided_by recording =
    let t = take limit recording in
    let f = listened fresh t in
    let r = run_on t [] fresh fresh_stage in
    let most = read_most recording in
    record {
      within = r.within;
      before =
          λ m h.
          subst (λ (x : List ℕ). Open (exchange x)) (take-take m limit recording (omega (arith, r.within, h, most))) (r.before m h);
      then =
          λ short is_open.
          let same : take f.used t ≡ take f.used recording = take-take f.used limit recording (omega (arith, r.within, most)) in
          ⊎_elim
          (λ (h : has_answered f.state ≡ true).
          let k = known_of (take f.used t) f.state r.stage h in
          let now_is : exchange (take f.used recording) ≡ answer f.state = ap exchange (sym same ∙ sym (append-nil (take f.used t))) ∙ k.is [] in
          k.not_open (is_open.0, sym now_is ∙ is_open.1))
          (λ (h : has_answered f.state ≡ false). let all = all_used t fresh h in let g : ⊥ = omega (arith, all.used, short) in g)
          (true_or_false (has_answered f.state));
    }

-- whether the answer is known
known_there : (t : List ℕ) → length t ≤ limit → has_answered (listened fresh t).state ≡ true → Open (exchange t) → ⊥
known_there t short h is_open =
    let f = listened fresh t in
    let r = run_on t [] fresh fresh_stage in
    (known_of (take f.used t) f.state r.stage h).not_open (is_open.0, answer_is t short ∙ is_open.1)

open_there : (t : List ℕ) → length t ≤ limit → has_answered (listened fresh t).state ≡ false → Open (exchange t)
open_there t short h = (heard (listened fresh t).state, sym (answer_is t short) ∙ answer_open (listened fresh t).state h)

fed_fresh : (recording : List ℕ) → fed fresh recording ≡ listened fresh (take limit recording)
unfolding fed
fed_fresh recording = refl

-- ---- the statements

pub any_cuts : AnyCuts
unfolding closing judged
any_cuts runs =
    let recording = joined runs in
    let is : fed_all fresh runs ≡ listened fresh (take limit recording) = fed_joined runs fresh ∙ fed_fresh recording in
    record {
      answered =
          λ command first second.
          ap (λ (o : Outcome). pick (rooms command first second) o (rejected (at_place output_short 0)))
          (ap (λ (f : Fed). answer f.state) is ∙ answer_is (take limit recording) (read_most recording));
      used = subst (λ (f : Fed). DecidedBy recording f.used) (sym is) (decided_by recording);
      known = λ h. known_there (take limit recording) (read_most recording) (sym (ap (λ (f : Fed). has_answered f.state) is) ∙ h);
      not_known = λ h. open_there (take limit recording) (read_most recording) (sym (ap (λ (f : Fed). has_answered f.state) is) ∙ h);
    }

-- a state that is closed has answered, and says what it said
closed_answered : (s : Listening) → has_answered (closed s) ≡ true
unfolding closed
closed_answered s =
    ⊎_elim (λ (h : has_answered s ≡ true). ap (λ (t : Bool). has_answered (pick t s (answers s (heard s) run_ended (heard s)))) h ∙ h)
    (λ (h : has_answered s ≡ false). ap (λ (t : Bool). has_answered (pick t s (answers s (heard s) run_ended (heard s)))) h ∙ now_answered s)
    (true_or_false (has_answered s))

closed_answer : (s : Listening) → answer (closed s) ≡ answer s
unfolding closed
closed_answer s =
    ⊎_elim (λ (h : has_answered s ≡ true). ap (λ (t : Bool). answer (pick t s (answers s (heard s) run_ended (heard s)))) h)
    (λ (h : has_answered s ≡ false). ap (λ (t : Bool). answer (pick t s (answers s (heard s) run_ended (heard s)))) h ∙ now_answers s ∙ sym (answer_open s h))
    (true_or_false (has_answered s))

closing_answer : (s : Listening) (command first second : ℕ) → rooms command first second ≡ true → answer (closing_state s command first second) ≡ answer s
unfolding closing_state
closing_answer s command first second h = ap (λ (t : Bool). answer (pick t (closed s) s)) h ∙ closed_answer s

pub closed_stays : ClosedStays
unfolding closing closing_state
closed_stays s =
    record {
      with_room = λ command first second h. ap (λ (t : Bool). has_answered (pick t (closed s) s)) h ∙ closed_answered s;
      again =
          λ command first second h command' first' second'.
          ap (λ (o : Outcome). pick (rooms command' first' second') o (rejected (at_place output_short 0))) (closing_answer s command first second h);
      without = λ command first second h. ap (λ (t : Bool). pick t (closed s) s) h;
    }

-- ---- feeding and closing in any order

closing_answered : (s : Listening) (command first second : ℕ) → has_answered s ≡ true → closing_state s command first second ≡ s
unfolding closing_state closed
closing_answered s command first second h =
    let end = answers s (heard s) run_ended (heard s) in
    ap (λ (x : Listening). pick (rooms command first second) x s) (ap (λ (t : Bool). pick t s end) h) ∙ pick_same (rooms command first second) s
  where
    pick_same : (t : Bool) (x : Listening) → pick t x x ≡ x
    pick_same true x = refl
    pick_same false x = refl

answered_after : (calls : List Call) (s : Listening) → has_answered s ≡ true → state_after s calls ≡ s
unfolding state_after
answered_after [] s h = refl
answered_after (feeds run ∷ calls) s h = ap (λ (f : Fed). state_after f.state calls) (answered_stays s run h) ∙ answered_after calls s h
answered_after (closes command first second ∷ calls) s h = ap (λ (x : Listening). state_after x calls) (closing_answered s command first second h) ∙ answered_after calls s h

-- a closing with room is the end of the recording, and one without changes nothing
after_closing : (s : Listening) (command first second : ℕ) (calls : List Call)
    → answer (state_after s calls) ≡ answer (fed s (recorded calls)).state
    → answer (state_after (closing_state s command first second) calls) ≡ answer (fed s (pick (rooms command first second) [] (recorded calls))).state
after_closing s command first second calls then =
    ⊎_elim
    (λ (h : rooms command first second ≡ true).
    let c = closing_state s command first second in
    let done = (closed_stays s).with_room command first second h in
    ap answer (answered_after calls c done)
    ∙ closing_answer s command first second h
    ∙ sym (ap (λ (f : Fed). answer f.state) (none_fed s))
    ∙ ap (λ (t : Bool). answer (fed s (pick t [] (recorded calls))).state) (sym h))
    (λ (h : rooms command first second ≡ false).
    ap (λ (x : Listening). answer (state_after x calls)) ((closed_stays s).without command first second h)
    ∙ then
    ∙ ap (λ (t : Bool). answer (fed s (pick t [] (recorded calls))).state) (sym h))
    (true_or_false (rooms command first second))

after_calls : (calls : List Call) (s : Listening) → answer (state_after s calls) ≡ answer (fed s (recorded calls)).state
unfolding state_after recorded
after_calls [] s = sym (ap (λ (f : Fed). answer f.state) (none_fed s))
after_calls (feeds run ∷ calls) s =
    after_calls calls (fed s run).state ∙ sym (ap (λ (f : Fed). answer f.state) (fed_append s run (recorded calls)))
after_calls (closes command first second ∷ calls) s = after_closing s command first second calls (after_calls calls s)

pub any_calls : AnyCalls
unfolding closing judged
any_calls calls command first second =
    let recording = recorded calls in
    ap (λ (o : Outcome). pick (rooms command first second) o (rejected (at_place output_short 0)))
    (after_calls calls fresh ∙ ap (λ (f : Fed). answer f.state) (fed_fresh recording) ∙ answer_is (take limit recording) (read_most recording))
