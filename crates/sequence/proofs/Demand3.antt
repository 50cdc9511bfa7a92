-- Demand 3, proved: what holds between requests is carried over any list of calls, and each line of the statement is read
-- off it.
-- Assumes nothing.
use Rattle.std.specs.Prelude.{Some, None, Result, Ok}
use Rattle.refusal.specs.declared.Refusal.{Refusal}
use mathlib.Core.Path.{◌≡◌, refl, ap, ◌∙◌, sym, subst}
use mathlib.Core.Bool.{true}
use mathlib.Core.List.{List, [], ◌∷◌, ◌++◌}
use Prim.Native.Nat.{ℕ, ◌<◌}
use native.Mathlib.Omega.{arith}
use lib.ListN.{length, get_or}
use Rattle.requests.specs.declared.Request.{Request}
use Rattle.table.specs.Table.{Table, devices, valid}
use Rattle.turns.specs.Request.{Turn, standing, respond}
use Rattle.devices.specs.Calls.{Answering, answer_bytes, response_to, answering, ask_call}
use Rattle.turns.specs.Rank.{rank}
use Rattle.turns.specs.declared.Answer.{Answer}
use Rattle.table.proofs.Meaning.{tested}
use Rattle.turns.proofs.TurnCases.{by_contest}
use Rattle.turns.proofs.TurnKeeps.{standing_devices}
use Rattle.sequence.specs.Calls.{Call, ask, after, history, Linked, counted, since_start, named, refusal_due}
use Rattle.sequence.specs.Sequence.{serial_at, Contested, AskDue, Holds, Demand3}
use Rattle.sequence.proofs.Ranks.{rank_below, rank_same, rank_serial}
use Rattle.sequence.proofs.MarksInOrder.{marks_are}
use Rattle.sequence.proofs.TurnsDue.{Goes, goes_on, reached, next_due, turn_due}
use Rattle.sequence.proofs.OneRemains.{contested}
use Rattle.sequence.proofs.CallTurns.{rules_hold}
use Rattle.sequence.proofs.CallRefusals.{refusals_due, refused_unchanged, ask_answers}
use Rattle.sequence.proofs.WholeScans.{scan_is}

-- somebody always answers
not_silent : (request : Request) (t : Table) → 0 < devices t → response_to (respond request t).answer ≡ Some (length (answer_bytes (respond request t).answer))
unfolding respond
not_silent request t somebody =
    by_contest (λ (a : Answer). response_to a ≡ Some (length (answer_bytes a))) (standing request t)
    (λ none. let z : ⊥ = omega (arith, standing_devices request t) in absurd z) (λ s e. refl) (λ s e. refl)

module _ (t : Table) (v : valid t ≡ true) (somebody : 0 < devices t) (calls : List Call) where
  -- the claim at the start of the calls, and after them
  at_first : Goes t 0 t []
  at_first =
      record {
        columns_stay = refl;
        right = v;
        ordered = λ h. let z : ⊥ = omega arith in absurd z;
        names = λ h. let z : ⊥ = omega arith in absurd z;
      }

  goes : Goes t (since_start 0 (history calls t)) (after calls t) (named [] (history calls t))
  goes = goes_on t v somebody (history calls t) 0 t (after calls t) [] (rules_hold calls t) at_first

  same_devices : devices (after calls t) ≡ devices t
  same_devices = ap devices goes.columns_stay

  answers_hold : (read : Result Request Refusal) (request : Request) (buffer : List ℕ) → read ≡ Ok request → refusal_due (devices t) (ask read buffer) ≡ None
      → AskDue (after calls t) (counted (since_start 0 (history calls t)) request) request buffer (ask_call read buffer (after calls t))
  unfolding answering
  answers_hold read request buffer asks due =
      let is = ask_answers read request buffer (after calls t) goes.right asks due in
      record {
        made = ap (λ (a : Answering). a.turns) is;
        holds = ap (λ (a : Answering). a.buffer) is;
        answered = ap (λ (a : Answering). a.response) is ∙ ap Ok (not_silent request (after calls t) (omega (arith, same_devices)));
        due = next_due t v somebody (since_start 0 (history calls t)) (after calls t) (named [] (history calls t)) request goes;
      }

  -- one turn of the history
  module _ (earlier later : List Turn) (turn : Turn) (same : history calls t ≡ earlier ++ turn ∷ later) where
    there : Goes t (since_start 0 earlier) turn.met (named [] earlier) × (turn ≡ respond turn.request turn.met)
    there = reached t v somebody earlier later turn 0 t (after calls t) [] (subst (λ (turns : List Turn). Linked t turns (after calls t)) same (rules_hold calls t)) at_first

    its_contest : Contested (standing turn.request turn.met) turn.answer
    its_contest =
        subst (λ (u : Turn). Contested (standing turn.request turn.met) u.answer) (sym there.1)
        (contested turn.request turn.met there.0.right (omega (arith, ap devices there.0.columns_stay)))

  -- the names
  each_name : 0 < since_start 0 (history calls t) → (i : ℕ) → i < devices t → rank t i < since_start 0 (history calls t)
      → get_or (named [] (history calls t)) (rank t i) 0 ≡ serial_at t i
  each_name counting i h less =
      let n = goes.names counting in
      let inside : rank t i < length (named [] (history calls t)) = omega (arith, n.many, rank_below t i h) in
      let there = n.each (rank t i) inside in
      there.3 ∙ ap (serial_at t) (rank_same t (tested t v) there.0 i there.1 h there.2)

  names_rise : 0 < since_start 0 (history calls t) → (j k : ℕ) → j < k → k < length (named [] (history calls t))
      → get_or (named [] (history calls t)) j 0 < get_or (named [] (history calls t)) k 0
  names_rise counting j k less h =
      let n = goes.names counting in
      let inside : j < length (named [] (history calls t)) = omega arith in
      let low = n.each j inside in
      let high = n.each k h in
      let ranks : rank t low.0 < rank t high.0 = omega (arith, low.2, high.2) in
      omega (arith, low.3, high.3, rank_serial t low.0 high.0 ranks)

  holds : Holds t (after calls t) (history calls t) (since_start 0 (history calls t))
  holds =
      record {
        serials_stay = ap (λ (x : Table). x.serials) goes.columns_stay;
        addresses_stay = ap (λ (x : Table). x.addresses) goes.columns_stay;
        stays_valid = goes.right;
        rules = rules_hold calls t;
        met_stays = λ earlier later turn same. (there earlier later turn same).0.columns_stay;
        refusals = λ call. refusals_due call (after calls t) goes.right ∙ ap (λ (n : ℕ). refusal_due n call) same_devices;
        unchanged = λ call why due. refused_unchanged call (after calls t) goes.right why (ap (λ (n : ℕ). refusal_due n call) same_devices ∙ due);
        answers = answers_hold;
        scans = λ cap serials addresses due. scan_is t v somebody cap serials addresses (after calls t) goes.columns_stay goes.right due;
        history_due = λ earlier later turn same.
            let at = there earlier later turn same in
            turn_due t v somebody earlier turn 0 (named [] earlier) at.0 at.1;
        contests = its_contest;
        marks = λ counting i h.
            marks_are t (since_start 0 (history calls t)) (after calls t).marks (subst (λ (x : Table). valid x ≡ true) goes.columns_stay goes.right) somebody (goes.ordered counting) counting i h;
        names = λ counting. (goes.names counting).many;
        each_named = each_name;
        rising = names_rise;
        ranked = rank_below t;
      }

pub demand3 : Demand3
demand3 t v somebody calls = holds t v somebody calls
