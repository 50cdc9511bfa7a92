-- Where a recording is cut does not matter: feeding one run and then another is feeding both at once, from any state.
-- Assumes nothing.
use mathlib.Core.Path.{◌≡◌, refl, sym, ap, ◌∙◌, subst}
use mathlib.Core.Bool.{Bool, true, false}
use mathlib.Core.List.{List, [], ◌∷◌, ◌++◌, append-nil}
use mathlib.Core.Logic.{⊎_elim}
use Prim.Native.Nat.{ℕ, ◌+◌, ◌-◌, ◌≤◌, ◌<◌}
use native.Mathlib.Omega.{arith}
use lib.Dec.{eqb, ltb}
use lib.ListN.{length, take, length-append, length-take}
use lib.Seq.{take_all, take-nil, take-append-le, take-append-add}
use Rattle.lists.specs.Choice.{pick}
use Rattle.lists.proofs.Cases.{pick_cases, true_or_false, true_not_false, le_or_lt}
use Rattle.refusal.specs.Number.{run_ended}
use Rattle.escapes.specs.Escape.{syn}
use Rattle.attempts.specs.Attempt.{Attempt, taken, nacked, failed, attempt_at}
use Rattle.exchange.specs.Exchange.{limit}
use Rattle.listening.specs.declared.Listening.{Listening}
use Rattle.listening.specs.declared.Fed.{Fed}
use Rattle.listening.specs.Listening.{first_command, first_reply, syn_due, in_hand, heard, has_answered, is_command, on_taken, on_nacked, on_attempt, restarts, hear, after, listened, fed}
use Rattle.listening.proofs.Undecided.{in_hand_now_lem}
use Rattle.cuts.specs.Cuts.{joined, fed_all, AnyTwoCuts, AnsweredStays}

-- ---- how many bytes a state was made from

abbrev pub heard_of : Listening → ℕ
heard_of s = s.start + length (in_hand s)

module _ (s : Listening) where
  abbrev OneMore : ℕ → Listening → Type 0
  OneMore n t = heard_of t ≡ s.start + n

  taken_more : (n : ℕ) (t : List ℕ) → OneMore n (on_taken s n t)
  unfolding on_taken
  taken_more n t =
      pick_cases (OneMore n) (is_command s) _ _ (λ _. omega arith) (λ _. pick_cases (OneMore n) (eqb s.due first_reply) _ _ (λ _. omega arith) (λ _. omega arith))

  nacked_more : (n : ℕ) (t : List ℕ) (place : ℕ) → OneMore n (on_nacked s n t place)
  unfolding on_nacked
  nacked_more n t place =
      pick_cases (OneMore n) (eqb s.due first_command) _ _ (λ _. omega arith) (λ _. pick_cases (OneMore n) (eqb s.due first_reply) _ _ (λ _. omega arith) (λ _. omega arith))

  attempt_more : (c : List ℕ) (a : Attempt) → OneMore (length c) (on_attempt s c a)
  attempt_more c (taken t next) = taken_more (length c) t
  attempt_more c (nacked t place) = nacked_more (length c) t place
  attempt_more c (failed why) = pick_cases (OneMore (length c)) (eqb why.number run_ended) _ _ (λ _. omega (arith, ap length (in_hand_now_lem s c))) (λ _. omega arith)

  pub hear_more : (b : ℕ) → heard_of (hear s b) ≡ heard_of s + 1
  unfolding hear
  hear_more b =
      let c = in_hand s ++ b ∷ [] in
      let P : Listening → Type 0 = λ t. heard_of t ≡ heard_of s + 1 in
      let one = length-append (in_hand s) (b ∷ []) in
      pick_cases P (restarts s c) _ _ (λ _. omega (arith, one))
      (λ _.
      pick_cases P (ltb s.due syn_due) _ _ (λ _. omega (arith, attempt_more c (attempt_at (is_command s) c 0), one))
      (λ _. pick_cases P (eqb b syn) _ _ (λ _. omega arith) (λ _. omega arith)))

-- ---- bytes one after the other

pub answered_listens : (s : Listening) (bytes : List ℕ) → has_answered s ≡ true → listened s bytes ≡ record { state = s; used = 0 }
unfolding listened
answered_listens s [] a = refl
answered_listens s (b ∷ bs) a = ap (λ (t : Bool). pick t (record { state = s; used = 0 }) (after 1 (listened (hear s b) bs))) a

pub open_listens : (s : Listening) (b : ℕ) (bs : List ℕ) → has_answered s ≡ false → listened s (b ∷ bs) ≡ after 1 (listened (hear s b) bs)
unfolding listened
open_listens s b bs o = ap (λ (t : Bool). pick t (record { state = s; used = 0 }) (after 1 (listened (hear s b) bs))) o

pub none_listens : (s : Listening) → listened s [] ≡ record { state = s; used = 0 }
unfolding listened
none_listens s = refl

-- the same with so many used before
after_none : (f : Fed) → f ≡ after 0 f
after_none f = ap (λ (n : ℕ). record { state = f.state; used = n }) (let e : f.used ≡ 0 + f.used = omega arith in e)

after_after : (m n : ℕ) (f : Fed) → after m (after n f) ≡ after (m + n) f
after_after m n f = ap (λ (k : ℕ). record { state = f.state; used = k }) (let e : m + (n + f.used) ≡ m + n + f.used = omega arith in e)

listened_append : (a b : List ℕ) (s : Listening) → listened s (a ++ b) ≡ after (listened s a).used (listened (listened s a).state b)
listened_append [] b s = after_none (listened s b) ∙ ap (λ (f : Fed). after f.used (listened f.state b)) (sym (none_listens s))
listened_append (x ∷ a) b s =
    ⊎_elim
    (λ (h : has_answered s ≡ true).
    answered_listens s (x ∷ a ++ b) h
    ∙ after_none (record { state = s; used = 0 })
    ∙ ap (after 0) (sym (answered_listens s b h))
    ∙ ap (λ (f : Fed). after f.used (listened f.state b)) (sym (answered_listens s (x ∷ a) h)))
    (λ (h : has_answered s ≡ false).
    let f = listened (hear s x) a in
    open_listens s x (a ++ b) h
    ∙ ap (after 1) (listened_append a b (hear s x))
    ∙ after_after 1 f.used (listened f.state b)
    ∙ ap (λ (g : Fed). after g.used (listened g.state b)) (sym (open_listens s x a h)))
    (true_or_false (has_answered s))

-- a state that has not answered used them all
pub record AllUsed (s : Listening) (bytes : List ℕ) (f : Fed) : Type 0 where
  pub used : f.used ≡ length bytes
  pub heard_all : heard_of f.state ≡ heard_of s + length bytes

pub all_used : (bytes : List ℕ) (s : Listening) → has_answered (listened s bytes).state ≡ false → AllUsed s bytes (listened s bytes)
all_used [] s o = subst (AllUsed s []) (sym (none_listens s)) (record { used = refl; heard_all = omega arith })
all_used (x ∷ bs) s o =
    ⊎_elim (λ (h : has_answered s ≡ true). true_not_false (ap (λ (f : Fed). has_answered f.state) (answered_listens s (x ∷ bs) h) ∙ h) o)
    (λ (h : has_answered s ≡ false).
    let is = open_listens s x bs h in
    let rest = all_used bs (hear s x) (sym (ap (λ (f : Fed). has_answered f.state) is) ∙ o) in
    subst (AllUsed s (x ∷ bs)) (sym is) (record { used = omega (arith, rest.used); heard_all = omega (arith, rest.heard_all, hear_more s x) }))
    (true_or_false (has_answered s))

-- ---- runs

take_both : (k : ℕ) (a b : List ℕ) → take k (a ++ b) ≡ take k a ++ take (k - length a) b
take_both k a b =
    ⊎_elim
    (λ (h : k ≤ length a).
    let none : k - length a ≡ 0 = omega arith in
    take-append-le k a b h ∙ sym (append-nil (take k a)) ∙ ap (λ (n : ℕ). take k a ++ take n b) (sym none))
    (λ (h : length a < k).
    let more : length a + (k - length a) ≡ k = omega arith in
    ap (λ (n : ℕ). take n (a ++ b)) (sym more) ∙ take-append-add a b (k - length a) ∙ ap (λ (l : List ℕ). l ++ take (k - length a) b) (sym (take_all k a (omega arith))))
    (le_or_lt k (length a))

-- the bytes that are left to read behind a run
left : (s : Listening) (a b : List ℕ) (f : Fed) → f ≡ listened s (take (limit - heard s) a) → listened f.state (take (limit - heard s - length a) b) ≡ fed f.state b
unfolding fed
left s a b f is =
    let k = limit - heard s in
    ⊎_elim
    (λ (h : has_answered f.state ≡ true). answered_listens f.state (take (k - length a) b) h ∙ sym (answered_listens f.state (take (limit - heard f.state) b) h))
    (λ (h : has_answered f.state ≡ false).
    let u = all_used (take k a) s (sym (ap (λ (g : Fed). has_answered g.state) is) ∙ h) in
    let far : heard_of f.state ≡ heard_of s + length (take k a) = ap (λ (g : Fed). heard_of g.state) is ∙ u.heard_all in
    let n : k - length a ≡ limit - heard f.state = omega (arith, far, length-take k a) in
    ap (λ (n : ℕ). listened f.state (take n b)) n)
    (true_or_false (has_answered f.state))

pub fed_append : (s : Listening) (a b : List ℕ) → fed s (a ++ b) ≡ after (fed s a).used (fed (fed s a).state b)
unfolding fed
fed_append s a b =
    let k = limit - heard s in
    let f = listened s (take k a) in
    ap (listened s) (take_both k a b) ∙ listened_append (take k a) (take (k - length a) b) s ∙ ap (after f.used) (left s a b f refl)

pub none_fed : (s : Listening) → fed s [] ≡ record { state = s; used = 0 }
unfolding fed
none_fed s = ap (listened s) (take-nil (limit - heard s)) ∙ none_listens s

pub fed_joined : (runs : List (List ℕ)) (s : Listening) → fed_all s runs ≡ fed s (joined runs)
unfolding fed_all joined
fed_joined [] s = sym (none_fed s)
fed_joined (run ∷ runs) s = ap (after (fed s run).used) (fed_joined runs (fed s run).state) ∙ sym (fed_append s run (joined runs))

pub any_two_cuts : AnyTwoCuts
any_two_cuts s runs runs' e = fed_joined runs s ∙ ap (fed s) e ∙ sym (fed_joined runs' s)

pub answered_stays : AnsweredStays
unfolding fed
answered_stays s run a = answered_listens s (take (limit - heard s) run) a
