-- Bytes that are looked at at once, and one by one: an attempt on all the bytes that are there makes of a state what they
-- make of it one after the other.
-- Assumes nothing.
use mathlib.Core.Path.{◌≡◌, refl, sym, ap, ◌∙◌, subst}
use mathlib.Core.Bool.{Bool, true, false}
use mathlib.Core.List.{List, [], ◌∷◌, ◌++◌, append_assoc, append-nil}
use mathlib.Core.Logic.{⊎_elim}
use Prim.Native.Nat.{ℕ, suc, ◌+◌, ◌-◌, ◌≤◌, ◌<◌, max}
use native.Mathlib.Omega.{arith}
use lib.Dec.{ltb}
use lib.ListN.{length, drop, length-append}
use borrow.Author.Tests.{ltb-true, lt-leb, ne_eqb}
use Rattle.lists.specs.Choice.{pick}
use Rattle.refusal.specs.Number.{run_ended}
use Rattle.escapes.specs.Logical.{run_over}
use Rattle.beginning.specs.Beginning.{piece}
use Rattle.beginning.proofs.Pieces.{shorter_most}
use Rattle.attempts.specs.Attempt.{Attempt, taken, nacked, failed, attempt_at}
use Rattle.attempts.specs.Looks.{looked_at}
use Rattle.attempts.proofs.LongerRun.{OtherAttempt, attempt_stays}
use Rattle.listening.specs.declared.Listening.{Listening}
use Rattle.listening.specs.declared.Fed.{Fed}
use Rattle.listening.specs.Listening.{first_command, syn_due, in_hand, has_answered, in_hand_now, goes_on, refuses, is_command, on_taken, on_nacked, on_attempt, on_syn, restarts, hear, after, listened}
use Rattle.listening.proofs.Undecided.{in_hand_now_lem, ended_looks, near}
use Rattle.listening.proofs.Restart.{restarts_not}
use Rattle.feeding.specs.Inner.{step_by, step_on}

-- ---- a byte, of a state that has not answered

-- what an attempt's bytes make of a state
abbrev pub heard_with : Listening → List ℕ → Listening
heard_with s c = pick (restarts s c) (goes_on s (s.start + length c) first_command) (on_attempt s c (attempt_at (is_command s) c 0))

-- no SYN among these bytes throws away those in hand
abbrev pub NoRestart : Listening → List ℕ → List ℕ → Type 0
NoRestart s hand run = s.due ≡ first_command → piece (hand ++ run) ≤ length hand

module _ (s : Listening) (tries : ltb s.due syn_due ≡ true) where
  not_answered : has_answered s ≡ false
  unfolding has_answered
  not_answered = lt-leb 5 s.due (omega (arith, ltb-true s.due syn_due tries))

  pub first_byte : (b : ℕ) (rest : List ℕ) → listened s (b ∷ rest) ≡ after 1 (listened (hear s b) rest)
  unfolding listened
  first_byte b rest = ap (λ (t : Bool). pick t (record { state = s; used = 0 }) (after 1 (listened (hear s b) rest))) not_answered

  pub hears : (b : ℕ) → hear s b ≡ heard_with s (in_hand s ++ b ∷ [])
  unfolding hear
  hears b =
      let c = in_hand s ++ b ∷ [] in
      ap (λ (t : Bool). pick (restarts s c) (goes_on s (s.start + length c) first_command) (pick t (on_attempt s c (attempt_at (is_command s) c 0)) (on_syn s b))) tries

-- what is in hand does not matter for what an attempt makes of a state
pub same_step : (s : Listening) (hand c : List ℕ) (n : ℕ) (a : Attempt) → step_by (in_hand_now s hand) c n a ≡ step_by s c n a
unfolding on_taken on_nacked
same_step s hand c n (taken t next) = refl
same_step s hand c n (nacked t place) = refl
same_step s hand c n (failed why) = refl

-- a decided one
decided_step : (s : Listening) (c c₁ : List ℕ) (n : ℕ) → n ≡ length c₁ → (a : Attempt) → OtherAttempt a → step_by s c n a ≡ record { state = on_attempt s c₁ a; used = n }
decided_step s c c₁ n e (taken t next) o = ap (λ (k : ℕ). record { state = on_taken s k t; used = n }) e
decided_step s c c₁ n e (nacked t place) o = ap (λ (k : ℕ). record { state = on_nacked s k t place; used = n }) e
decided_step s c c₁ n e (failed why) o =
    let other = ne_eqb why.number run_ended o in
    ap (λ (t : Bool). pick t (record { state = in_hand_now s c; used = length c }) (record { state = refuses s n why; used = n })) other
    ∙ ap (λ (k : ℕ). record { state = refuses s k why; used = n }) e
    ∙ sym (ap (λ (t : Bool). record { state = pick t (in_hand_now s c₁) (refuses s (length c₁) why); used = n }) other)

-- ---- all of them

-- a state and these bytes come to the same as that many bytes before what is left of them
pub record Comes (s : Listening) (f : Fed) (hand run rest : List ℕ) : Type 0 where
  pub some : length hand < f.used
  pub within : f.used ≤ length (hand ++ run)
  pub same : listened s (run ++ rest) ≡ after (f.used - length hand) (listened f.state (drop (f.used - length hand) run ++ rest))

-- a byte that is in hand now comes before
comes_later : (s s₁ : Listening) (f : Fed) (hand c : List ℕ) (b b' : ℕ) (r rest : List ℕ)
    → listened s (b ∷ b' ∷ r ++ rest) ≡ after 1 (listened s₁ (b' ∷ r ++ rest))
    → length c ≡ length hand + 1 → length (c ++ b' ∷ r) ≡ length (hand ++ b ∷ b' ∷ r)
    → Comes s₁ f c (b' ∷ r) rest → Comes s f hand (b ∷ b' ∷ r) rest
comes_later s s₁ f hand c b b' r rest first one all on =
    let j = f.used - length c in
    let x = listened f.state (drop j (b' ∷ r) ++ rest) in
    let sum : 1 + (j + x.used) ≡ suc j + x.used = omega arith in
    let more : suc j ≡ f.used - length hand = omega (arith, on.some) in
    record {
      some = omega (arith, on.some);
      within = omega (arith, on.within);
      same =
          first ∙ ap (after 1) on.same
          ∙ ap (λ (m : ℕ). record { state = x.state; used = m }) sum
          ∙ ap (λ (i : ℕ). after i (listened f.state (drop i (b ∷ b' ∷ r) ++ rest))) more;
    }

module _ (s : Listening) (tries : ltb s.due syn_due ≡ true) (hand : List ℕ) (is : in_hand s ≡ hand) (b : ℕ) (no_restart : NoRestart s hand (b ∷ [])) where
  one_more : length (hand ++ b ∷ []) ≡ length hand + 1
  one_more = length-append hand (b ∷ [])

  heard_one : hear s b ≡ on_attempt s (hand ++ b ∷ []) (attempt_at (is_command s) (hand ++ b ∷ []) 0)
  heard_one =
      let c = hand ++ b ∷ [] in
      let on = on_attempt s c (attempt_at (is_command s) c 0) in
      hears s tries b
      ∙ ap (λ (h : List ℕ). heard_with s (h ++ b ∷ [])) is
      ∙ ap (λ (t : Bool). pick t (goes_on s (s.start + length c) first_command) on)
      (restarts_not s c (λ first whole. let f : ⊥ = omega (arith, no_restart first, whole, one_more) in f))

  -- the byte decides
  decided : (r rest : List ℕ) → attempt_at (is_command s) (hand ++ b ∷ r) 0 ≡ attempt_at (is_command s) (hand ++ b ∷ []) 0
      → OtherAttempt (attempt_at (is_command s) (hand ++ b ∷ []) 0) → looked_at (is_command s) (hand ++ b ∷ r) 0 ≤ length (hand ++ b ∷ [])
      → Comes s (step_on s (hand ++ b ∷ r) (length hand + 1)) hand (b ∷ r) rest
  decided r rest same other near =
      let k = looked_at (is_command s) (hand ++ b ∷ r) 0 in
      let n : max (length hand + 1) k ≡ length hand + 1 = omega (arith, one_more) in
      let step : step_on s (hand ++ b ∷ r) (length hand + 1) ≡ record { state = hear s b; used = length hand + 1 } =
      ap (step_by s (hand ++ b ∷ r) (max (length hand + 1) k)) same
      ∙ ap (λ (m : ℕ). step_by s (hand ++ b ∷ r) m (attempt_at (is_command s) (hand ++ b ∷ []) 0)) n
      ∙ decided_step s (hand ++ b ∷ r) (hand ++ b ∷ []) (length hand + 1) (sym one_more) (attempt_at (is_command s) (hand ++ b ∷ []) 0) other
      ∙ ap (λ (x : Listening). record { state = x; used = length hand + 1 }) (sym heard_one) in
      let one : length hand + 1 - length hand ≡ 1 = omega arith in
      subst (λ (f : Fed). Comes s f hand (b ∷ r) rest) (sym step)
      (record {
        some = omega arith;
        within = omega (arith, length-append hand (b ∷ r));
        same =
            first_byte s tries b (r ++ rest)
            ∙ ap (λ (j : ℕ). after j (listened (hear s b) (drop j (b ∷ r) ++ rest))) (sym one);
      })

  -- it does not: it is in hand now
  undecided : attempt_at (is_command s) (hand ++ b ∷ []) 0 ≡ failed (run_over (hand ++ b ∷ [])) → hear s b ≡ in_hand_now s (hand ++ b ∷ [])
  undecided e = heard_one ∙ ap (on_attempt s (hand ++ b ∷ [])) e

  last_one : (rest : List ℕ) → attempt_at (is_command s) (hand ++ b ∷ []) 0 ≡ failed (run_over (hand ++ b ∷ [])) → Comes s (step_on s (hand ++ b ∷ []) (length hand + 1)) hand (b ∷ []) rest
  last_one rest e =
      let k = looked_at (is_command s) (hand ++ b ∷ []) 0 in
      let step : step_on s (hand ++ b ∷ []) (length hand + 1) ≡ record { state = hear s b; used = length hand + 1 } =
      ap (step_by s (hand ++ b ∷ []) (max (length hand + 1) k)) e
      ∙ ap (λ (m : ℕ). record { state = in_hand_now s (hand ++ b ∷ []); used = m }) one_more
      ∙ ap (λ (x : Listening). record { state = x; used = length hand + 1 }) (sym (undecided e)) in
      let one : length hand + 1 - length hand ≡ 1 = omega arith in
      subst (λ (f : Fed). Comes s f hand (b ∷ []) rest) (sym step)
      (record {
        some = omega arith;
        within = omega (arith, one_more);
        same = first_byte s tries b rest ∙ ap (λ (j : ℕ). after j (listened (hear s b) (drop j (b ∷ []) ++ rest))) (sym one);
      })

  -- .. and the others come behind it
  one_by_one : (b' : ℕ) (r rest : List ℕ) → attempt_at (is_command s) (hand ++ b ∷ []) 0 ≡ failed (run_over (hand ++ b ∷ []))
      → Comes (in_hand_now s (hand ++ b ∷ [])) (step_on (in_hand_now s (hand ++ b ∷ [])) ((hand ++ b ∷ []) ++ b' ∷ r) (length (hand ++ b ∷ []) + 1)) (hand ++ b ∷ []) (b' ∷ r) rest
      → Comes s (step_on s (hand ++ b ∷ b' ∷ r) (length hand + 1)) hand (b ∷ b' ∷ r) rest
  one_by_one b' r rest e then =
      let c₁ = hand ++ b ∷ [] in
      let s₁ = in_hand_now s c₁ in
      let c = c₁ ++ b' ∷ r in
      let command = is_command s in
      let far = ended_looks command c₁ b' r e in
      let all : c ≡ hand ++ b ∷ b' ∷ r = append_assoc hand (b ∷ []) (b' ∷ r) in
      let least : max (length c₁ + 1) (looked_at command c 0) ≡ max (length hand + 1) (looked_at command c 0) = omega (arith, far, one_more) in
      let f = step_on s (hand ++ b ∷ b' ∷ r) (length hand + 1) in
      let step : step_on s₁ c (length c₁ + 1) ≡ f =
      same_step s c₁ c (max (length c₁ + 1) (looked_at command c 0)) (attempt_at command c 0)
      ∙ ap (λ (n : ℕ). step_by s c n (attempt_at command c 0)) least
      ∙ ap (λ (x : List ℕ). step_on s x (length hand + 1)) all in
      let first : listened s (b ∷ b' ∷ r ++ rest) ≡ after 1 (listened s₁ (b' ∷ r ++ rest)) =
      first_byte s tries b (b' ∷ r ++ rest) ∙ ap (λ (y : Listening). after 1 (listened y (b' ∷ r ++ rest))) (undecided e) in
      comes_later s s₁ f hand c₁ b b' r rest first one_more (ap length all) (subst (λ (g : Fed). Comes s₁ g c₁ (b' ∷ r) rest) step then)

-- "an attempt on all the bytes that are there makes of a state what they make of it one after the other"
pub at_once : (r : List ℕ) (s : Listening) (tries : ltb s.due syn_due ≡ true) (hand : List ℕ) (is : in_hand s ≡ hand) (b : ℕ) (rest : List ℕ) → NoRestart s hand (b ∷ r)
    → Comes s (step_on s (hand ++ b ∷ r) (length hand + 1)) hand (b ∷ r) rest
at_once [] s tries hand is b rest no_restart =
    let command = is_command s in
    let c = hand ++ b ∷ [] in
    ⊎_elim (λ (h : attempt_at command c 0 ≡ failed (run_over c)). last_one s tries hand is b no_restart rest h)
    (λ (h : (attempt_at command (c ++ []) 0 ≡ attempt_at command c 0) × OtherAttempt (attempt_at command c 0)).
    decided s tries hand is b no_restart [] rest refl h.1 (subst (λ (x : List ℕ). looked_at command x 0 ≤ length c) (append-nil c) (near command c [] h.1)))
    (attempt_stays c [] command 0)
at_once (b' ∷ r) s tries hand is b rest no_restart =
    let command = is_command s in
    let c = hand ++ b ∷ [] in
    let all : c ++ b' ∷ r ≡ hand ++ b ∷ b' ∷ r = append_assoc hand (b ∷ []) (b' ∷ r) in
    let whole : s.due ≡ first_command → piece (c ++ b' ∷ r) ≤ length hand = λ first. subst (λ (l : List ℕ). piece l ≤ length hand) (sym all) (no_restart first) in
    let first_one : NoRestart s hand (b ∷ []) = λ first. shorter_most c (b' ∷ r) (length hand) (whole first) in
    let then_on : NoRestart (in_hand_now s c) c (b' ∷ r) = λ first. omega (arith, whole first, length-append hand (b ∷ [])) in
    ⊎_elim
    (λ (h : attempt_at command c 0 ≡ failed (run_over c)).
    one_by_one s tries hand is b first_one b' r rest h (at_once r (in_hand_now s c) tries c (in_hand_now_lem s c) b' rest then_on))
    (λ (h : (attempt_at command (c ++ b' ∷ r) 0 ≡ attempt_at command c 0) × OtherAttempt (attempt_at command c 0)).
    decided s tries hand is b first_one (b' ∷ r) rest (ap (λ (x : List ℕ). attempt_at command x 0) (sym all) ∙ h.0) h.1
    (subst (λ (x : List ℕ). looked_at command x 0 ≤ length c) all (near command c (b' ∷ r) h.1)))
    (attempt_stays c (b' ∷ r) command 0)
