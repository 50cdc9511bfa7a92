-- A turn of listening: one decision, or all the bytes of a run in hand.
-- Assumes nothing.
use mathlib.Core.Path.{◌≡◌, refl, sym, ap, ◌∙◌, subst}
use mathlib.Core.Bool.{Bool, false}
use mathlib.Core.List.{List, [], ◌∷◌, ◌++◌, append_assoc}
use mathlib.Core.Logic.{⊎_elim}
use Prim.Native.Nat.{ℕ, ◌+◌, ◌-◌, ◌≤◌, ◌<◌, min, max}
use native.Mathlib.Omega.{arith}
use lib.Dec.{eqb, ltb}
use lib.ListN.{length, get_or, take, drop, length-append, length-take, length-drop}
use lib.Seq.{take-append-le, drop-append-le, take-append_seam, drop-append_seam, length-take-le}
use borrow.Author.Tests.{lt-ltb, le-ltb, lt-leb, eq-eqb}
use Rattle.lists.specs.Choice.{pick}
use Rattle.lists.specs.Starting.{starting}
use Rattle.lists.proofs.Cases.{pick_cases, same_or_not}
use Rattle.lists.proofs.Filling.{put_whole, put_behind, length_starting}
use Rattle.refusal.specs.Number.{run_ended}
use Rattle.escapes.specs.Escape.{syn}
use Rattle.beginning.specs.Beginning.{passed_over}
use Rattle.beginning.proofs.Begun.{passed_size}
use Rattle.attempts.specs.Attempt.{Attempt, taken, nacked, failed, attempt_at}
use Rattle.attempts.specs.Looks.{looked_at}
use Rattle.listening.specs.declared.Listening.{Listening}
use Rattle.listening.specs.declared.Fed.{Fed}
use Rattle.listening.specs.Listening.{first_command, first_reply, syn_due, nothing_due, hand_room, in_hand, has_answered, in_hand_now, goes_on, is_command, on_taken, on_nacked, on_attempt, on_syn, hear, after, listened}
use Rattle.feeding.specs.Inner.{step_by, step_on, thrown_by, begins_anew, tries_on, joined_room, joined, Turned}
use Rattle.listening.proofs.Undecided.{in_hand_now_lem}
use Rattle.listening.proofs.Restart.{restarts_not}
use Rattle.feeding.proofs.AtOnce.{NoRestart, same_step, at_once}
use Rattle.feeding.proofs.Idle.{none_passed, all_passed, thrown_first, unless_none, unless_some}

-- ---- the bytes in hand, and behind them as many of a run as there is room for

module _ (raw : List ℕ) (n : ℕ) (run old first last : List ℕ) (some : n ≤ hand_room) (size : length raw ≡ hand_room) (room : length old ≡ joined_room)
    (put_first : first ≡ starting (take (length old) raw) old)
    (put_last : last ≡ starting (take (length (take (length first - n) (drop n first))) run) (take (length first - n) (drop n first))) where
  abbrev hand : List ℕ
  hand = take n raw

  abbrev free : List ℕ
  free = take (length first - n) (drop n first)

  abbrev end : List ℕ
  end = drop (length first - n) (drop n first)

  hand_long : length hand ≡ n
  hand_long = length-take-le n raw (omega arith)

  first_is : first ≡ starting raw old
  first_is = put_first ∙ put_whole raw old (omega arith)

  first_long : length first ≡ joined_room
  first_long = ap length first_is ∙ length_starting raw old (omega arith) ∙ room

  left : length free ≡ joined_room - n
  left = length-take-le (length first - n) (drop n first) (omega (arith, first_long, length-drop n first)) ∙ ap (λ (k : ℕ). k - n) first_long

  pub joined_is : take (min joined_room (n + length run)) (take n first ++ (last ++ end)) ≡ joined hand run
  joined_is =
      let bs = take (joined_room - n) run in
      let rest = drop (length bs) free in
      let last_is : last ≡ bs ++ rest = put_last ∙ ap (λ (k : ℕ). starting (take k run) free) left in
      let count : min joined_room (n + length run) ≡ n + length bs = omega (arith, length-take (joined_room - n) run) in
      ap (λ (m : ℕ). take m (take n first ++ (last ++ end))) count
      ∙ ap (λ (x : List ℕ). take (n + length bs) (take n first ++ x)) (ap (λ (x : List ℕ). x ++ end) last_is ∙ append_assoc bs rest end)
      ∙ put_behind first n bs (rest ++ end) (omega (arith, first_long))
      ∙ ap (λ (x : List ℕ). x ++ bs) (ap (take n) first_is ∙ take-append-le n raw (drop (length raw) old) (omega arith))
      ∙ ap (λ (k : ℕ). hand ++ take (joined_room - k) run) (sym hand_long)

-- ---- how far a state comes

abbrev At : ℕ → Listening → Type 0
At n s = s.start + length (in_hand s) ≡ n

module _ (s : Listening) (n : ℕ) where
  at_taken : (t : List ℕ) → At (s.start + n) (on_taken s n t)
  unfolding on_taken
  at_taken t =
      let A = At (s.start + n) in
      pick_cases A (is_command s) _ _ (λ _. omega arith) (λ _. pick_cases A (eqb s.due first_reply) _ _ (λ _. omega arith) (λ _. omega arith))

  at_nacked : (t : List ℕ) (place : ℕ) → At (s.start + n) (on_nacked s n t place)
  unfolding on_nacked
  at_nacked t place =
      let A = At (s.start + n) in
      pick_cases A (eqb s.due first_command) _ _ (λ _. omega arith) (λ _. pick_cases A (eqb s.due first_reply) _ _ (λ _. omega arith) (λ _. omega arith))

-- as many bytes on as were used, from where what was in hand starts
pub step_moves : (s : Listening) (c : List ℕ) (n : ℕ) (a : Attempt) → At (s.start + (step_by s c n a).used) (step_by s c n a).state
step_moves s c n (taken t next) = at_taken s n t
step_moves s c n (nacked t place) = at_nacked s n t place
step_moves s c n (failed why) =
    pick_cases (λ (f : Fed). At (s.start + f.used) f.state) (eqb why.number run_ended) _ _
    (λ _. ap (λ (x : List ℕ). s.start + length x) (in_hand_now_lem s c)) (λ _. omega arith)

-- ---- a turn

abbrev pub counting : Fed → ℕ → Fed
counting f n = record { state = f.state; used = n }

-- an attempt on the bytes in hand and those behind them
turned : (s : Listening) → s.due < syn_due → (hand : List ℕ) → in_hand s ≡ hand → (run rest : List ℕ) → 0 < length run → NoRestart s hand run
    → (used : ℕ) → used ≡ (step_on s (hand ++ run) (length hand + 1)).used - length hand
    → Turned s (run ++ rest) (counting (step_on s (hand ++ run) (length hand + 1)) used)
turned s tries hand is [] rest h no_restart used e = let f : ⊥ = omega arith in absurd f
turned s tries hand is (b ∷ r) rest h no_restart used e =
    let c = hand ++ b ∷ r in
    let f = step_on s c (length hand + 1) in
    let on = at_once r s (lt-ltb s.due syn_due tries) hand is b rest no_restart in
    let within : used ≤ length (b ∷ r) = omega (arith, on.some, on.within, length-append hand (b ∷ r)) in
    record {
      some = omega (arith, on.some);
      within = omega (arith, length-append (b ∷ r) rest);
      same =
          on.same ∙ ap (λ (j : ℕ). after j (listened f.state (drop j (b ∷ r) ++ rest))) (sym e)
          ∙ ap (λ (x : List ℕ). after used (listened f.state x)) (sym (drop-append-le used (b ∷ r) rest within));
      moves = omega (arith, step_moves s c (max (length hand + 1) (looked_at (is_command s) c 0)) (attempt_at (is_command s) c 0), on.some, ap length is);
    }

-- what is in hand is thrown away
turned_anew : (s : Listening) → s.due ≡ first_command → (hand r rest : List ℕ) (i : ℕ) → i ≡ passed_over hand r → (i ≡ 0 → ⊥)
    → Turned (in_hand_now s hand) (r ++ rest) (counting (begins_anew s (length hand + i)) i)
turned_anew s first hand r rest i is some =
    let n = length hand in
    let start : s.start + n + i ≡ s.start + (n + i) = omega arith in
    record {
      some = omega (arith, some);
      within = omega (arith, is, passed_size hand r, length-append r rest);
      same =
          all_passed s first hand r i is some rest
          ∙ ap (λ (d : ℕ). after i (listened (goes_on s (s.start + n + i) d) (drop i (r ++ rest)))) (sym first)
          ∙ ap (λ (k : ℕ). after i (listened (goes_on s k s.due) (drop i (r ++ rest)))) start;
      moves = omega (arith, ap length (in_hand_now_lem s hand));
    }

-- a turn on the bytes in hand and those behind them, where an attempt is due
pub turned_tries : (s₀ : Listening) → s₀.due < syn_due → (hand r rest : List ℕ) → 0 < length r → (f : Fed) → f ≡ tries_on s₀ (hand ++ r) (length hand)
    → (length hand < f.used) × Turned (in_hand_now s₀ hand) (r ++ rest) (counting f (f.used - length hand))
turned_tries s₀ tries hand r rest more f is =
    let s = in_hand_now s₀ hand in
    let n = length hand in
    let c = hand ++ r in
    let thrown = thrown_by s₀.due c n in
    let parts : passed_over (take n c) (drop n c) ≡ passed_over hand r =
    ap (λ (l : List ℕ). passed_over l (drop n c)) (take-append_seam hand r) ∙ ap (passed_over hand) (drop-append_seam hand r) in
    ⊎_elim
    (λ (z : thrown ≡ 0).
    let g = step_on s c (n + 1) in
    let f_is : f ≡ g = is ∙ sym (unless_none s₀ c n (step_on s₀ c (n + 1)) z) ∙ sym (same_step s₀ hand c (max (n + 1) (looked_at (is_command s₀) c 0)) (attempt_at (is_command s₀) c 0)) in
    let none : (first : s₀.due ≡ first_command) → 0 ≡ passed_over hand r =
    λ first. sym z ∙ ap (λ (t : Bool). pick t (passed_over (take n c) (drop n c)) 0) (eq-eqb s₀.due first_command first) ∙ parts in
    let t = turned s tries hand (in_hand_now_lem s₀ hand) r rest more (λ first. none_passed s₀ first hand r 0 (none first) refl first) (g.used - n) refl in
    let used_is : f.used ≡ g.used = ap (λ (x : Fed). x.used) f_is in
    (omega (arith, t.some), subst (λ (x : Fed). Turned s (r ++ rest) (counting x (x.used - n))) (sym f_is) t))
    (λ (some : thrown ≡ 0 → ⊥).
    let first = thrown_first s₀.due c n some in
    let f_is : f ≡ begins_anew s₀ (n + thrown) = is ∙ sym (unless_some s₀ c n (step_on s₀ c (n + 1)) thrown refl some) in
    let t = turned_anew s₀ first.0 hand r rest thrown (first.1 ∙ parts) some in
    let used_is : f.used ≡ n + thrown = ap (λ (x : Fed). x.used) f_is in
    let count : thrown ≡ n + thrown - n = omega arith in
    (omega (arith, used_is, t.some), subst (λ (x : Fed). Turned s (r ++ rest) (counting x (x.used - n))) (sym f_is) (subst (λ (k : ℕ). Turned s (r ++ rest) (counting (begins_anew s₀ (n + thrown)) k)) count t)))
    (same_or_not thrown 0)

-- SYN is due
module _ (s : Listening) (due : syn_due ≤ s.due) (undone : s.due < nothing_due) where
  open_still : has_answered s ≡ false
  unfolding has_answered
  open_still = lt-leb nothing_due s.due undone

  pub first_byte : (b : ℕ) (rest : List ℕ) → listened s (b ∷ rest) ≡ after 1 (listened (hear s b) rest)
  unfolding listened
  first_byte b rest = ap (λ (t : Bool). pick t (record { state = s; used = 0 }) (after 1 (listened (hear s b) rest))) open_still

  pub hears : (b : ℕ) → hear s b ≡ on_syn s b
  unfolding hear
  hears b =
      let c = in_hand s ++ b ∷ [] in
      let on = on_attempt s c (attempt_at (is_command s) c 0) in
      ap (λ (t : Bool). pick t (goes_on s (s.start + length c) first_command) (pick (ltb s.due syn_due) on (on_syn s b))) (restarts_not s c (λ first whole. let f : ⊥ = omega (arith, first, due) in f))
      ∙ ap (λ (t : Bool). pick t on (on_syn s b)) (le-ltb s.due syn_due due)

  pub turned_syn : (run : List ℕ) → 0 < length run → Turned s run (record { state = on_syn s (get_or run 0 0); used = 1 })
  turned_syn [] h = let f : ⊥ = omega arith in absurd f
  turned_syn (b ∷ rest) h =
      record {
        some = omega arith;
        within = omega arith;
        same = first_byte b rest ∙ ap (λ (x : Listening). after 1 (listened x rest)) (hears b);
        moves = pick_cases (At (s.start + length (in_hand s) + 1)) (eqb b syn) _ _ (λ _. omega arith) (λ _. omega arith);
      }
