-- A turn behind the bytes in hand, if there are any, on marks.
-- Assumes nothing.
use mathlib.Core.Path.{◌≡◌, refl, sym, ap, ◌∙◌, subst}
use mathlib.Core.Bool.{Bool, true, false}
use mathlib.Core.List.{List, [], ◌∷◌, ◌++◌, append-nil}
use mathlib.Core.Logic.{⊎_elim}
use Prim.Native.Nat.{ℕ, ◌+◌, ◌-◌, ◌≤◌, ◌<◌, min}
use native.Mathlib.Omega.{arith}
use lib.Dec.{eqb, ltb}
use lib.ListN.{length, get_or, take, drop, length-append, length-take, length-drop, take-append-drop}
use lib.Seq.{take_all}
use borrow.Author.Tests.{lt-ltb, le-ltb, eq-eqb, ne_eqb}
use Rattle.lists.specs.Choice.{pick}
use Rattle.lists.proofs.Cases.{le_or_lt}
use Rattle.exchange.specs.Exchange.{limit}
use Rattle.listening.specs.declared.Listening.{Listening}
use Rattle.listening.specs.declared.Fed.{Fed}
use Rattle.listening.specs.Listening.{syn_due, nothing_due, hand_room, in_hand, in_hand_now, on_syn, listened}
use Rattle.listening.proofs.Undecided.{in_hand_now_lem}
use Rattle.feeding.specs.declared.marks.Marks.{Marks}
use Rattle.feeding.specs.declared.attempt.Step.{Step}
use Rattle.feeding.specs.Inner.{state_of, fed_of, Ends, tries_on, turn_on, joined_room, joined, Turned}
use Rattle.feeding.proofs.Turning.{counting, turned_tries, turned_syn}
use Rattle.feeding.proofs.Feeding.{Feeding, feeding_more, feeding_ends, feeding_answered}

-- ---- what a turn looks at

abbrev looked : List ℕ → List ℕ → List ℕ
looked [] run = run
looked (h ∷ hs) run = joined (h ∷ hs) run

looked_size : (hand run : List ℕ) → length hand ≤ hand_room → 0 < length run → (length hand + 1 ≤ length (looked hand run)) × (length (looked hand run) ≤ length hand + length run)
looked_size [] run within some = (omega arith, omega arith)
looked_size (h ∷ hs) run within some =
    let hand = h ∷ hs in
    let r = take (joined_room - length hand) run in
    let size : length (hand ++ r) ≡ length hand + length r = length-append hand r in
    let cut : length r ≡ min (joined_room - length hand) (length run) = length-take (joined_room - length hand) run in
    (omega arith, omega arith)

-- open: they are all
looked_all : (hand run : List ℕ) → length (looked hand run) ≤ hand_room → length (looked hand run) - length hand ≡ length run
looked_all [] run h = omega arith
looked_all (h ∷ hs) run short =
    let hand = h ∷ hs in
    let r = take (joined_room - length hand) run in
    let size : length (hand ++ r) ≡ length hand + length r = length-append hand r in
    let cut : length r ≡ min (joined_room - length hand) (length run) = length-take (joined_room - length hand) run in
    omega arith

-- ---- a turn

pub by_due : (s : Listening) (c : List ℕ) (held : ℕ) (t : Bool) → ltb s.due syn_due ≡ t → turn_on s c held ≡ pick t (tries_on s c held) (record { state = on_syn s (get_or c 0 0); used = 1 })
by_due s c held t e = ap (λ (b : Bool). pick b (tries_on s c held) (record { state = on_syn s (get_or c 0 0); used = 1 })) e

turned_by : (m : Marks) (kept hand run : List ℕ) → length hand ≤ hand_room → 0 < length run → m.due < nothing_due → ((length hand ≡ 0 → ⊥) → m.due < syn_due)
    → (f : Fed) → f ≡ turn_on (state_of m kept) (looked hand run) (length hand)
    → (length hand < f.used) × Turned (in_hand_now (state_of m kept) hand) run (counting f (f.used - length hand))
turned_by m kept [] run within some undone tries f is =
    let s = state_of m kept in
    ⊎_elim
    (λ (h : syn_due ≤ m.due).
    let t : Turned s run f = subst (Turned s run) (sym (is ∙ by_due s run 0 false (le-ltb m.due syn_due h))) (turned_syn s h undone run some) in
    let all : f.used ≡ f.used - 0 = omega arith in
    (t.some, subst (λ (k : ℕ). Turned s run (counting f k)) all t))
    (λ (h : m.due < syn_due).
    subst (λ (x : List ℕ). (0 < f.used) × Turned s x (counting f (f.used - 0))) (append-nil run)
    (turned_tries s h [] run [] some f (is ∙ by_due s run 0 true (lt-ltb m.due syn_due h))))
    (le_or_lt syn_due m.due)
turned_by m kept (h ∷ hs) run within some undone tries f is =
    let s = state_of m kept in
    let hand = h ∷ hs in
    let n = length hand in
    let r = take (joined_room - n) run in
    let more : 0 < length r = omega (arith, length-take (joined_room - n) run) in
    let there : n ≡ 0 → ⊥ = λ e. omega arith in
    let due = tries there in
    subst (λ (x : List ℕ). (n < f.used) × Turned (in_hand_now s hand) x (counting f (f.used - n))) (take-append-drop (joined_room - n) run)
    (turned_tries s due hand r (drop (joined_room - n) run) more f (is ∙ by_due s (looked hand run) n true (lt-ltb m.due syn_due due)))

-- ---- the loop, on marks

-- so many of these bytes are in hand: all of them before the first turn, and none behind it
pub record Turns (all : Fed) (run hand : List ℕ) (m : Marks) (kept : List ℕ) (held i : ℕ) : Type 0 where
  pub so_far : Feeding all run (in_hand_now (state_of m kept) (take held hand)) i
  pub most : held ≤ length hand
  pub first : (held ≡ 0 → ⊥) → (held ≡ length hand) × (i ≡ 0) × (m.due < syn_due)

pub turns_start : (m : Marks) (kept run hand : List ℕ) → ((length hand ≡ 0 → ⊥) → m.due < syn_due) → m.start + length hand + length run ≤ limit
    → Turns (listened (in_hand_now (state_of m kept) hand) run) run hand m kept (length hand) 0
turns_start m kept run hand tries bound =
    let s : List ℕ → Listening = λ h. in_hand_now (state_of m kept) h in
    let x = listened (s hand) run in
    let none : x.used ≡ 0 + x.used = omega arith in
    let whole : take (length hand) hand ≡ hand = take_all (length hand) hand (omega arith) in
    let long : length (in_hand (s hand)) ≡ length hand = ap length (in_hand_now_lem (state_of m kept) hand) in
    record {
      so_far =
          subst (λ (h : List ℕ). Feeding x run (s h) 0) (sym whole)
          (record { within = omega arith; same = ap (λ (k : ℕ). record { state = x.state; used = k }) none; bound = omega (arith, long) });
      most = omega arith;
      first = λ some. (refl, refl, tries some);
    }

module _ (all : Fed) (run hand : List ℕ) (m : Marks) (kept : List ℕ) (held i : ℕ) (within : length hand ≤ hand_room) (turns : Turns all run hand m kept held i) (more : i < length run) where
  abbrev s : Listening
  s = in_hand_now (state_of m kept) (take held hand)

  abbrev part : List ℕ
  part = take (length run - i) (drop i run)

  pub part_long : length part ≡ length run - i
  part_long = length-take (length run - i) (drop i run) ∙ omega (arith, length-drop i run)

  held_long : length (take held hand) ≡ held
  held_long = length-take held hand ∙ omega (arith, turns.most)

  -- what the code looks at
  module _ (both c : List ℕ) (is_joined : (length hand ≡ 0 → ⊥) → both ≡ joined hand run) (c_is : c ≡ pick (eqb held 0) part both) where
    is_looked : c ≡ looked (take held hand) part
    is_looked =
        ⊎_elim
        (λ (none : held ≤ 0).
        let z : held ≡ 0 = omega arith in
        c_is ∙ ap (λ (b : Bool). pick b part both) (eq-eqb held 0 z) ∙ sym (ap (λ (k : ℕ). looked (take k hand) part) z))
        (λ (some : 0 < held).
        let there : held ≡ 0 → ⊥ = λ e. omega arith in
        let f = turns.first there in
        let hand_there : length hand ≡ 0 → ⊥ = λ e. omega (arith, f.0) in
        let run_is : part ≡ run = ap (λ (k : ℕ). take (length run - k) (drop k run)) f.1 ∙ take_all (length run - 0) run (omega arith) in
        let hand_is : take held hand ≡ hand = take_all held hand (omega (arith, f.0)) in
        c_is ∙ ap (λ (b : Bool). pick b part both) (ne_eqb held 0 there) ∙ is_joined hand_there
        ∙ sym (of_some hand run hand_there)
        ∙ sym (ap (λ (l : List ℕ). looked l part) hand_is ∙ ap (looked hand) run_is))
        (le_or_lt held 0)
      where
        of_some : (hand run : List ℕ) → (length hand ≡ 0 → ⊥) → looked hand run ≡ joined hand run
        of_some [] run h = absurd (h refl)
        of_some (b ∷ bs) run h = refl

    sizes : (held < length c) × (length c ≤ held + (length run - i))
    sizes =
        let some : 0 < length part = omega (arith, part_long) in
        let short : length (take held hand) ≤ hand_room = omega (arith, held_long, turns.most) in
        let l = looked_size (take held hand) part short some in
        let size : length c ≡ length (looked (take held hand) part) = ap length is_looked in
        (omega (arith, l.0, held_long), omega (arith, l.1, held_long, part_long))

    pub turn_least : held < length c
    turn_least = sizes.0

    pub turn_bound : m.start + length c ≤ limit
    turn_bound =
        let long : length (in_hand s) ≡ held = ap length (in_hand_now_lem (state_of m kept) (take held hand)) ∙ held_long in
        omega (arith, sizes.1, turns.so_far.bound)

    module _ (undone : m.due < nothing_due) (t : Step) (kept' : List ℕ) (is : fed_of t c kept' ≡ turn_on (state_of m kept) c held) where
      abbrev step : Fed
      step = fed_of t c kept'

      turned : (length (take held hand) < t.used) × Turned s part (counting step (t.used - length (take held hand)))
      turned =
          let some : 0 < length part = omega (arith, part_long) in
          let short : length (take held hand) ≤ hand_room = omega (arith, held_long, turns.most) in
          let tries : (length (take held hand) ≡ 0 → ⊥) → m.due < syn_due =
          λ h. let there : held ≡ 0 → ⊥ = λ e. h (held_long ∙ e) in (turns.first there).2 in
          turned_by m kept (take held hand) part short some undone tries step
          (is ∙ ap (λ (l : List ℕ). turn_on (state_of m kept) l held) is_looked ∙ ap (turn_on (state_of m kept) (looked (take held hand) part)) (sym held_long))

      pub turn_some : held < t.used
      turn_some = omega (arith, turned.0, held_long)

      on : Turned s part (counting step (t.used - held))
      on = subst (λ (k : ℕ). Turned s part (counting step (t.used - k))) held_long turned.1

      pub turn_within : t.used - held ≤ length run - i
      turn_within = omega (arith, on.within, part_long)

      next : Feeding all run step.state (i + (t.used - held))
      next = feeding_more all run s i turns.so_far more (counting step (t.used - held)) on

      abbrev which : Bool → Listening
      which b = pick b (in_hand_now (state_of t.marks kept') c) (state_of t.marks kept')

      -- decided: it goes on, with nothing in hand
      pub turn_decided : t.open ≡ false → Turns all run hand t.marks kept' 0 (i + (t.used - held))
      turn_decided shut =
          record {
            so_far = subst (λ (b : Bool). Feeding all run (which b) (i + (t.used - held))) shut next;
            most = omega arith;
            first = λ some. absurd (some refl);
          }

      -- open: all the bytes are in hand
      pub turn_open : t.open ≡ true → Ends t c → (x : Listening) → x ≡ in_hand_now (state_of t.marks kept') c → record { state = x; used = length run } ≡ all
      turn_open opened ends x x_is =
          let short : length (looked (take held hand) part) ≤ hand_room = omega (arith, ap length is_looked, (ends opened).1) in
          let whole = looked_all (take held hand) part short in
          let total : i + (t.used - held) ≡ length run = omega (arith, (ends opened).0, ap length is_looked, whole, held_long, part_long) in
          let end : length run ≤ i + (t.used - held) = omega arith in
          ap (λ (y : Listening). record { state = y; used = length run }) (x_is ∙ sym (ap which opened))
          ∙ ap (λ (k : ℕ). record { state = step.state; used = k }) (sym total)
          ∙ feeding_ends all run step.state (i + (t.used - held)) next end

-- the answer is known, or the run is over: with nothing in hand
module _ (all : Fed) (run hand : List ℕ) (m : Marks) (kept : List ℕ) (held i : ℕ) (turns : Turns all run hand m kept held i) where
  pub turns_answered : i < length run → nothing_due ≤ m.due → record { state = state_of m kept; used = i } ≡ all
  turns_answered h known =
      ⊎_elim
      (λ (none : held ≤ 0).
      let z : held ≡ 0 = omega arith in
      feeding_answered all run (state_of m kept) i (subst (λ (k : ℕ). Feeding all run (in_hand_now (state_of m kept) (take k hand)) i) z turns.so_far) h known)
      (λ (some : 0 < held).
      let there : held ≡ 0 → ⊥ = λ e. omega arith in
      let f : ⊥ = omega (arith, (turns.first there).2) in
      absurd f)
      (le_or_lt held 0)

  pub turns_end : length run ≤ i → 0 < length run → record { state = state_of m kept; used = i } ≡ all
  turns_end h some_run =
      ⊎_elim
      (λ (none : held ≤ 0).
      let z : held ≡ 0 = omega arith in
      feeding_ends all run (state_of m kept) i (subst (λ (k : ℕ). Feeding all run (in_hand_now (state_of m kept) (take k hand)) i) z turns.so_far) h)
      (λ (some : 0 < held).
      let there : held ≡ 0 → ⊥ = λ e. omega arith in
      let f : ⊥ = omega (arith, (turns.first there).1) in
      absurd f)
      (le_or_lt held 0)
