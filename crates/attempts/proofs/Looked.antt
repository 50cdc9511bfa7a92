-- How far an attempt looks: on a run that ends before the byte that decides it, it is refused by the run's end; on any longer
-- one it is the same. And how far that is at most.
-- Assumes nothing.
use Rattle.std.specs.Prelude.{Result, Ok, Err}
use mathlib.Core.Path.{◌≡◌, refl, sym, ap, ◌∙◌, subst}
use mathlib.Core.Bool.{Bool, true, false}
use mathlib.Core.List.{List, [], ◌∷◌, ◌++◌}
use mathlib.Core.Logic.{inl, inr, ⊎_elim}
use Prim.Native.Nat.{ℕ, zero, suc, ◌+◌, ◌*◌, ◌≤◌, ◌<◌}
use native.Mathlib.Omega.{arith}
use lib.Dec.{eqb, ltb, leb}
use lib.ListN.{length, get_or, length-append, get_or-append}
use borrow.Author.Tests.{lt-ltb, le-ltb, le-leb, lt-leb}
use Rattle.lists.specs.Choice.{pick}
use Rattle.lists.proofs.Cases.{pick_cases, true_not_false, le_or_lt}
use Rattle.refusal.specs.Number.{source_wrong, syn_early, bus_error, at_place}
use Rattle.refusal.specs.declared.Refusal.{Refusal}
use Rattle.escapes.specs.Escape.{esc, syn}
use Rattle.escapes.specs.Logical.{run_over, logical_at}
use Rattle.escapes.proofs.LogicalBytes.{Stands, logical_stands}
use Rattle.escapes.proofs.Looked.{Looks, looked_byte, Reached, reached, logical_looks}
use Rattle.telegram.specs.Telegram.{head_of, length_place, check_right, longest, Field, SRC, DST, LEN, unjudged, field_at, fault_of, Telegram, read, unread, on_byte, collected, on_head, telegram_at}
use Rattle.addresses.specs.Address.{initiator, reserved}
use Rattle.telegram.proofs.CollectedOnWire.{Fine, Gathered, gathered}
use Rattle.telegram.proofs.HeadJudged.{head_length}
use Rattle.attempts.specs.Attempt.{ack, nack, Acknowledge, positive, negative, invalid, acknowledge_at, Ending, acknowledged, on_acknowledge, unanswered, on_telegram, ending_at, Attempt, taken, nacked, failed, settled_by, attempt_at}
use Rattle.attempts.specs.Looks.{known_behind, looked_by, looked_at}

-- ---- a telegram: behind the byte that decides it

abbrev pub behind : List ℕ → Telegram → ℕ
behind run (read telegram last next) = next
behind run (unread why) = known_behind run why

-- a fault is 6 or more, and takes what its byte takes
fault_number : (field : Field) (b : ℕ) → eqb (fault_of field b) 0 ≡ false → source_wrong ≤ fault_of field b
unfolding fault_of
fault_number SRC b = pick_cases (λ k. eqb k 0 ≡ false → source_wrong ≤ k) (initiator b) _ _ (λ _ f. true_not_false refl f) (λ _ _. omega arith)
fault_number DST b = pick_cases (λ k. eqb k 0 ≡ false → source_wrong ≤ k) (reserved b) _ _ (λ _ _. omega arith) (λ _ f. true_not_false refl f)
fault_number LEN b = pick_cases (λ k. eqb k 0 ≡ false → source_wrong ≤ k) (leb b longest) _ _ (λ _ f. true_not_false refl f) (λ _ _. omega arith)
fault_number unjudged b = λ f. true_not_false refl f

fault_behind : (run : List ℕ) (field : Field) (b at next : ℕ) → Reached run at (Ok (b, next)) → eqb (fault_of field b) 0 ≡ false
    → known_behind run (at_place (fault_of field b) at) ≡ next
fault_behind run field b at next is faulty =
    ap (λ (t : Bool). at + 1 + pick t (pick {A = ℕ} (eqb (get_or run at 0) esc) 1 0) 0) (le-leb source_wrong (fault_of field b) (fault_number field b faulty)) ∙ sym is

-- the refusal of a logical byte is known at the byte that it names
why_behind : (run : List ℕ) (why : Refusal) → why.number < source_wrong → known_behind run why ≡ why.place + 1
why_behind run why h =
    let none : pick {A = ℕ} (leb source_wrong why.number) (pick (eqb (get_or run why.place 0) esc) 1 0) 0 ≡ 0 =
    ap (λ (t : Bool). pick {A = ℕ} t (pick (eqb (get_or run why.place 0) esc) 1 0) 0) (lt-leb source_wrong why.number h) in
    omega (arith, none)

module _ (run : List ℕ) (field : Field) (at : ℕ) where
  -- between where reading began and two raw bytes for each logical one
  abbrev Between : ℕ → ℕ → Telegram → Type 0
  Between from n t = (from ≤ behind run t) × (behind run t ≤ from + 2 * n)

  byte_between : (n : ℕ) (rest : ℕ → ℕ → Telegram) → ((b next : ℕ) → next ≤ length run → Between next n (rest b next))
      → at ≤ length run → (l : Result (ℕ × ℕ) Refusal) → Stands run at l → Reached run at l → Between at (suc n) (on_byte field at l rest)
  byte_between n rest each h (Ok (b, next)) st is =
      let two : next ≤ at + 2 = pick_cases (λ (k : ℕ). next ≡ at + 1 + k → next ≤ at + 2) (eqb (get_or run at 0) esc) 1 0 (λ _ e. omega arith) (λ _ e. omega arith) is in
      pick_cases (Between at (suc n)) (eqb (fault_of field b) 0) _ _
      (λ _. let more = each b next st.1 in (omega (arith, more.0, st.0), omega (arith, more.1)))
      (λ f. let far = fault_behind run field b at next is f in (omega (arith, far, st.0), omega (arith, far)))
  byte_between n rest each h (Err why) st is =
      let far = why_behind run why is.0 in
      let there = is.1 h in
      (omega (arith, far, there.0), omega (arith, far, there.1))

module _ (run : List ℕ) (command : Bool) where
  collected_between : (n : ℕ) (so_far : List ℕ) (last at : ℕ) → at ≤ length run
      → (at ≤ behind run (collected command run n so_far last at)) × (behind run (collected command run n so_far last at) ≤ at + 2 * n)
  unfolding collected
  collected_between zero so_far last at h = (omega arith, omega arith)
  collected_between (suc n) so_far last at h =
      byte_between run (field_at command (length so_far)) at n (λ b next. collected command run n (so_far ++ b ∷ []) at next)
      (λ b next k. collected_between n (so_far ++ b ∷ []) at next k) h (logical_at run at) (logical_stands run at) (reached run at)

-- ---- the same on a run and on a longer one

looks_pick : {A : Type 0} (looked : A → ℕ) (n : ℕ) (ended x x' y y' : A) (t : Bool) → (t ≡ true → Looks n (looked x') ended x x') → (t ≡ false → Looks n (looked y') ended y y')
    → Looks n (looked (pick t x' y')) ended (pick t x y) (pick t x' y')
looks_pick looked n ended x x' y y' true p q = p refl
looks_pick looked n ended x x' y y' false p q = q refl

module _ (run more : List ℕ) where
  module _ (field : Field) (at : ℕ) (rest rest' : ℕ → ℕ → Telegram) where
    far_byte : ((b next : ℕ) → next ≤ length (run ++ more) → next ≤ behind (run ++ more) (rest' b next))
        → (l : Result (ℕ × ℕ) Refusal) → Stands (run ++ more) at l → Reached (run ++ more) at l → length run < looked_byte l → length run < behind (run ++ more) (on_byte field at l rest')
    far_byte on (Ok (b, next)) st is far =
        pick_cases (λ (t : Telegram). length run < behind (run ++ more) t) (eqb (fault_of field b) 0) _ _ (λ _. omega (arith, on b next st.1))
        (λ f. omega (arith, fault_behind (run ++ more) field b at next is f))
    far_byte on (Err why) st is far = omega (arith, why_behind (run ++ more) why is.0)

    near_byte : ((b next : ℕ) → next ≤ length run → Looks (length run) (behind (run ++ more) (rest' b next)) (unread (run_over run)) (rest b next) (rest' b next))
        → (l : Result (ℕ × ℕ) Refusal) → Reached (run ++ more) at l → looked_byte l ≤ length run
        → Looks (length run) (behind (run ++ more) (on_byte field at l rest')) (unread (run_over run)) (on_byte field at l rest) (on_byte field at l rest')
    near_byte each (Ok (b, next)) is near =
        let wrong = unread (at_place (fault_of field b) at) in
        looks_pick (behind (run ++ more)) (length run) (unread (run_over run)) (rest b next) (rest' b next) wrong wrong (eqb (fault_of field b) 0) (λ _. each b next near)
        (λ f. inr (refl, omega (arith, fault_behind (run ++ more) field b at next is f)))
    near_byte each (Err why) is near = inr (refl, omega (arith, why_behind (run ++ more) why is.0))

    byte_looks : ((b next : ℕ) → next ≤ length (run ++ more) → next ≤ behind (run ++ more) (rest' b next))
        → ((b next : ℕ) → next ≤ length run → Looks (length run) (behind (run ++ more) (rest' b next)) (unread (run_over run)) (rest b next) (rest' b next))
        → (l l' : Result (ℕ × ℕ) Refusal) → Stands (run ++ more) at l' → Reached (run ++ more) at l' → Looks (length run) (looked_byte l') (Err (run_over run)) l l'
        → Looks (length run) (behind (run ++ more) (on_byte field at l' rest')) (unread (run_over run)) (on_byte field at l rest) (on_byte field at l' rest')
    byte_looks on each l l' st is (inl h) = inl (ap (λ (x : Result (ℕ × ℕ) Refusal). on_byte field at x rest) h.0, far_byte on l' st is h.1)
    byte_looks on each l l' st is (inr h) =
        subst (λ (x : Result (ℕ × ℕ) Refusal). Looks (length run) (behind (run ++ more) (on_byte field at l' rest')) (unread (run_over run)) (on_byte field at x rest) (on_byte field at l' rest')) h.0
        (near_byte each l' is h.1)

  collected_looks : (command : Bool) (n : ℕ) (so_far : List ℕ) (last at : ℕ) → at ≤ length run
      → Looks (length run) (behind (run ++ more) (collected command (run ++ more) n so_far last at)) (unread (run_over run)) (collected command run n so_far last at) (collected command (run ++ more) n so_far last at)
  unfolding collected
  collected_looks command zero so_far last at h = inr (refl, h)
  collected_looks command (suc n) so_far last at h =
      byte_looks (field_at command (length so_far)) at (λ b next. collected command run n (so_far ++ b ∷ []) at next) (λ b next. collected command (run ++ more) n (so_far ++ b ∷ []) at next)
      (λ b next k. (collected_between (run ++ more) command n (so_far ++ b ∷ []) at next k).0)
      (λ b next k. collected_looks command n (so_far ++ b ∷ []) at next k)
      (logical_at run at) (logical_at (run ++ more) at) (logical_stands (run ++ more) at) (reached (run ++ more) at) (logical_looks run more at)

  module _ (command : Bool) where
    far_head : (at : ℕ) → at ≤ length (run ++ more) → (t : Telegram) → Gathered command (run ++ more) (head_of command) [] at t → length run < behind (run ++ more) t → length run < behind (run ++ more) (on_head command (run ++ more) t)
    far_head at h (read so_far last next) g far = omega (arith, (collected_between (run ++ more) command (get_or so_far (length_place command) 0 + 1) so_far last next (g.within h)).0)
    far_head at h (unread why) g far = far

    near_head : (t : Telegram) → behind (run ++ more) t ≤ length run
        → Looks (length run) (behind (run ++ more) (on_head command (run ++ more) t)) (unread (run_over run)) (on_head command run t) (on_head command (run ++ more) t)
    near_head (read so_far last next) near = collected_looks command (get_or so_far (length_place command) 0 + 1) so_far last next near
    near_head (unread why) near = inr (refl, near)

    on_head_lem : (at : ℕ) → at ≤ length (run ++ more) → (t t' : Telegram) → Gathered command (run ++ more) (head_of command) [] at t' → Looks (length run) (behind (run ++ more) t') (unread (run_over run)) t t'
        → Looks (length run) (behind (run ++ more) (on_head command (run ++ more) t')) (unread (run_over run)) (on_head command run t) (on_head command (run ++ more) t')
    on_head_lem at there t t' g (inl h) = inl (ap (on_head command run) h.0, far_head at there t' g h.1)
    on_head_lem at there t t' g (inr h) =
        subst (λ (x : Telegram). Looks (length run) (behind (run ++ more) (on_head command (run ++ more) t')) (unread (run_over run)) (on_head command run x) (on_head command (run ++ more) t')) h.0
        (near_head t' h.1)

    telegram_looks : (at : ℕ) → at ≤ length run
        → Looks (length run) (behind (run ++ more) (telegram_at command (run ++ more) at)) (unread (run_over run)) (telegram_at command run at) (telegram_at command (run ++ more) at)
    unfolding telegram_at
    telegram_looks at h =
        on_head_lem at (omega (arith, length-append run more)) (collected command run (head_of command) [] at at) (collected command (run ++ more) (head_of command) [] at at)
        (gathered command (run ++ more) (head_of command) [] at at)
        (collected_looks command (head_of command) [] at at h)

    -- ---- an attempt

    abbrev right : List ℕ → ℕ → Bool
    right telegram check_place = check_right telegram

    abbrev attempted : List ℕ → Telegram → Attempt
    attempted r t = settled_by right (on_telegram command r t)

    far_telegram : (t : Telegram) → length run < behind (run ++ more) t → length run < looked_by command (run ++ more) t
    far_telegram (read telegram check_place next) far = pick_cases (λ (k : ℕ). length run < k) (unanswered command telegram) next (next + 1) (λ _. far) (λ _. omega arith)
    far_telegram (unread why) far = far

    acknowledge_there : (next : ℕ) → next < length run → acknowledge_at (run ++ more) next ≡ acknowledge_at run next
    unfolding acknowledge_at
    acknowledge_there next h =
        let f : ℕ → Acknowledge =
        λ b. pick (eqb b ack) (positive (next + 1)) (pick (eqb b nack) (negative next) (pick (eqb b syn) (invalid (at_place syn_early next)) (invalid (at_place bus_error next)))) in
        ap (λ (t : Bool). pick t (f (get_or (run ++ more) next 0)) (invalid (run_over (run ++ more)))) (lt-ltb next (length (run ++ more)) (omega (arith, length-append run more)))
        ∙ ap f (get_or-append run more 0 next h)
        ∙ ap (λ (t : Bool). pick t (f (get_or run next 0)) (invalid (run_over run))) (sym (lt-ltb next (length run) h))

    acknowledge_over : (next : ℕ) → length run ≤ next → acknowledge_at run next ≡ invalid (run_over run)
    unfolding acknowledge_at
    acknowledge_over next h =
        ap (λ (t : Bool). pick t (pick (eqb (get_or run next 0) ack) (positive (next + 1)) (pick (eqb (get_or run next 0) nack) (negative next) (pick (eqb (get_or run next 0) syn) (invalid (at_place syn_early next)) (invalid (at_place bus_error next))))) (invalid (run_over run)))
        (le-ltb next (length run) h)

    near_telegram : (t : Telegram) → behind (run ++ more) t ≤ length run
        → Looks (length run) (looked_by command (run ++ more) t) (failed (run_over run)) (attempted run t) (attempted (run ++ more) t)
    near_telegram (read telegram check_place next) near = by_kind (unanswered command telegram)
      where
        then : List ℕ → Ending
        then r = on_acknowledge telegram check_place (acknowledge_at r next)

        by_kind : (t : Bool)
            → Looks (length run) (pick t next (next + 1)) (failed (run_over run))
            (settled_by right (pick t (acknowledged telegram check_place next) (then run))) (settled_by right (pick t (acknowledged telegram check_place next) (then (run ++ more))))
        by_kind true = inr (refl, near)
        by_kind false =
            ⊎_elim (λ (h : length run ≤ next). inl (ap (λ a. settled_by right (on_acknowledge telegram check_place a)) (acknowledge_over next h), omega arith))
            (λ (h : next < length run). inr (ap (λ a. settled_by right (on_acknowledge telegram check_place a)) (acknowledge_there next h), omega arith)) (le_or_lt (length run) next)
    near_telegram (unread why) near = inr (refl, near)

    on_telegram_lem : (t t' : Telegram) → Looks (length run) (behind (run ++ more) t') (unread (run_over run)) t t'
        → Looks (length run) (looked_by command (run ++ more) t') (failed (run_over run)) (attempted run t) (attempted (run ++ more) t')
    on_telegram_lem t t' (inl h) = inl (ap (attempted run) h.0, far_telegram t' h.1)
    on_telegram_lem t t' (inr h) =
        subst (λ (x : Telegram). Looks (length run) (looked_by command (run ++ more) t') (failed (run_over run)) (attempted run x) (attempted (run ++ more) t')) h.0 (near_telegram t' h.1)

    -- "on a run that ends before the byte that decides it, an attempt is refused by the run's end; on any longer one it is the same"
    pub attempt_looks : (at : ℕ) → at ≤ length run
        → Looks (length run) (looked_at command (run ++ more) at) (failed (run_over run)) (attempt_at command run at) (attempt_at command (run ++ more) at)
    unfolding looked_at attempt_at ending_at
    attempt_looks at h = on_telegram_lem (telegram_at command run at) (telegram_at command (run ++ more) at) (telegram_looks at h)

-- ---- how far at most: two raw bytes for each of 22, and the acknowledge byte

abbrev pub most_looked : ℕ
most_looked = 45

head_most : (command : Bool) (run : List ℕ) (at : ℕ) → at ≤ length run → (t : Telegram) → Gathered command run (head_of command) [] at t → behind run t ≤ at + 2 * head_of command
    → behind run (on_head command run t) ≤ at + 44
head_most command run at h (unread why) g most = by_kind command most
  where
    by_kind : (c : Bool) → known_behind run why ≤ at + 2 * head_of c → known_behind run why ≤ at + 44
    by_kind true k = omega arith
    by_kind false k = omega arith
head_most command run at h (read so_far last next) g most =
    let count : length so_far ≡ head_of command = ap length g.bytes ∙ g.count in
    let len = head_length command so_far count (subst (Fine command 0) (sym g.bytes) g.fine) in
    let rest = (collected_between run command (get_or so_far (length_place command) 0 + 1) so_far last next (g.within h)).1 in
    by_kind command most (get_or so_far (length_place command) 0) len rest
  where
    end : ℕ
    end = behind run (collected command run (get_or so_far (length_place command) 0 + 1) so_far last next)

    by_kind : (c : Bool) → next ≤ at + 2 * head_of c → (len : ℕ) → len ≤ longest → end ≤ next + 2 * (len + 1) → end ≤ at + 44
    by_kind true k len l e = omega arith
    by_kind false k len l e = omega arith

telegram_most : (command : Bool) (run : List ℕ) (at : ℕ) → at ≤ length run → behind run (telegram_at command run at) ≤ at + 44
unfolding telegram_at
telegram_most command run at h =
    head_most command run at h (collected command run (head_of command) [] at at) (gathered command run (head_of command) [] at at)
    (collected_between run command (head_of command) [] at at h).1

by_telegram : (command : Bool) (run : List ℕ) (at : ℕ) (t : Telegram) → behind run t ≤ at + 44 → looked_by command run t ≤ at + most_looked
by_telegram command run at (read telegram check_place next) h = pick_cases (λ (k : ℕ). k ≤ at + most_looked) (unanswered command telegram) next (next + 1) (λ _. omega arith) (λ _. omega arith)
by_telegram command run at (unread why) h = omega arith

pub looked_most : (command : Bool) (run : List ℕ) (at : ℕ) → at ≤ length run → looked_at command run at ≤ at + most_looked
unfolding looked_at
looked_most command run at h = by_telegram command run at (telegram_at command run at) (telegram_most command run at h)

-- ---- what is said of an attempt that is decided

-- it ends where it was looked at last, and a refusal has a number
abbrev pub LookedAs : ℕ → Attempt → Type 0
LookedAs k (taken telegram next) = next ≡ k
LookedAs k (nacked telegram place) = place + 1 ≡ k
LookedAs k (failed why) = 0 < why.number

abbrev AcknowledgedAs : ℕ → Acknowledge → Type 0
AcknowledgedAs next (positive behind) = behind ≡ next + 1
AcknowledgedAs next (negative place) = place ≡ next
AcknowledgedAs next (invalid why) = 0 < why.number

acknowledged_as : (run : List ℕ) (next : ℕ) → AcknowledgedAs next (acknowledge_at run next)
unfolding acknowledge_at
acknowledged_as run next =
    let x = get_or run next 0 in
    let P = AcknowledgedAs next in
    pick_cases P (ltb next (length run)) _ _
    (λ _. pick_cases P (eqb x ack) _ _ (λ _. refl)
    (λ _. pick_cases P (eqb x nack) _ _ (λ _. refl) (λ _. pick_cases P (eqb x syn) _ _ (λ _. omega arith) (λ _. omega arith))))
    (λ _. omega arith)

abbrev Numbered : Telegram → Type 0
Numbered (read telegram last next) = Unit {0}
Numbered (unread why) = 0 < why.number

byte_numbered : (run : List ℕ) (field : Field) (at : ℕ) (rest : ℕ → ℕ → Telegram) → ((b next : ℕ) → Numbered (rest b next)) → (l : Result (ℕ × ℕ) Refusal) → Reached run at l → Numbered (on_byte field at l rest)
byte_numbered run field at rest each (Ok (b, next)) is =
    pick_cases Numbered (eqb (fault_of field b) 0) _ _ (λ _. each b next) (λ f. let six = fault_number field b f in omega arith)
byte_numbered run field at rest each (Err why) is = is.2

module _ (command : Bool) (run : List ℕ) where
  collected_numbered : (n : ℕ) (so_far : List ℕ) (last at : ℕ) → Numbered (collected command run n so_far last at)
  unfolding collected
  collected_numbered zero so_far last at = tt
  collected_numbered (suc n) so_far last at =
      byte_numbered run (field_at command (length so_far)) at (λ b next. collected command run n (so_far ++ b ∷ []) at next)
      (λ b next. collected_numbered n (so_far ++ b ∷ []) at next) (logical_at run at) (reached run at)

  head_numbered : (t : Telegram) → Numbered t → Numbered (on_head command run t)
  head_numbered (read so_far last next) h = collected_numbered (get_or so_far (length_place command) 0 + 1) so_far last next
  head_numbered (unread why) h = h

  telegram_numbered : (at : ℕ) → Numbered (telegram_at command run at)
  unfolding telegram_at
  telegram_numbered at = head_numbered (collected command run (head_of command) [] at at) (collected_numbered (head_of command) [] at at)

  module _ (right : List ℕ → ℕ → Bool) where
    settled_as : (telegram : List ℕ) (check_place next k : ℕ) → next ≡ k → LookedAs k (settled_by right (acknowledged telegram check_place next))
    settled_as telegram check_place next k e = pick_cases (LookedAs k) (right telegram check_place) _ _ (λ _. e) (λ _. omega arith)

    behind_as : (telegram : List ℕ) (check_place next : ℕ) (a : Acknowledge) → AcknowledgedAs next a → LookedAs (next + 1) (settled_by right (on_acknowledge telegram check_place a))
    behind_as telegram check_place next (positive behind) h = settled_as telegram check_place behind (next + 1) h
    behind_as telegram check_place next (negative place) h = omega (arith, h)
    behind_as telegram check_place next (invalid why) h = h

    telegram_as : (t : Telegram) → Numbered t → LookedAs (looked_by command run t) (settled_by right (on_telegram command run t))
    telegram_as (read telegram check_place next) h = by_kind (unanswered command telegram)
      where
        by_kind : (t : Bool) → LookedAs (pick t next (next + 1)) (settled_by right (pick t (acknowledged telegram check_place next) (on_acknowledge telegram check_place (acknowledge_at run next))))
        by_kind true = settled_as telegram check_place next next refl
        by_kind false = behind_as telegram check_place next (acknowledge_at run next) (acknowledged_as run next)
    telegram_as (unread why) h = h

  pub looked_as : (at : ℕ) → LookedAs (looked_at command run at) (attempt_at command run at)
  unfolding looked_at attempt_at ending_at
  looked_as at = telegram_as (λ telegram check_place. check_right telegram) (telegram_at command run at) (telegram_numbered at)
