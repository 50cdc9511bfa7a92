-- Where a piece of a recording's beginning stands, the command's attempt is refused with number 5 at its last byte, and nothing behind
-- that is looked at.
-- Assumes nothing.
use Rattle.std.specs.Prelude.{Result, Ok, Err}
use mathlib.Core.Path.{◌≡◌, refl, sym, ap, ◌∙◌}
use mathlib.Core.Bool.{Bool, true, false}
use mathlib.Core.List.{List, [], ◌∷◌}
use mathlib.Core.Logic.{◌⊎◌, inl, inr, ⊎_elim}
use Prim.Native.Nat.{ℕ, ◌+◌, ◌-◌, ◌<◌}
use native.Mathlib.Omega.{arith}
use lib.Dec.{eqb, ltb}
use lib.ListN.{length, get_or, drop}
use lib.Seq.{get_or-drop}
use borrow.Author.Tests.{lt-ltb, eqb-true, ne_eqb}
use Rattle.lists.specs.Choice.{pick}
use Rattle.lists.proofs.Cases.{by_test, same_or_not, pick_cases}
use Rattle.refusal.specs.Number.{escape_wrong, syn_early, source_wrong, at_place}
use Rattle.refusal.specs.declared.Refusal.{Refusal}
use Rattle.escapes.specs.Escape.{esc, syn}
use Rattle.escapes.specs.Logical.{run_over, escape_at, logical_at, and_then, logicals_at}
use Rattle.addresses.specs.Address.{initiator}
use Rattle.telegram.specs.Telegram.{check_right, SRC, DST, field_at, fault_of, Telegram, unread, on_byte, collected, on_head, telegram_at}
use Rattle.beginning.specs.Beginning.{piece, command_start}
use Rattle.beginning.proofs.Pieces.{Begins, no_piece, alone, escape, source, source_escape, begins, not_syn, not_esc, is_alone, is_escape, is_source, is_source_escape, in_range, first_there}
use Rattle.beginning.proofs.Begun.{start_none, started_there}
use Rattle.attempts.specs.Attempt.{failed, settled_by, on_telegram, ending_at, attempt_at}
use Rattle.attempts.specs.Looks.{looked_by, looked_at}
use Rattle.exchange.specs.Exchange.{on_first, on_command, tries_at, Outcome, accepted, rejected, exchange_at}
use Rattle.exchange.specs.Restarts.{OnlySynEarly, BehindTwo}

-- ---- logical bytes

module _ (run : List ℕ) (at : ℕ) where
  syn_there : at < length run → get_or run at 0 ≡ syn → logical_at run at ≡ Err (at_place syn_early at)
  unfolding logical_at
  syn_there near e = simp (lt-ltb at (length run) near, e)

  escape_syn : at < length run → get_or run at 0 ≡ esc → at + 1 < length run → get_or run (at + 1) 0 ≡ syn → logical_at run at ≡ Err (at_place syn_early (at + 1))
  unfolding logical_at escape_at
  escape_syn near e near' f = simp (lt-ltb at (length run) near, e, lt-ltb (at + 1) (length run) near', f)

  source_there : at < length run → initiator (get_or run at 0) ≡ true → logical_at run at ≡ Ok (get_or run at 0, at + 1)
  unfolding logical_at
  source_there near h =
      simp (lt-ltb at (length run) near, ne_eqb (get_or run at 0) esc (not_esc (get_or run at 0) h), ne_eqb (get_or run at 0) syn (not_syn (get_or run at 0) h))

-- ---- the command

first_refused : (run : List ℕ) (at : ℕ) (why : Refusal) → logical_at run at ≡ Err why → telegram_at true run at ≡ unread why
unfolding telegram_at collected
first_refused run at why e =
    ap (λ (l : Result (ℕ × ℕ) Refusal). on_head true run (on_byte (field_at true 0) at l (λ b next. collected true run 4 (b ∷ []) at next))) e

-- by its first byte, which is SRC
by_source : (run : List ℕ) (at b next : ℕ) (t : Bool) → logical_at run at ≡ Ok (b, next) → initiator b ≡ t
    → telegram_at true run at ≡ on_head true run (pick (eqb (pick t 0 6) 0) (collected true run 4 (b ∷ []) at next) (unread (at_place (pick t 0 6) at)))
unfolding telegram_at collected field_at fault_of
by_source run at b next t e h =
    ap (λ (l : Result (ℕ × ℕ) Refusal). on_head true run (on_byte SRC at l (λ b next. collected true run 4 (b ∷ []) at next))) e
    ∙ ap (λ (t : Bool). on_head true run (pick (eqb (pick t 0 6) 0) (collected true run 4 (b ∷ []) at next) (unread (at_place (pick t 0 6) at)))) h

second_refused : (run : List ℕ) (at b next : ℕ) (why : Refusal) → logical_at run at ≡ Ok (b, next) → initiator b ≡ true → logical_at run next ≡ Err why
    → telegram_at true run at ≡ unread why
unfolding collected field_at
second_refused run at b next why e h f =
    by_source run at b next true e h
    ∙ ap (λ (l : Result (ℕ × ℕ) Refusal). on_head true run (on_byte DST next l (λ d n. collected true run 3 (b ∷ d ∷ []) next n))) f

-- the last byte of a piece
abbrev pub last_place : List ℕ → ℕ
last_place run = piece run - 1

piece_unread : (run : List ℕ) → 0 < piece run → telegram_at true run 0 ≡ unread (at_place syn_early (last_place run))
piece_unread run = by (begins (get_or run 0 0) (get_or run 1 0) (get_or run 2 0))
  where
    by : {n : ℕ} → Begins (get_or run 0 0) (get_or run 1 0) (get_or run 2 0) n → 0 < n → telegram_at true run 0 ≡ unread (at_place syn_early (n - 1))
    by no_piece h = let f : ⊥ = omega arith in absurd f
    by (alone e) h = first_refused run 0 (at_place syn_early 0) (syn_there run 0 (in_range run 0 syn e (omega arith)) e)
    by (escape e f) h =
        first_refused run 0 (at_place syn_early 1) (escape_syn run 0 (in_range run 0 esc e (omega arith)) e (in_range run 1 syn f (omega arith)) f)
    by (source s f) h =
        let second = in_range run 1 syn f (omega arith) in
        second_refused run 0 (get_or run 0 0) 1 (at_place syn_early 1) (source_there run 0 (omega (arith, second)) s) s (syn_there run 1 second f)
    by (source_escape s f g) h =
        let third = in_range run 2 syn g (omega arith) in
        second_refused run 0 (get_or run 0 0) 1 (at_place syn_early 2) (source_there run 0 (omega (arith, third)) s) s (escape_syn run 1 (omega (arith, third)) f third g)

attempt_unread : (run : List ℕ) (at : ℕ) (why : Refusal) → telegram_at true run at ≡ unread why → attempt_at true run at ≡ failed why
unfolding attempt_at ending_at
attempt_unread run at why e = ap (λ (t : Telegram). settled_by (λ telegram check_place. check_right telegram) (on_telegram true run t)) e

pub piece_fails : (run : List ℕ) → 0 < piece run → attempt_at true run 0 ≡ failed (at_place syn_early (last_place run))
piece_fails run h = attempt_unread run 0 (at_place syn_early (last_place run)) (piece_unread run h)

pub piece_looked : (run : List ℕ) → 0 < piece run → looked_at true run 0 ≡ piece run
unfolding looked_at
piece_looked run h = ap (looked_by true run) (piece_unread run h) ∙ omega (arith, h)

-- ---- the exchange

pub only_syn_early : OnlySynEarly
unfolding exchange_at tries_at
only_syn_early run other =
    ⊎_elim (λ (none : piece run ≡ 0). ap (exchange_at run) (start_none run none))
    (λ (some : piece run ≡ 0 → ⊥).
    absurd (other (last_place run) (ap (λ a. on_command run (on_first true run a)) (piece_fails run (let h : 0 < piece run = omega (arith, some) in h)))))
    (same_or_not (piece run) 0)

-- ---- two logical bytes

abbrev number_of : Result (ℕ × ℕ) Refusal → ℕ
number_of (Ok (b, next)) = 0
number_of (Err why) = why.number

abbrev byte_of : Result (ℕ × ℕ) Refusal → ℕ
byte_of (Ok (b, next)) = b
byte_of (Err why) = 0

abbrev next_of : Result (ℕ × ℕ) Refusal → ℕ
next_of (Ok (b, next)) = next
next_of (Err why) = 0

-- 1 for a byte, 0 for a refusal
abbrev is_byte : Result (ℕ × ℕ) Refusal → ℕ
is_byte (Ok (b, next)) = 1
is_byte (Err why) = 0

abbrev why_of : Outcome → Refusal
why_of (accepted kind commands replies next command first second) = at_place 0 0
why_of (rejected why) = why

two_there : (run : List ℕ) (at b next d n : ℕ) → logical_at run at ≡ Ok (b, next) → logical_at run next ≡ Ok (d, n) → length (logicals_at run 2 at) ≡ 2
unfolding logicals_at
two_there run at b next d n e f =
    ap (λ (l : Result (ℕ × ℕ) Refusal). length (and_then l (λ k. and_then (logical_at run k) (λ m. [])))) e ∙ ap (λ (l : Result (ℕ × ℕ) Refusal). length (b ∷ and_then l (λ m. []))) f

-- what is not number 5 is not
not_early : {P : Type 0} (l : Result (ℕ × ℕ) Refusal) (place : ℕ) → (number_of l ≡ syn_early → ⊥) → l ≡ Err (at_place syn_early place) → P
not_early l place other e = absurd (other (ap number_of e))

-- number 5 of a logical byte: SYN stands there, or behind A9
abbrev SynThere : List ℕ → ℕ → Type 0
SynThere run at = (get_or run at 0 ≡ syn) ⊎ ((get_or run at 0 ≡ esc) × (get_or run (at + 1) 0 ≡ syn))

syn_inside : (run : List ℕ) (at place : ℕ) → logical_at run at ≡ Err (at_place syn_early place) → SynThere run at
unfolding logical_at escape_at
syn_inside run at place =
    let P : Result (ℕ × ℕ) Refusal → Type 0 = λ l. l ≡ Err (at_place syn_early place) → SynThere run at in
    let a = get_or run at 0 in
    let b = get_or run (at + 1) 0 in
    pick_cases P (ltb at (length run)) _ _
    (λ _.
    pick_cases P (eqb a esc) _ _
    (λ y.
    pick_cases P (ltb (at + 1) (length run)) _ _
    (λ _.
    pick_cases P (eqb b 0x00) _ _ (λ _. not_early (Ok (esc, at + 1 + 1)) place (λ z. omega (arith, z)))
    (λ _.
    pick_cases P (eqb b 0x01) _ _ (λ _. not_early (Ok (syn, at + 1 + 1)) place (λ z. omega (arith, z)))
    (λ _.
    pick_cases P (eqb b syn) _ _ (λ z _. inr (eqb-true a esc y, eqb-true b syn z)) (λ _. not_early (Err (at_place escape_wrong (at + 1))) place (λ z. omega (arith, z))))))
    (λ _. not_early (Err (run_over run)) place (λ z. omega (arith, z))))
    (λ _. pick_cases P (eqb a syn) _ _ (λ y _. inl (eqb-true a syn y)) (λ _. not_early (Ok (a, at + 1)) place (λ z. omega (arith, z)))))
    (λ _. not_early (Err (run_over run)) place (λ z. omega (arith, z)))

-- a source is a raw byte
source_plain : (run : List ℕ) (at b next : ℕ) → initiator b ≡ true → logical_at run at ≡ Ok (b, next) → (get_or run at 0 ≡ b) × (next ≡ at + 1)
unfolding logical_at escape_at
source_plain run at b next h =
    let P : Result (ℕ × ℕ) Refusal → Type 0 = λ l. l ≡ Ok (b, next) → (get_or run at 0 ≡ b) × (next ≡ at + 1) in
    let a = get_or run at 0 in
    let c = get_or run (at + 1) 0 in
    pick_cases P (ltb at (length run)) _ _
    (λ _.
    pick_cases P (eqb a esc) _ _
    (λ y.
    pick_cases P (ltb (at + 1) (length run)) _ _
    (λ _.
    pick_cases P (eqb c 0x00) _ _ (λ _ e. absurd (not_esc b h (sym (ap byte_of e))))
    (λ _.
    pick_cases P (eqb c 0x01) _ _ (λ _ e. absurd (not_syn b h (sym (ap byte_of e))))
    (λ _.
    pick_cases P (eqb c syn) _ _ (λ _ e. no_byte (at_place syn_early (at + 1)) e) (λ _ e. no_byte (at_place escape_wrong (at + 1)) e))))
    (λ _ e. no_byte (run_over run) e))
    (λ _. pick_cases P (eqb a syn) _ _ (λ _ e. no_byte (at_place syn_early at) e) (λ _ e. (ap byte_of e, sym (ap next_of e)))))
    (λ _ e. no_byte (run_over run) e)
  where
    no_byte : {Q : Type 0} (why : Refusal) → ◌≡◌ {A = Result (ℕ × ℕ) Refusal} (Err why) (Ok (b, next)) → Q
    no_byte why e = let z : ◌≡◌ {A = ℕ} 0 1 = ap is_byte e in absurd (let f : ⊥ = omega (arith, z) in f)

-- where the command starts, SYN does not come before two logical bytes
module _ (run : List ℕ) (at : ℕ) (none : piece (drop at run) ≡ 0) where
  first_not : SynThere run at → ⊥
  first_not (inl e) =
      let is = is_alone (get_or (drop at run) 0 0) (get_or (drop at run) 1 0) (get_or (drop at run) 2 0) (first_there run at ∙ e) in
      omega (arith, is, none)
  first_not (inr e) =
      let is = is_escape (get_or (drop at run) 0 0) (get_or (drop at run) 1 0) (get_or (drop at run) 2 0) (first_there run at ∙ e.0) (get_or-drop at run 1 0 ∙ e.1) in
      omega (arith, is, none)

  second_not : initiator (get_or run at 0) ≡ true → SynThere run (at + 1) → ⊥
  second_not h (inl e) =
      let is = is_source (get_or (drop at run) 0 0) (get_or (drop at run) 1 0) (get_or (drop at run) 2 0) (ap initiator (first_there run at) ∙ h) (get_or-drop at run 1 0 ∙ e) in
      omega (arith, is, none)
  second_not h (inr e) =
      let two : at + 2 ≡ at + 1 + 1 = omega arith in
      let is =
      is_source_escape (get_or (drop at run) 0 0) (get_or (drop at run) 1 0) (get_or (drop at run) 2 0) (ap initiator (first_there run at) ∙ h) (get_or-drop at run 1 0 ∙ e.0)
      (get_or-drop at run 2 0 ∙ ap (λ (k : ℕ). get_or run k 0) two ∙ e.1) in
      omega (arith, is, none)

  -- an exchange by a command that can't be read
  refused_by : (why : Refusal) → telegram_at true run at ≡ unread why → exchange_at run at ≡ rejected why
  unfolding exchange_at tries_at
  refused_by why e = ap (λ a. on_command run (on_first true run a)) (attempt_unread run at why e)

  two_bytes : (place : ℕ) → exchange_at run at ≡ rejected (at_place syn_early place) → length (logicals_at run 2 at) ≡ 2
  two_bytes place told = by (logical_at run at) refl
    where
      same : (why : Refusal) → telegram_at true run at ≡ unread why → why ≡ at_place syn_early place
      same why e = ap why_of (sym (refused_by why e) ∙ told)

      behind : (b next : ℕ) → logical_at run at ≡ Ok (b, next) → initiator b ≡ true → (l : Result (ℕ × ℕ) Refusal) → logical_at run next ≡ l → length (logicals_at run 2 at) ≡ 2
      behind b next e h (Ok (d, n)) f = two_there run at b next d n e f
      behind b next e h (Err why) f =
          let p = source_plain run at b next h e in
          let early : logical_at run (at + 1) ≡ Err (at_place syn_early place) =
          ap (logical_at run) (sym p.1) ∙ f ∙ ap Err (same why (second_refused run at b next why e h f)) in
          absurd (second_not (ap initiator p.0 ∙ h) (syn_inside run (at + 1) place early))

      by : (l : Result (ℕ × ℕ) Refusal) → logical_at run at ≡ l → length (logicals_at run 2 at) ≡ 2
      by (Err why) e =
          absurd (first_not (syn_inside run at place (e ∙ ap Err (same why (first_refused run at why e)))))
      by (Ok (b, next)) e =
          by_test (initiator b) (λ h. behind b next e h (logical_at run next) refl)
          (λ h. let n = ap (λ (w : Refusal). w.number) (same (at_place source_wrong at) (by_source run at b next false e h)) in absurd (let f : ⊥ = omega (arith, n) in f))

pub behind_two : BehindTwo
behind_two run place told = two_bytes run (command_start run) (started_there run) place told
