-- What a decision makes of a state, by what was due; and the same on marks.
-- Assumes nothing.
use mathlib.Core.Path.{◌≡◌, sym, ap, ◌∙◌, subst}
use mathlib.Core.Bool.{Bool, true, false}
use mathlib.Core.List.{List, ◌++◌}
use Prim.Native.Nat.{ℕ, ◌+◌, ◌≤◌, ◌<◌}
use native.Mathlib.Omega.{arith}
use lib.Dec.{eqb, ltb}
use lib.ListN.{length, take, drop, replicate}
use borrow.Author.Tests.{lt-ltb, le-ltb, eq-eqb, ne_eqb}
use Rattle.lists.specs.Choice.{pick}
use Rattle.lists.specs.Starting.{starting}
use Rattle.refusal.specs.Number.{run_ended, bus_error, at_place}
use Rattle.refusal.specs.declared.Refusal.{Refusal}
use Rattle.escapes.specs.Escape.{syn}
use Rattle.addresses.specs.Address.{kind_of}
use Rattle.telegram.specs.Telegram.{command_room, reply_room, room_of, destination_of}
use Rattle.attempts.specs.Attempt.{failed}
use Rattle.attempts.specs.View.{Ready}
use Rattle.exchange.specs.Exchange.{nacked_twice}
use Rattle.listening.specs.declared.Listening.{Listening}
use Rattle.listening.specs.declared.Fed.{Fed}
use Rattle.listening.specs.Listening.{first_command, second_command, first_reply, second_reply, syn_due, hand_room, first_place, second_place, in_hand_now, goes_on, answers, keeps_command, keeps_first, keeps_second, refuses, due_behind, replies_to, is_command, on_taken, on_nacked, on_syn}
use Rattle.feeding.specs.declared.marks.Marks.{Marks}
use Rattle.feeding.specs.Inner.{state_of, command_due, answers_on, step_by}

-- ---- room for what is kept

module _ (due : ℕ) (run : List ℕ) (len : ℕ) (ready : Ready (ltb due first_reply) run 0 len) where
  pub room_command : due < first_reply → len ≤ command_room
  room_command h = subst (λ (c : Bool). len ≤ room_of c) (lt-ltb due first_reply h) ready.room

  pub room_reply : first_reply ≤ due → len ≤ reply_room
  room_reply h = subst (λ (c : Bool). len ≤ room_of c) (le-ltb due first_reply h) ready.room

-- ---- by what was due

module _ (s : Listening) (n : ℕ) (t : List ℕ) where
  taken_command : s.due < first_reply → on_taken s n t ≡ replies_to (keeps_command s (s.due + 1) t) (s.start + n)
  unfolding on_taken
  taken_command h = ap (λ (b : Bool). pick b (replies_to (keeps_command s (s.due + 1) t) (s.start + n)) (pick (eqb s.due first_reply) (goes_on (keeps_first s 1 t) (s.start + n) syn_due) (goes_on (keeps_second s 2 t) (s.start + n) syn_due))) (lt-ltb s.due first_reply h)

  taken_reply : first_reply ≤ s.due → on_taken s n t ≡ pick (eqb s.due first_reply) (goes_on (keeps_first s 1 t) (s.start + n) syn_due) (goes_on (keeps_second s 2 t) (s.start + n) syn_due)
  unfolding on_taken
  taken_reply h = ap (λ (b : Bool). pick b (replies_to (keeps_command s (s.due + 1) t) (s.start + n)) (pick (eqb s.due first_reply) (goes_on (keeps_first s 1 t) (s.start + n) syn_due) (goes_on (keeps_second s 2 t) (s.start + n) syn_due))) (le-ltb s.due first_reply h)

  taken_first : s.due ≡ first_reply → on_taken s n t ≡ goes_on (keeps_first s 1 t) (s.start + n) syn_due
  taken_first h =
      taken_reply (omega arith)
      ∙ ap (λ (b : Bool). pick b (goes_on (keeps_first s 1 t) (s.start + n) syn_due) (goes_on (keeps_second s 2 t) (s.start + n) syn_due)) (eq-eqb s.due first_reply h)

  taken_second : first_reply ≤ s.due → (s.due ≡ first_reply → ⊥) → on_taken s n t ≡ goes_on (keeps_second s 2 t) (s.start + n) syn_due
  taken_second h other =
      taken_reply h
      ∙ ap (λ (b : Bool). pick b (goes_on (keeps_first s 1 t) (s.start + n) syn_due) (goes_on (keeps_second s 2 t) (s.start + n) syn_due)) (ne_eqb s.due first_reply other)

  module _ (place : ℕ) where
    abbrev again : Listening
    again = goes_on s (s.start + n) second_command

    abbrev kept : Listening
    kept = goes_on (keeps_first s 0 t) (s.start + n) second_reply

    abbrev twice : Listening
    twice = refuses s n (at_place (nacked_twice (is_command s)) place)

    nacked_command : s.due ≡ first_command → on_nacked s n t place ≡ again
    unfolding on_nacked
    nacked_command h = ap (λ (b : Bool). pick b again (pick (eqb s.due first_reply) kept twice)) (eq-eqb s.due first_command h)

    nacked_later : (s.due ≡ first_command → ⊥) → on_nacked s n t place ≡ pick (eqb s.due first_reply) kept twice
    unfolding on_nacked
    nacked_later h = ap (λ (b : Bool). pick b again (pick (eqb s.due first_reply) kept twice)) (ne_eqb s.due first_command h)

    nacked_reply : s.due ≡ first_reply → on_nacked s n t place ≡ kept
    nacked_reply h = nacked_later (λ e. omega arith) ∙ ap (λ (b : Bool). pick b kept twice) (eq-eqb s.due first_reply h)

    nacked_again : (s.due ≡ first_command → ⊥) → (s.due ≡ first_reply → ⊥) → on_nacked s n t place ≡ twice
    nacked_again h k = nacked_later h ∙ ap (λ (b : Bool). pick b kept twice) (ne_eqb s.due first_reply k)

-- ---- on marks, and what is kept

module _ (m : Marks) (kept kept' t : List ℕ) (n len : ℕ) (size : length t ≡ len) where
  abbrev s : Listening
  s = state_of m kept

  abbrev with_command : ℕ → ℕ → List ℕ → Listening
  with_command due size kept =
      record { start = m.start + n; place = m.place; due = due; number = m.number; held = 0; command_attempts = m.due + 1; reply_attempts = m.reply_attempts; command_length = size; reply_1_length = m.reply_1_length; reply_2_length = m.reply_2_length; raw = replicate hand_room 0; kept = kept }

  pub command_kept : m.due < first_reply → kept' ≡ starting t kept → (due : ℕ) → due ≡ due_behind (kind_of (destination_of kept')) → with_command due len kept' ≡ on_taken s n t
  command_kept h is due e =
      ap (λ (d : ℕ). with_command d len kept') e
      ∙ ap (λ (k : List ℕ). with_command (due_behind (kind_of (destination_of k))) len k) is
      ∙ ap (λ (k : ℕ). with_command (due_behind (kind_of (destination_of (starting t kept)))) k (starting t kept)) (sym size)
      ∙ sym (taken_command s n t h)

  abbrev with_first : ℕ → ℕ → ℕ → List ℕ → Listening
  with_first attempts due size kept =
      record { start = m.start + n; place = m.place; due = due; number = m.number; held = 0; command_attempts = m.command_attempts; reply_attempts = attempts; command_length = m.command_length; reply_1_length = size; reply_2_length = m.reply_2_length; raw = replicate hand_room 0; kept = kept }

  first_kept : (attempts due : ℕ) → kept' ≡ take first_place kept ++ starting t (drop first_place kept) → with_first attempts due len kept' ≡ goes_on (keeps_first s attempts t) (m.start + n) due
  first_kept attempts due is =
      ap (with_first attempts due len) is ∙ ap (λ (k : ℕ). with_first attempts due k (take first_place kept ++ starting t (drop first_place kept))) (sym size)

  pub first_taken : m.due ≡ first_reply → kept' ≡ take first_place kept ++ starting t (drop first_place kept) → with_first 1 syn_due len kept' ≡ on_taken s n t
  first_taken h is = first_kept 1 syn_due is ∙ sym (taken_first s n t h)

  pub first_nacked : (place : ℕ) → m.due ≡ first_reply → kept' ≡ take first_place kept ++ starting t (drop first_place kept) → with_first 0 second_reply len kept' ≡ on_nacked s n t place
  first_nacked place h is = first_kept 0 second_reply is ∙ sym (nacked_reply s n t place h)

  abbrev with_second : ℕ → List ℕ → Listening
  with_second size kept =
      record { start = m.start + n; place = m.place; due = syn_due; number = m.number; held = 0; command_attempts = m.command_attempts; reply_attempts = 2; command_length = m.command_length; reply_1_length = m.reply_1_length; reply_2_length = size; raw = replicate hand_room 0; kept = kept }

  pub second_taken : first_reply ≤ m.due → (m.due ≡ first_reply → ⊥) → kept' ≡ take second_place kept ++ starting t (drop second_place kept) → with_second len kept' ≡ on_taken s n t
  second_taken h other is =
      ap (with_second len) is ∙ ap (λ (k : ℕ). with_second k (take second_place kept ++ starting t (drop second_place kept))) (sym size) ∙ sym (taken_second s n t h other)

module _ (m : Marks) (kept t : List ℕ) (n place : ℕ) where
  pub command_nacked : m.due ≡ first_command → goes_on (state_of m kept) (m.start + n) second_command ≡ on_nacked (state_of m kept) n t place
  command_nacked h = sym (nacked_command (state_of m kept) n t place h)

  pub twice_nacked : (r : Marks) (number : ℕ) → (m.due ≡ first_command → ⊥) → (m.due ≡ first_reply → ⊥) → number ≡ nacked_twice (command_due m)
      → r ≡ answers_on m (m.start + n) number (m.start + place) → state_of r kept ≡ on_nacked (state_of m kept) n t place
  twice_nacked r number h k e is =
      ap (λ (x : Marks). state_of x kept) is
      ∙ ap (λ (i : ℕ). state_of (answers_on m (m.start + n) i (m.start + place)) kept) e
      ∙ sym (nacked_again (state_of m kept) n t place h k)

-- ---- an attempt that failed

module _ (m : Marks) (bytes : List ℕ) (n : ℕ) (why : Refusal) (kept : List ℕ) where
  abbrev stays : Fed
  stays = record { state = in_hand_now (state_of m kept) bytes; used = length bytes }

  abbrev ends : Fed
  ends = record { state = refuses (state_of m kept) n why; used = n }

  pub failed_open : why.number ≡ run_ended → stays ≡ step_by (state_of m kept) bytes n (failed why)
  failed_open h = sym (ap (λ (b : Bool). pick b stays ends) (eq-eqb why.number run_ended h))

  pub failed_known : (why.number ≡ run_ended → ⊥) → (r : Marks) → r ≡ answers_on m (m.start + n) why.number (m.start + why.place)
      → record { state = state_of r kept; used = n } ≡ step_by (state_of m kept) bytes n (failed why)
  failed_known h r is =
      ap (λ (x : Marks). record { state = state_of x kept; used = n }) is ∙ sym (ap (λ (b : Bool). pick b stays ends) (ne_eqb why.number run_ended h))

-- a step that is not open
pub shut_ends : false ≡ true → ⊥
shut_ends held =
    let z : ◌≡◌ {A = ℕ} 0 1 = ap (λ (b : Bool). pick {A = ℕ} b 1 0) held in
    let f : ⊥ = omega arith in
    f

-- ---- SYN is due

module _ (m : Marks) (byte : ℕ) (r : Marks) (kept : List ℕ) where
  abbrev good : Listening
  good = answers (state_of m kept) (m.start + 1) 0 0

  abbrev bad : Listening
  bad = answers (state_of m kept) (m.start + 1) bus_error (m.start + 0)

  pub syn_ends : byte ≡ syn → r ≡ answers_on m (m.start + 1) 0 0 → state_of r kept ≡ on_syn (state_of m kept) byte
  syn_ends h is = ap (λ (x : Marks). state_of x kept) is ∙ sym (ap (λ (b : Bool). pick b good bad) (eq-eqb byte syn h))

  pub syn_missed : (byte ≡ syn → ⊥) → r ≡ answers_on m (m.start + 1) bus_error m.start → state_of r kept ≡ on_syn (state_of m kept) byte
  syn_missed h is =
      let here : m.start ≡ m.start + 0 = omega arith in
      ap (λ (x : Marks). state_of x kept) is
      ∙ ap (λ (k : ℕ). state_of (answers_on m (m.start + 1) bus_error k) kept) here
      ∙ sym (ap (λ (b : Bool). pick b good bad) (ne_eqb byte syn h))
