-- Which calls are refused, that a refused one changes nothing, and what one that is not refused gives.
-- Assumes nothing.
use Rattle.std.specs.Prelude.{Option, Some, None, Result, Ok, Err}
use mathlib.Core.Path.{◌≡◌, refl, sym, ap, ◌∙◌}
use mathlib.Core.Bool.{Bool, true}
use mathlib.Core.List.{List, [], ◌∷◌}
use Prim.Native.Nat.{ℕ, ◌≤◌, ◌<◌, min}
use native.Mathlib.Omega.{arith}
use lib.Dec.{ltb}
use lib.ListN.{length}
use borrow.Author.Tests.{ltb-true, ltb-false, lt-ltb, le-ltb}
use Rattle.lists.specs.Choice.{pick}
use Rattle.lists.proofs.Cases.{by_test}
use Rattle.refusal.specs.Number.{output_short, at_place}
use Rattle.refusal.specs.declared.Refusal.{Refusal}
use Rattle.requests.specs.declared.Request.{Request}
use Rattle.requests.specs.declared.Request.TheVariants.{Start}
use Rattle.table.specs.Table.{Table, devices, valid}
use Rattle.devices.specs.Calls.{Answering, answer_room, refusing, answering, reading, ask_call}
use Rattle.devices.specs.WholeScan.{scan_from, Scanning, concluded, scan_refusing, scan_call}
use Rattle.guard.proofs.GuardCases.{guard_short, guard_passes}
use Rattle.devices.proofs.CallCases.{ask_refused, ask_passed, scan_refused, scan_passed}
use Rattle.sequence.specs.Calls.{Call, ask, scan, step, table_of, turns_of, lent, lent_after, refusal_in, refusal_of, short_or, reader_refusal, refusal_due}

-- ---- which calls are refused

reading_due : (read : Result Request Refusal) (buffer : List ℕ) (t : Table) → refusal_in (reading read buffer t).response ≡ reader_refusal read
unfolding answering
reading_due (Ok request) buffer t = refl
reading_due (Err why) buffer t = refl

short_is : (needed room : ℕ) (otherwise : Option Refusal) → room < needed → short_or needed room otherwise ≡ Some (at_place output_short 0)
short_is needed room otherwise h = ap (λ (b : Bool). pick b (Some (at_place output_short 0)) otherwise) (lt-ltb room needed h)

enough_is : (needed room : ℕ) (otherwise : Option Refusal) → needed ≤ room → short_or needed room otherwise ≡ otherwise
enough_is needed room otherwise h = ap (λ (b : Bool). pick b (Some (at_place output_short 0)) otherwise) (le-ltb room needed h)

module _ (read : Result Request Refusal) (buffer : List ℕ) (t : Table) (v : valid t ≡ true) where
  ask_short : length buffer < answer_room → ask_call read buffer t ≡ refusing (at_place output_short 0) buffer t
  ask_short h = ask_refused read buffer t (at_place output_short 0) (guard_short answer_room (length buffer) (valid t) h)

  ask_enough : answer_room ≤ length buffer → ask_call read buffer t ≡ reading read buffer t
  ask_enough h = ask_passed read buffer t (guard_passes answer_room (length buffer) (valid t) h v)

  ask_due : refusal_in (ask_call read buffer t).response ≡ short_or answer_room (length buffer) (reader_refusal read)
  ask_due =
      by_test (ltb (length buffer) answer_room)
      (λ e. let h = ltb-true (length buffer) answer_room e in
      ap (λ (a : Answering). refusal_in a.response) (ask_short h) ∙ sym (short_is answer_room (length buffer) (reader_refusal read) h))
      (λ e. let h = ltb-false (length buffer) answer_room e in
      ap (λ (a : Answering). refusal_in a.response) (ask_enough h) ∙ reading_due read buffer t ∙ sym (enough_is answer_room (length buffer) (reader_refusal read) h))

module _ (cap : ℕ) (serials addresses : List ℕ) (t : Table) (v : valid t ≡ true) where
  scan_short : min (length serials) (length addresses) < devices t → scan_call cap serials addresses t ≡ scan_refusing (at_place output_short 0) serials addresses t
  scan_short h = scan_refused cap serials addresses t (at_place output_short 0) (guard_short (devices t) (min (length serials) (length addresses)) (valid t) h)

  pub scan_enough : devices t ≤ min (length serials) (length addresses) → scan_call cap serials addresses t ≡ concluded serials addresses t (scan_from cap Start t)
  scan_enough h = scan_passed cap serials addresses t (guard_passes (devices t) (min (length serials) (length addresses)) (valid t) h v)

  scan_due : refusal_in (scan_call cap serials addresses t).scanned ≡ short_or (devices t) (min (length serials) (length addresses)) None
  scan_due =
      by_test (ltb (min (length serials) (length addresses)) (devices t))
      (λ e. let h = ltb-true (min (length serials) (length addresses)) (devices t) e in
      ap (λ (s : Scanning). refusal_in s.scanned) (scan_short h) ∙ sym (short_is (devices t) (min (length serials) (length addresses)) None h))
      (λ e. let h = ltb-false (min (length serials) (length addresses)) (devices t) e in
      ap (λ (s : Scanning). refusal_in s.scanned) (scan_enough h)
      ∙ sym (enough_is (devices t) (min (length serials) (length addresses)) None h))

pub refusals_due : (call : Call) (t : Table) → valid t ≡ true → refusal_of (step call t) ≡ refusal_due (devices t) call
refusals_due (ask read buffer) t v = ask_due read buffer t v
refusals_due (scan cap serials addresses) t v = scan_due cap serials addresses t v

-- ---- a refused call changes nothing

refusing_unchanged : (a : Answering) (why : Refusal) (buffer : List ℕ) (t : Table) → a ≡ refusing why buffer t
    → (a.turns ≡ []) × (◌≡◌ {A = List (List ℕ)} (a.buffer ∷ []) (buffer ∷ [])) × (a.table ≡ t)
refusing_unchanged a why buffer t e = (ap (λ (x : Answering). x.turns) e, ap (λ (x : Answering). x.buffer ∷ []) e, ap (λ (x : Answering). x.table) e)

unread : (read : Result Request Refusal) (buffer : List ℕ) (t : Table) (why : Refusal) → reader_refusal read ≡ Some why → reading read buffer t ≡ refusing why buffer t
unread (Ok request) buffer t why e = let z : ◌≡◌ {A = ℕ} 0 1 = cc in absurd (let w : ⊥ = omega arith in w)
unread (Err reason) buffer t why e = let same : reason ≡ why = cc in ap (λ (x : Refusal). refusing x buffer t) same

ask_unchanged : (read : Result Request Refusal) (buffer : List ℕ) (t : Table) → valid t ≡ true → (why : Refusal) → short_or answer_room (length buffer) (reader_refusal read) ≡ Some why
    → ((ask_call read buffer t).turns ≡ []) × (◌≡◌ {A = List (List ℕ)} ((ask_call read buffer t).buffer ∷ []) (buffer ∷ [])) × ((ask_call read buffer t).table ≡ t)
ask_unchanged read buffer t v why due =
    by_test (ltb (length buffer) answer_room)
    (λ e. refusing_unchanged (ask_call read buffer t) (at_place output_short 0) buffer t (ask_short read buffer t v (ltb-true (length buffer) answer_room e)))
    (λ e. let h = ltb-false (length buffer) answer_room e in
    refusing_unchanged (ask_call read buffer t) why buffer t
    (ask_enough read buffer t v h ∙ unread read buffer t why (sym (enough_is answer_room (length buffer) (reader_refusal read) h) ∙ due)))

pub refused_unchanged : (call : Call) (t : Table) → valid t ≡ true → (why : Refusal) → refusal_due (devices t) call ≡ Some why
    → (turns_of (step call t) ≡ []) × (lent_after (step call t) ≡ lent call) × (table_of (step call t) ≡ t)
refused_unchanged (ask read buffer) t v why due = ask_unchanged read buffer t v why due
refused_unchanged (scan cap serials addresses) t v why due =
    by_test (ltb (min (length serials) (length addresses)) (devices t))
    (λ e. let eq = scan_short cap serials addresses t v (ltb-true (min (length serials) (length addresses)) (devices t) e) in
    (ap (λ (s : Scanning). s.turns) eq, ap (λ (s : Scanning). s.serials ∷ s.addresses ∷ []) eq, ap (λ (s : Scanning). s.table) eq))
    (λ e. let h = ltb-false (min (length serials) (length addresses)) (devices t) e in
    let clash : None ≡ Some why = sym (enough_is (devices t) (min (length serials) (length addresses)) None h) ∙ due in
    let z : ◌≡◌ {A = ℕ} 0 1 = cc in absurd (let w : ⊥ = omega arith in w))

-- ---- one that is not refused

not_short : (needed room : ℕ) (otherwise : Option Refusal) → short_or needed room otherwise ≡ None → needed ≤ room
not_short needed room otherwise due =
    by_test (ltb room needed)
    (λ e. let clash : Some (at_place output_short 0) ≡ None = sym (short_is needed room otherwise (ltb-true room needed e)) ∙ due in
    let z : ◌≡◌ {A = ℕ} 0 1 = cc in absurd (let w : ⊥ = omega arith in w))
    (λ e. ltb-false room needed e)

-- the one request that it reads as is made
pub ask_answers : (read : Result Request Refusal) (request : Request) (buffer : List ℕ) (t : Table) → valid t ≡ true → read ≡ Ok request
    → short_or answer_room (length buffer) (reader_refusal read) ≡ None → ask_call read buffer t ≡ answering request buffer t
ask_answers read request buffer t v e due =
    ask_enough read buffer t v (not_short answer_room (length buffer) (reader_refusal read) due) ∙ ap (λ (r : Result Request Refusal). reading r buffer t) e

pub scan_room : (cap : ℕ) (serials addresses : List ℕ) (n : ℕ) → refusal_due n (scan cap serials addresses) ≡ None → n ≤ min (length serials) (length addresses)
scan_room cap serials addresses n due = not_short n (min (length serials) (length addresses)) None due
