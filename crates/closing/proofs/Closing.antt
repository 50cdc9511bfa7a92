-- Closing: the answer by what a state holds, and what the buffers then start with.
-- Assumes nothing.
use Rattle.std.specs.Prelude.{Result, Err}
use Rattle.exchange.specs.declared.judge.Accepted.{Accepted}
use mathlib.Core.Path.{◌≡◌, refl, sym, ap, ◌∙◌, subst}
use mathlib.Core.Bool.{Bool, true, false, ◌&&◌}
use mathlib.Core.List.{List}
use mathlib.Core.Logic.{⊎_elim}
use mathlib.Mathlib.Logic.Function.Defs.{id}
use Prim.Native.Nat.{ℕ, ◌+◌, ◌≤◌, ◌<◌, min}
use native.Mathlib.Omega.{arith}
use lib.Dec.{eqb, leb}
use lib.ListN.{length, take, length-take}
use lib.Seq.{take-take, take_all}
use borrow.Author.Tests.{leb-true, le-leb, lt-leb, eq-eqb, ne_eqb}
use Rattle.lists.specs.Choice.{pick}
use Rattle.lists.specs.Starting.{starting}
use Rattle.lists.proofs.Cases.{le_or_lt, both_first, both_second}
use Rattle.lists.proofs.Filling.{put_whole}
use Rattle.refusal.specs.Number.{output_short, run_ended, at_place}
use Rattle.refusal.specs.declared.Refusal.{Refusal}
use Rattle.addresses.specs.Address.{kind_of}
use Rattle.telegram.specs.Telegram.{command_room, reply_room, destination_of}
use Rattle.exchange.specs.Exchange.{limit, Outcome, accepted, rejected, rooms}
use Rattle.exchange.specs.View.{Judges}
use Rattle.listening.specs.declared.Listening.{Listening}
use Rattle.listening.specs.Listening.{nothing_due, hand_room, heard, has_answered, answers, kept_command, kept_first, kept_second, answer, closed, closing, closing_state}
use Rattle.listening.proofs.Undecided.{hand_size}

-- ---- the buffers

pub rooms_had : (command first second : ℕ) → rooms command first second ≡ true → (command_room ≤ command) × (reply_room ≤ first) × (reply_room ≤ second)
unfolding rooms
rooms_had command first second h =
    let replies = both_second (leb command_room command) (leb reply_room first && leb reply_room second) h in (
      leb-true command_room command (both_first (leb command_room command) (leb reply_room first && leb reply_room second) h),
      leb-true reply_room first (both_first (leb reply_room first) (leb reply_room second) replies),
      leb-true reply_room second (both_second (leb reply_room first) (leb reply_room second) replies),
    )

-- a refusal leaves them as they were
pub judges_refused : (o : Outcome) (why : Refusal) (r : Result Accepted Refusal) (command first second : List ℕ) → o ≡ rejected why → r ≡ Err why → Judges id o r command command first first second second
judges_refused o why r command first second e is =
    subst (λ (x : Outcome). Judges id x r command command first first second second) (sym e) (record { result = is; command_buffer = refl; first_buffer = refl; second_buffer = refl })

pub judges_same : {o o' : Outcome} {r : Result Accepted Refusal} {command command' first first' second second' : List ℕ} → o ≡ o' → Judges id o' r command command' first first' second second'
    → Judges id o r command command' first first' second second'
judges_same {o} {o'} {r} {command} {command'} {first} {first'} {second} {second'} e j =
    subst (λ (x : Outcome). Judges id x r command command' first first' second second') (sym e) j

-- the first of what is kept, as many as a state says and as there is room for
kept_cut : (kept : List ℕ) (n room m : ℕ) → m ≡ min n room → take m kept ≡ take n (take room kept)
kept_cut kept n room m e =
    ⊎_elim (λ (h : n ≤ room). let is : m ≡ n = omega arith in ap (λ (k : ℕ). take k kept) is ∙ sym (take-take n room kept h))
    (λ (h : room < n). let is : m ≡ room = omega arith in ap (λ (k : ℕ). take k kept) is ∙ sym (take_all n (take room kept) (omega (arith, length-take room kept))))
    (le_or_lt n room)

pub put_kept : (kept old new : List ℕ) (n room m : ℕ) → m ≡ min n room → room ≤ length old → new ≡ starting (take (length old) (take m kept)) old → new ≡ starting (take n (take room kept)) old
put_kept kept old new n room m e fits is =
    is ∙ put_whole (take m kept) old (omega (arith, length-take m kept)) ∙ ap (λ (l : List ℕ). starting l old) (kept_cut kept n room m e)

-- ---- the answer

module _ (s : Listening) where
  pub heard_is : length s.raw ≡ hand_room → (used : ℕ) → used ≡ min limit (s.start + min s.held hand_room) → used ≡ heard s
  heard_is size used is = is ∙ ap (λ (k : ℕ). min limit (s.start + k)) (sym (hand_size s size))

  abbrev ends : Outcome
  ends = rejected (at_place run_ended (heard s))

  abbrev refuses : Outcome
  refuses = rejected (at_place s.number s.place)

  abbrev accepts : Outcome
  accepts = accepted (kind_of (destination_of s.kept)) s.command_attempts s.reply_attempts s.start (kept_command s) (kept_first s) (kept_second s)

  by_answered : (t : Bool) → leb nothing_due s.due ≡ t → answer s ≡ pick t (pick (eqb s.number 0) accepts refuses) ends
  unfolding answer has_answered
  by_answered t e = ap (λ (b : Bool). pick b (pick (eqb s.number 0) accepts refuses) ends) e

  pub answer_ends : s.due < nothing_due → answer s ≡ ends
  answer_ends h = by_answered false (lt-leb nothing_due s.due h)

  pub answer_refuses : nothing_due ≤ s.due → (s.number ≡ 0 → ⊥) → answer s ≡ refuses
  answer_refuses h n = by_answered true (le-leb nothing_due s.due h) ∙ ap (λ (b : Bool). pick b accepts refuses) (ne_eqb s.number 0 n)

  pub answer_accepts : nothing_due ≤ s.due → s.number ≡ 0 → answer s ≡ accepts
  answer_accepts h n = by_answered true (le-leb nothing_due s.due h) ∙ ap (λ (b : Bool). pick b accepts refuses) (eq-eqb s.number 0 n)

  pub closed_before : nothing_due ≤ s.due → s ≡ closed s
  unfolding closed has_answered
  closed_before h = sym (ap (λ (b : Bool). pick b s (answers s (heard s) run_ended (heard s))) (le-leb nothing_due s.due h))

  pub closed_now : s.due < nothing_due → answers s (heard s) run_ended (heard s) ≡ closed s
  unfolding closed has_answered
  closed_now h = sym (ap (λ (b : Bool). pick b s (answers s (heard s) run_ended (heard s))) (lt-leb nothing_due s.due h))

  module _ (command first second : ℕ) where
    pub closing_is : (t : Bool) → rooms command first second ≡ t → closing s command first second ≡ pick t (answer s) (rejected (at_place output_short 0))
    unfolding closing
    closing_is t e = ap (λ (b : Bool). pick b (answer s) (rejected (at_place output_short 0))) e

    pub closing_state_is : (t : Bool) → rooms command first second ≡ t → closing_state s command first second ≡ pick t (closed s) s
    unfolding closing_state
    closing_state_is t e = ap (λ (b : Bool). pick b (closed s) s) e
