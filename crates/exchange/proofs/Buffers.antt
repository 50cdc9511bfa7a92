-- The three buffers of the judge: number 1 where one is too short, and what they hold afterwards.
-- Assumes nothing.
use Rattle.std.specs.Prelude.{Result, Ok, Err}
use Rattle.exchange.specs.declared.judge.Accepted.{Accepted}
use mathlib.Core.Path.{◌≡◌, sym, ap, ◌∙◌, subst}
use mathlib.Core.Bool.{true, false, ◌&&◌}
use mathlib.Core.List.{List}
use mathlib.Core.Logic.{⊎_elim}
use mathlib.Mathlib.Logic.Function.Defs.{id}
use Prim.Native.Nat.{ℕ, ◌≤◌, ◌<◌, min}
use native.Mathlib.Omega.{arith}
use lib.Dec.{leb}
use lib.ListN.{length, take, length-take}
use lib.Seq.{take_all}
use borrow.Author.Tests.{le-leb, leb-true}
use Rattle.lists.specs.Choice.{pick}
use Rattle.refusal.specs.Number.{output_short, at_place}
use Rattle.lists.specs.Starting.{starting}
use Rattle.refusal.specs.declared.Refusal.{Refusal}
use Rattle.lists.proofs.Cases.{both, both_first, both_second, le_or_lt}
use Rattle.exchange.specs.declared.judge.Replies.{Replies as RepliesStruct}
use Rattle.escapes.specs.Logical.{logicals_at}
use Rattle.telegram.specs.Telegram.{command_room, reply_room}
use Rattle.exchange.specs.Exchange.{Outcome, rejected, exchange, limit, rooms, judged}
use Rattle.exchange.specs.View.{answered, command_of, first_of, second_of, Judges}
use Rattle.exchange.specs.Inner.{replies_of}

-- ---- the rooms

module _ (command first second : ℕ) where
  pub have_rooms : command_room ≤ command → reply_room ≤ first → reply_room ≤ second → rooms command first second ≡ true
  unfolding rooms
  have_rooms c f s = both (le-leb _ _ c) (both (le-leb _ _ f) (le-leb _ _ s))

  pub rooms_had : rooms command first second ≡ true → (command_room ≤ command) × (reply_room ≤ first) × (reply_room ≤ second)
  unfolding rooms
  rooms_had t =
      let replies = both_second (leb command_room command) (leb reply_room first && leb reply_room second) t in (
        leb-true _ _ (both_first (leb command_room command) (leb reply_room first && leb reply_room second) t),
        leb-true _ _ (both_first (leb reply_room first) (leb reply_room second) replies),
        leb-true _ _ (both_second (leb reply_room first) (leb reply_room second) replies),
      )

  module _ (run : List ℕ) where
    pub judged_short : rooms command first second ≡ false → judged run command first second ≡ rejected (at_place output_short 0)
    unfolding judged
    judged_short t = ap (λ b. pick b (exchange (take limit run)) (rejected (at_place output_short 0))) t

    pub judged_roomy : rooms command first second ≡ true → judged run command first second ≡ exchange (take limit run)
    unfolding judged
    judged_roomy t = ap (λ b. pick b (exchange (take limit run)) (rejected (at_place output_short 0))) t

    pub room_enough : command_room ≤ command → reply_room ≤ first → reply_room ≤ second → judged run command first second ≡ exchange (take limit run)
    room_enough c f s = judged_roomy (have_rooms c f s)

-- ---- the bytes that are read

-- as many as there are, and no more than the limit
module _ (run : List ℕ) (n : ℕ) (is : n ≡ min (length run) limit) where
  pub read_length : n ≡ length (take n run)
  read_length = omega (arith, is, length-take n run)

  pub read_part : take n run ≡ take limit run
  read_part =
      ⊎_elim (λ (h : length run ≤ limit). take_all n run (omega arith) ∙ sym (take_all limit run h)) (λ (h : limit < length run). ap (λ (k : ℕ). take k run) (let e : n ≡ limit = omega arith in e))
      (le_or_lt (length run) limit)

-- ---- the buffers afterwards

module _ (o : Outcome) (command first second : List ℕ) where
  -- a refusal leaves the buffers as they were
  pub refuses : (why : Refusal) (r : Result Accepted Refusal) → o ≡ rejected why → r ≡ Err why → Judges id o r command command first first second second
  refuses why r e is =
      record {
        result = is ∙ ap answered (sym e);
        command_buffer = ap (λ (x : Outcome). starting (command_of x) command) (sym e);
        first_buffer = ap (λ (x : Outcome). starting (first_of x) first) (sym e);
        second_buffer = ap (λ (x : Outcome). starting (second_of x) second) (sym e);
      }

  -- an acceptance fills them
  pub accepts : (bytes run : List ℕ) (at : ℕ) (e : RepliesStruct) (command' first' second' : List ℕ)
      → o ≡ replies_of (Ok e) run at bytes
      → command' ≡ starting bytes command
      → first' ≡ starting (logicals_at run e.len1 at) first
      → second' ≡ starting (logicals_at run e.len2 e.second) second
      → Judges id o (Ok e.accepted) command command' first first' second second'
  accepts bytes run at e command' first' second' is c f s =
      record {
        result = ap answered (sym is);
        command_buffer = c ∙ ap (λ (x : Outcome). starting (command_of x) command) (sym is);
        first_buffer = f ∙ ap (λ (x : Outcome). starting (first_of x) first) (sym is);
        second_buffer = s ∙ ap (λ (x : Outcome). starting (second_of x) second) (sym is);
      }

-- the same outcome under another name
pub judges_same : {o o' : Outcome} {r : Result Accepted Refusal} {command command' first first' second second' : List ℕ} → o' ≡ o
    → Judges id o r command command' first first' second second' → Judges id o' r command command' first first' second second'
judges_same {o} {o'} {r} {command} {command'} {first} {first'} {second} {second'} e j =
    subst (λ (x : Outcome). Judges id x r command command' first first' second second') (sym e) j

-- the same promise with its result shown otherwise
pub judges_shown : {A : Type 0} (shows : Result Accepted Refusal → A) (o : Outcome) (j : Result Accepted Refusal) (r : A) (command command' first first' second second' : List ℕ) → r ≡ shows j
    → Judges id o j command command' first first' second second' → Judges shows o r command command' first first' second second'
judges_shown shows o j r command command' first first' second second' e judges =
    record {
      result = e ∙ ap shows judges.result;
      command_buffer = judges.command_buffer;
      first_buffer = judges.first_buffer;
      second_buffer = judges.second_buffer;
    }
