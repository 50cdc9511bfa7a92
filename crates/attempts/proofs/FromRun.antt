-- How an attempt goes on behind a telegram, by where it stands in the run.
-- Assumes nothing.
use Rattle.std.specs.Prelude.{Result, Ok, Err}
use mathlib.Core.Path.{◌≡◌, refl, sym, ap, ◌∙◌, subst}
use mathlib.Core.Bool.{Bool, true, false, ◌&&◌}
use mathlib.Core.List.{List, ◌++◌}
use Prim.Native.Nat.{ℕ, ◌+◌, ◌-◌, ◌≤◌, ◌<◌}
use native.Mathlib.Omega.{arith}
use lib.Dec.{eqb, ltb}
use lib.ListN.{length, get_or, take, drop}
use lib.Seq.{take-length}
use Rattle.lists.specs.Choice.{pick}
use Rattle.lists.proofs.Cases.{pick_cases}
use Rattle.refusal.specs.Number.{source_wrong, check_wrong, at_place}
use Rattle.refusal.specs.declared.Refusal.{Refusal}
use Rattle.escapes.specs.Escape.{syn, expanded}
use Rattle.escapes.specs.Logical.{logicals_at}
use Rattle.addresses.specs.Address.{kind_of}
use Rattle.checkbyte.specs.BitByBit.{check_by}
use Rattle.telegram.specs.declared.Extent.{Extent}
use Rattle.telegram.specs.Telegram.{room_of, last_of, read, unread, telegram_at}
use Rattle.telegram.specs.View.{extent_of}
use Rattle.telegram.proofs.TelegramRead.{told_read, told_unread, telegram_bytes, telegram_room, destination_raw, checked, started}
use Rattle.telegram.proofs.TelegramOnWire.{stood}
use Rattle.telegram.proofs.RefusedPlace.{refused_within}
use Rattle.attempts.specs.Attempt.{ack, nack, Acknowledge, positive, negative, invalid, acknowledge_at, to_all, unanswered, acknowledged, on_acknowledge, on_telegram, ending_at, taken, failed, settled_by, attempt_by}
use Rattle.attempts.specs.Looks.{known_behind, looked_by, looked_at}
use Rattle.attempts.specs.View.{Ready}
use Rattle.attempts.specs.Inner.{ReadFrom, right_by}

-- no bytes stand anywhere
pub ready_none : (command : Bool) (run : List ℕ) (start : ℕ) → Ready command run start 0
unfolding logicals_at expanded
ready_none command run start = record { room = none command; size = refl; rest = drop start run; wire = refl }
  where
    none : (c : Bool) → 0 ≤ room_of c
    none true = omega arith
    none false = omega arith

-- the part of a run that is all of it
pub all_of_it : (command : Bool) (run : List ℕ) (at : ℕ) {x : Result Extent Refusal} → x ≡ extent_of (telegram_at command (take (length run) run) at)
    → x ≡ extent_of (telegram_at command run at)
all_of_it command run at is = is ∙ ap (λ (r : List ℕ). extent_of (telegram_at command r at)) (take-length run)

module _ (command : Bool) (run : List ℕ) (at : ℕ) where
  module _ (t : Extent) (told : Ok t ≡ extent_of (telegram_at command run at)) where
    whole : (telegram_at command run at ≡ read (logicals_at run t.len at) t.last t.next) × (last_of (logicals_at run t.len at) ≡ t.value)
    whole =
        let w = told_read (telegram_at command run at) t told in
        let there : w.bytes ≡ logicals_at run t.len at =
        sym (telegram_bytes command run at w.bytes t.last t.next w.is) ∙ ap (λ (n : ℕ). logicals_at run n at) w.size in
        (w.is ∙ ap (λ (s : List ℕ). read s t.last t.next) there, ap last_of (sym there) ∙ w.final)

    pub read_from : ReadFrom run at t
    read_from =
        let s = logicals_at run t.len at in
        let k = checked command run at s t.last t.next whole.0 in
        let within = started command run at s t.last t.next whole.0 in
        record {
          command = command;
          is = whole.0;
          final = whole.1;
          begins = omega (arith, k.ends);
          ends = k.within within;
          behind = (stood command run at s t.last t.next whole.0).within within;
        }

    pub ready_read : Ready command run at t.len
    ready_read =
        let w = told_read (telegram_at command run at) t told in
        let there : logicals_at run t.len at ≡ w.bytes =
        ap (λ (n : ℕ). logicals_at run n at) (sym w.size) ∙ telegram_bytes command run at w.bytes t.last t.next w.is in
        let st = stood command run at w.bytes t.last t.next w.is in
        record {
          room = omega (arith, w.size, telegram_room command run at w.bytes t.last t.next w.is);
          size = ap length there ∙ w.size;
          rest = drop t.next run;
          wire = st.wire ∙ ap (λ (l : List ℕ). expanded l ++ drop t.next run) (sym there);
        }

    pub second_within : command ≡ true → at + 1 < length run
    second_within asked =
        (destination_raw run at (logicals_at run t.len at) t.last t.next (ap (λ (c : Bool). telegram_at c run at) (sym asked) ∙ whole.0)).0

    unanswered_is : unanswered command (logicals_at run t.len at) ≡ (command && to_all (kind_of (get_or run (at + 1) 0)))
    unfolding unanswered
    unanswered_is = by_command command whole.0
      where
        by_command : (c : Bool) → telegram_at c run at ≡ read (logicals_at run t.len at) t.last t.next
            → unanswered c (logicals_at run t.len at) ≡ (c && to_all (kind_of (get_or run (at + 1) 0)))
        by_command true e = ap (λ (b : ℕ). to_all (kind_of b)) (destination_raw run at (logicals_at run t.len at) t.last t.next e).1
        by_command false e = refl

    module _ (b : Bool) (e : (command && to_all (kind_of (get_or run (at + 1) 0))) ≡ b) where
      pub attempt_is : (tables : List ℕ)
          → attempt_by tables command run at
          ≡ settled_by (right_by tables run at) (pick b (acknowledged (logicals_at run t.len at) t.last t.next) (on_acknowledge (logicals_at run t.len at) t.last (acknowledge_at run t.next)))
      unfolding attempt_by ending_at
      attempt_is tables =
          let s = logicals_at run t.len at in
          let settled = settled_by (right_by tables run at) in
          ap (λ x. settled (on_telegram command run x)) whole.0
          ∙ ap (λ x. settled (pick x (acknowledged s t.last t.next) (on_acknowledge s t.last (acknowledge_at run t.next)))) (unanswered_is ∙ e)

      pub looked_is : looked_at command run at ≡ pick b t.next (t.next + 1)
      unfolding looked_at
      looked_is = ap (looked_by command run) whole.0 ∙ ap (λ x. pick x t.next (t.next + 1)) (unanswered_is ∙ e)

  module _ (why : Refusal) (told : Err why ≡ extent_of (telegram_at command run at)) where
    refused : telegram_at command run at ≡ unread why
    refused = told_unread (telegram_at command run at) why told

    pub attempt_refused : (tables : List ℕ) → attempt_by tables command run at ≡ failed why
    unfolding attempt_by ending_at
    attempt_refused tables = ap (λ x. settled_by (right_by tables run at) (on_telegram command run x)) refused

    pub looked_refused : looked_at command run at ≡ known_behind run why
    unfolding looked_at
    looked_refused = ap (looked_by command run) refused

    pub place_within : (why.place ≤ length run) × (source_wrong ≤ why.number → why.place < length run)
    place_within = refused_within command run at why refused

-- ---- the check byte, and the acknowledge byte

-- the check of a telegram that was read decides, once it is acknowledged
pub settled_by_lem : (tables run : List ℕ) (start : ℕ) (t : Extent) → ReadFrom run start t → (next : ℕ) (b : Bool)
    → eqb (check_by tables (take (t.last - start) (drop start run))) t.value ≡ b
    → settled_by (right_by tables run start) (acknowledged (logicals_at run t.len start) t.last next)
    ≡ pick b (taken (logicals_at run t.len start) next) (failed (at_place check_wrong t.last))
settled_by_lem tables run start t r next b e =
    ap (λ (x : Bool). pick x (taken (logicals_at run t.len start) next) (failed (at_place check_wrong t.last)))
    (ap (eqb (check_by tables (take (t.last - start) (drop start run)))) r.final ∙ e)

-- an FF is the byte at the position that was looked at
abbrev Stands : ℕ → Acknowledge → Type 0
Stands at (positive next) = Unit {0}
Stands at (negative place) = place ≡ at
Stands at (invalid why) = Unit {0}

acknowledge_stands : (run : List ℕ) (at : ℕ) → Stands at (acknowledge_at run at)
unfolding acknowledge_at
acknowledge_stands run at =
    let x = get_or run at 0 in
    let S = Stands at in
    pick_cases S (ltb at (length run)) _ _
    (λ _. pick_cases S (eqb x ack) _ _ (λ _. tt)
    (λ _. pick_cases S (eqb x nack) _ _ (λ _. refl) (λ _. pick_cases S (eqb x syn) _ _ (λ _. tt) (λ _. tt))))
    (λ _. tt)

pub negative_there : (run : List ℕ) (at place : ℕ) → acknowledge_at run at ≡ negative place → place ≡ at
negative_there run at place e = subst (Stands at) e (acknowledge_stands run at)
