-- Where listening stands: what a state says of the exchange, whatever follows, and that each byte keeps it so.
-- Assumes nothing.
use mathlib.Core.Path.{◌≡◌, refl, sym, ap, ◌∙◌, subst}
use mathlib.Core.Bool.{Bool, true, false}
use mathlib.Core.List.{List, [], ◌∷◌, ◌++◌, append_assoc, append-nil}
use mathlib.Core.Logic.{⊎_elim}
use Prim.Native.Nat.{ℕ, ◌+◌, ◌≤◌, ◌<◌}
use native.Mathlib.Omega.{arith}
use lib.Dec.{eqb}
use lib.ListN.{length, take, drop, length-append, get_or-append}
use borrow.Author.Tests.{eqb-true, eqb-false, ne_eqb}
use Rattle.lists.specs.Choice.{pick}
use Rattle.lists.specs.Starting.{starting}
use Rattle.lists.proofs.Cases.{pick_cases}
use Rattle.lists.proofs.Filling.{length_starting}
use Rattle.refusal.specs.Number.{run_ended, at_place}
use Rattle.refusal.specs.declared.Refusal.{Refusal}
use Rattle.escapes.specs.Logical.{run_over}
use Rattle.escapes.proofs.LongerRun.{OtherRefusal}
use Rattle.escapes.proofs.Shifted.{later_refusal}
use Rattle.addresses.specs.declared.ExchangeKind.{ExchangeKind}
use Rattle.addresses.specs.declared.ExchangeKind.TheVariants.{Broadcast, InitiatorInitiator, InitiatorTarget}
use Rattle.addresses.specs.Address.{kind_of}
use Rattle.telegram.specs.Telegram.{command_room, reply_room, destination_of}
use Rattle.beginning.specs.Beginning.{command_start}
use Rattle.attempts.specs.Attempt.{Attempt, taken, nacked, failed, attempt_at}
use Rattle.attempts.specs.Looks.{looked_at}
use Rattle.attempts.proofs.LongerRun.{OtherAttempt, attempt_stays}
use Rattle.attempts.proofs.Looked.{LookedAs, looked_as}
use Rattle.attempts.proofs.Shifted.{later_attempt, later_attempt_lem}
use Rattle.attempts.proofs.Sized.{Sized, AttemptSized, attempt_sized, attempt_none}
use Rattle.exchange.specs.Exchange.{on_second, on_first, tries_at, End, syn_at, Outcome, accepted, rejected, on_end, on_reply, on_kind, on_command, exchange}
use Rattle.listening.specs.declared.Listening.{Listening}
use Rattle.listening.specs.Listening.{first_place, second_place, kept_room, syn_due, in_hand, has_answered, in_hand_now, goes_on, keeps_command, keeps_first, keeps_second, refuses, due_behind, replies_to, on_taken, on_nacked, on_attempt, kept_command, kept_first, kept_second, answer}
use Rattle.listening.proofs.Undecided.{ended_place, ended_looks, in_hand_now_lem, near}
use Rattle.cuts.specs.Cuts.{Open}
use Rattle.cuts.proofs.Kept.{put_length, put_front, put_byte, put_middle, put_there, start_there}

-- ---- where it stands

-- the bytes that were used, with those before the ones in hand
pub record Heard (p : List ℕ) (s : Listening) : Type 0 where
  pub before : List ℕ
  pub split : p ≡ before ++ in_hand s
  pub begins : length before ≡ s.start
  pub room : length s.kept ≡ kept_room

abbrev pub Undecided : Bool → Listening → Type 0
Undecided command s = attempt_at command (in_hand s) 0 ≡ failed (run_over (in_hand s))

-- whatever follows these bytes, the exchange is this
abbrev pub Is : List ℕ → (List ℕ → Outcome) → Type 0
Is p said = (more : List ℕ) → exchange (p ++ more) ≡ said (p ++ more)

-- whatever follows, the command starts where what is in hand and that would have it
abbrev pub Starts : List ℕ → Listening → Type 0
Starts p s = (more : List ℕ) → command_start (p ++ more) ≡ s.start + command_start (in_hand s ++ more)

pub record NoReply (s : Listening) : Type 0 where
  pub first : s.reply_1_length ≡ 0
  pub second : s.reply_2_length ≡ 0
  pub attempts : s.reply_attempts ≡ 0

abbrev pub kept_kind : Listening → ExchangeKind
kept_kind s = kind_of (destination_of s.kept)

-- the exchange by an attempt that is due
abbrev pub by_first_command : List ℕ → Attempt → Outcome
by_first_command r a = on_command r (on_first true r a)

abbrev pub by_second_command : List ℕ → List ℕ → Attempt → Outcome
by_second_command first r a = on_command r (on_second true first a)

abbrev pub by_first_reply : Listening → List ℕ → Attempt → Outcome
by_first_reply s r a = on_reply s.command_attempts (kept_command s) r (on_first false r a)

abbrev pub by_second_reply : Listening → List ℕ → Attempt → Outcome
by_second_reply s r a = on_reply s.command_attempts (kept_command s) r (on_second false (kept_first s) a)

abbrev pub by_end : Listening → End → Outcome
by_end s x = on_end (kept_kind s) s.command_attempts s.reply_attempts (kept_command s) (kept_first s) (kept_second s) x

pub data Stage (p : List ℕ) (s : Listening) : Type 0 where
  first_command : s.due ≡ 0 → Heard p s → Undecided true s → NoReply s → Starts p s → Stage p s
  second_command : s.due ≡ 1 → Heard p s → Undecided true s → NoReply s → (first : List ℕ) → Is p (λ r. by_second_command first r (attempt_at true r s.start)) → Stage p s
  first_reply : s.due ≡ 2 → Heard p s → Undecided false s → NoReply s → kept_kind s ≡ InitiatorTarget → Is p (λ r. by_first_reply s r (attempt_at false r s.start)) → Stage p s
  second_reply : s.due ≡ 3 → Heard p s → Undecided false s → kept_kind s ≡ InitiatorTarget → Is p (λ r. by_second_reply s r (attempt_at false r s.start)) → Stage p s
  syn_is_due : s.due ≡ 4 → Heard p s → in_hand s ≡ [] → Is p (λ r. by_end s (syn_at r s.start)) → Stage p s
  known : has_answered s ≡ true → Is p (λ r. answer s) → (Open (answer s) → ⊥) → Stage p s

-- ---- a byte more

-- the same state where this is due
abbrev pub dued : Listening → ℕ → Listening
dued s d =
    record { start = s.start; place = s.place; due = d; number = s.number; held = s.held; command_attempts = s.command_attempts; reply_attempts = s.reply_attempts; command_length = s.command_length; reply_1_length = s.reply_1_length; reply_2_length = s.reply_2_length; raw = s.raw; kept = s.kept }

abbrev pub number_of : Outcome → ℕ
number_of (accepted kind commands replies next command first second) = 0
number_of (rejected why) = why.number

tries_are : (command : Bool) (r : List ℕ) (at : ℕ) → tries_at command r at ≡ on_first command r (attempt_at command r at)
unfolding tries_at
tries_are command r at = refl

-- number 3 is the end of the bytes
ended_is : (command : Bool) (c : List ℕ) (why : Refusal) → attempt_at command c 0 ≡ failed why → why.number ≡ run_ended → attempt_at command c 0 ≡ failed (run_over c)
ended_is command c why e n =
    let three : attempt_at command c 0 ≡ failed (at_place run_ended why.place) = e ∙ ap (λ (k : ℕ). failed (at_place k why.place)) n in
    three ∙ ap (λ (k : ℕ). failed (at_place run_ended k)) (ended_place command c why.place three)

module _ (p : List ℕ) (s : Listening) (h : Heard p s) (b : ℕ) where
  abbrev pub c : List ℕ
  c = in_hand s ++ b ∷ []

  abbrev pub p₁ : List ℕ
  p₁ = p ++ b ∷ []

  pub moved : (said : List ℕ → Outcome) → Is p said → Is p₁ said
  moved said is more = subst (λ (r : List ℕ). exchange r ≡ said r) (sym (append_assoc p (b ∷ []) more)) (is (b ∷ more))

  pub one_more : p₁ ≡ h.before ++ c
  one_more = ap (λ (x : List ℕ). x ++ b ∷ []) h.split ∙ append_assoc h.before (in_hand s) (b ∷ [])

  size : length p₁ ≡ s.start + length c
  size = omega (arith, ap length one_more, length-append h.before c, h.begins)

  -- nothing in hand any more
  pub anew : (t : Listening) → t.held ≡ 0 → t.start ≡ s.start + length c → length t.kept ≡ kept_room → Heard p₁ t
  anew t e at room =
      record {
        before = p₁;
        split = sym (append-nil p₁) ∙ ap (λ (n : ℕ). p₁ ++ take n t.raw) (sym e);
        begins = size ∙ sym at;
        room = room;
      }

  -- one byte more in hand
  pub laid : Heard p₁ (in_hand_now s c)
  laid =
      record { before = h.before; split = one_more ∙ ap (λ (x : List ℕ). h.before ++ x) (sym (in_hand_now_lem s c)); begins = h.begins; room = h.room }

  pub laid_open : (command : Bool) → attempt_at command c 0 ≡ failed (run_over c) → Undecided command (in_hand_now s c)
  laid_open command e = subst (λ (x : List ℕ). attempt_at command x 0 ≡ failed (run_over x)) (sym (in_hand_now_lem s c)) e

  -- ---- an attempt that is decided by this byte

  module _ (command : Bool) (undecided : Undecided command s) where
    looked_here : OtherAttempt (attempt_at command c 0) → looked_at command c 0 ≡ length c
    looked_here other =
        let far = ended_looks command (in_hand s) b [] undecided in
        let most : looked_at command c 0 ≤ length c = subst (λ (x : List ℕ). looked_at command x 0 ≤ length c) (append-nil c) (near command c [] other) in
        omega (arith, far, most, length-append (in_hand s) (b ∷ []))

    there : OtherAttempt (attempt_at command c 0) → (more : List ℕ) → attempt_at command (p₁ ++ more) s.start ≡ later_attempt s.start (attempt_at command c 0)
    there other more =
        let whole : p₁ ++ more ≡ h.before ++ (c ++ more) = ap (λ (x : List ℕ). x ++ more) one_more ∙ append_assoc h.before c more in
        let at : s.start ≡ length h.before + 0 = omega (arith, h.begins) in
        let stays : attempt_at command (c ++ more) 0 ≡ attempt_at command c 0 =
        ⊎_elim (λ (e : attempt_at command c 0 ≡ failed (run_over c)). absurd (subst OtherAttempt e other refl))
        (λ (e : (attempt_at command (c ++ more) 0 ≡ attempt_at command c 0) × OtherAttempt (attempt_at command c 0)). e.0) (attempt_stays c more command 0) in
        ap (λ (r : List ℕ). attempt_at command r s.start) whole
        ∙ ap (attempt_at command (h.before ++ (c ++ more))) at
        ∙ later_attempt_lem h.before (c ++ more) command 0
        ∙ ap (λ (k : ℕ). later_attempt k (attempt_at command (c ++ more) 0)) h.begins
        ∙ ap (later_attempt s.start) stays

    pub settled_now : (by : List ℕ → Attempt → Outcome) → Is p₁ (λ r. by r (attempt_at command r s.start))
        → (a : Attempt) → attempt_at command c 0 ≡ a → OtherAttempt a → Is p₁ (λ r. by r (later_attempt s.start a))
    settled_now by is a e other more =
        is more ∙ ap (by (p₁ ++ more)) (there (subst OtherAttempt (sym e) other) more ∙ ap (later_attempt s.start) e)

    pub settled : (by : List ℕ → Attempt → Outcome) → Is p (λ r. by r (attempt_at command r s.start))
        → (a : Attempt) → attempt_at command c 0 ≡ a → OtherAttempt a → Is p₁ (λ r. by r (later_attempt s.start a))
    settled by is a e other = settled_now by (moved (λ r. by r (attempt_at command r s.start)) is) a e other

    -- it ends with this byte, and its telegram has its size
    pub decided_as : (a : Attempt) → attempt_at command c 0 ≡ a → OtherAttempt a → LookedAs (length c) a × AttemptSized command a
    decided_as a e other =
        let k = looked_here (subst OtherAttempt (sym e) other) in
        (subst (LookedAs (length c)) e (subst (λ (n : ℕ). LookedAs n (attempt_at command c 0)) k (looked_as command c 0)), subst (AttemptSized command) e (attempt_sized command c 0))

  -- ---- where it stands then

  -- a refusal, at a place of what was in hand
  answer_refused : (why : Refusal) → 0 < why.number → answer (refuses s (length c) why) ≡ rejected (later_refusal s.start why)
  unfolding answer has_answered
  answer_refused why some =
      let o = rejected (later_refusal s.start why) in
      let t = refuses s (length c) why in
      let other = accepted (kind_of (destination_of t.kept)) t.command_attempts t.reply_attempts t.start (kept_command t) (kept_first t) (kept_second t) in
      ap (λ (x : Bool). pick x other o) (ne_eqb why.number 0 (λ e. let f : ⊥ = omega (arith, e, some) in f))

  pub refused : (why : Refusal) → 0 < why.number → OtherRefusal why → Is p₁ (λ r. rejected (later_refusal s.start why)) → Stage p₁ (refuses s (length c) why)
  unfolding has_answered
  refused why some other is =
      let told = answer_refused why some in
      known refl (λ more. is more ∙ sym told) (λ o. other (ap number_of (sym told ∙ o.1)))

  -- an accepted command, by its kind
  module _ (attempts : ℕ) (t : List ℕ) (sized : Sized true t) (none : NoReply s) where
    abbrev pub start₁ : ℕ
    start₁ = s.start + length c

    abbrev s₁ : ℕ → Listening
    s₁ due = goes_on (keeps_command s attempts t) start₁ due

    kept_room_lem : length (starting t s.kept) ≡ kept_room
    kept_room_lem = length_starting t s.kept (omega (arith, sized.1, h.room)) ∙ h.room

    same_destination : destination_of (starting t s.kept) ≡ destination_of t
    same_destination = get_or-append t (drop (length t) s.kept) 0 1 (omega (arith, sized.0))

    same_command : (due : ℕ) → kept_command (s₁ due) ≡ t
    same_command due = start_there s.kept t command_room sized.1

    ends : (kind : ExchangeKind) → kind_of (destination_of (starting t s.kept)) ≡ kind → Is p₁ (λ r. on_end kind attempts 0 t [] [] (syn_at r start₁)) → Stage p₁ (s₁ syn_due)
    ends kind e is =
        syn_is_due refl (anew (s₁ syn_due) refl refl kept_room_lem) refl
        (λ more.
        let x = syn_at (p₁ ++ more) start₁ in
        is more
        ∙ ap (λ (k : ExchangeKind). on_end k attempts 0 t [] [] x) (sym e)
        ∙ ap (λ (n : ℕ). on_end (kept_kind (s₁ syn_due)) attempts n t [] [] x) (sym none.attempts)
        ∙ ap (λ (l : List ℕ). on_end (kept_kind (s₁ syn_due)) attempts s.reply_attempts l [] [] x) (sym (same_command syn_due))
        ∙ ap (λ (n : ℕ). on_end (kept_kind (s₁ syn_due)) attempts s.reply_attempts (kept_command (s₁ syn_due)) (take n (take reply_room (drop first_place (starting t s.kept)))) [] x) (sym none.first)
        ∙ ap (λ (n : ℕ). on_end (kept_kind (s₁ syn_due)) attempts s.reply_attempts (kept_command (s₁ syn_due)) (kept_first (s₁ syn_due)) (take n (take reply_room (drop second_place (starting t s.kept)))) x) (sym none.second))

    by_kind : (kind : ExchangeKind) → kind_of (destination_of (starting t s.kept)) ≡ kind → Is p₁ (λ r. on_kind attempts t r start₁ kind) → Stage p₁ (s₁ (due_behind kind))
    by_kind Broadcast e is = ends Broadcast e is
    by_kind InitiatorInitiator e is = ends InitiatorInitiator e is
    by_kind InitiatorTarget e is =
        first_reply refl (anew (s₁ 2) refl refl kept_room_lem) (attempt_none false) (record { first = none.first; second = none.second; attempts = none.attempts }) e
        (λ more. is more ∙ ap (λ (l : List ℕ). on_reply attempts l (p₁ ++ more) (tries_at false (p₁ ++ more) start₁)) (sym (same_command 2)) ∙ ap (on_reply attempts (kept_command (s₁ 2)) (p₁ ++ more)) (tried (p₁ ++ more)))
      where
        tried : (r : List ℕ) → tries_at false r start₁ ≡ on_first false r (attempt_at false r start₁)
        tried r = tries_are false r start₁

    pub command_kept : Is p₁ (λ r. on_kind attempts t r start₁ (kind_of (destination_of t))) → Stage p₁ (replies_to (keeps_command s attempts t) start₁)
    command_kept is =
        by_kind (kind_of (destination_of (starting t s.kept))) refl
        (λ more. is more ∙ ap (λ (n : ℕ). on_kind attempts t (p₁ ++ more) start₁ (kind_of n)) (sym same_destination))

  -- a reply's attempt that is kept, as the first or the second
  module _ (t : List ℕ) (sized : Sized false t) where
    first_room : length (take first_place s.kept ++ starting t (drop first_place s.kept)) ≡ kept_room
    first_room = put_length s.kept t first_place (omega (arith, h.room)) (omega (arith, h.room, sized.1)) ∙ h.room

    second_room : length (take second_place s.kept ++ starting t (drop second_place s.kept)) ≡ kept_room
    second_room = put_length s.kept t second_place (omega (arith, h.room)) (omega (arith, h.room, sized.1)) ∙ h.room

    module _ (attempts due : ℕ) where
      abbrev f₁ : Listening
      f₁ = goes_on (keeps_first s attempts t) (s.start + length c) due

      first_kind : kept_kind f₁ ≡ kept_kind s
      first_kind = ap kind_of (put_byte s.kept t first_place (omega (arith, h.room)) 1 (omega arith))

      first_command_kept : kept_command f₁ ≡ kept_command s
      first_command_kept = ap (take s.command_length) (put_front s.kept t first_place (omega (arith, h.room)) command_room (omega arith))

      first_kept : kept_first f₁ ≡ t
      first_kept = put_there s.kept t first_place (omega (arith, h.room)) reply_room sized.1

      abbrev z₁ : Listening
      z₁ = goes_on (keeps_second s attempts t) (s.start + length c) due

      second_kind : kept_kind z₁ ≡ kept_kind s
      second_kind = ap kind_of (put_byte s.kept t second_place (omega (arith, h.room)) 1 (omega arith))

      second_command_kept : kept_command z₁ ≡ kept_command s
      second_command_kept = ap (take s.command_length) (put_front s.kept t second_place (omega (arith, h.room)) command_room (omega arith))

      second_first_kept : kept_first z₁ ≡ kept_first s
      second_first_kept = ap (take s.reply_1_length) (put_middle s.kept t second_place (omega (arith, h.room)) first_place reply_room refl)

      second_kept : kept_second z₁ ≡ t
      second_kept = put_there s.kept t second_place (omega (arith, h.room)) reply_room sized.1

    -- the reply's first attempt is taken
    pub first_taken : NoReply s → kept_kind s ≡ InitiatorTarget
        → Is p₁ (λ r. on_end InitiatorTarget s.command_attempts 1 (kept_command s) t [] (syn_at r (s.start + length c)))
        → Stage p₁ (f₁ 1 syn_due)
    first_taken none target is =
        let f = f₁ 1 syn_due in
        let n = s.command_attempts in
        syn_is_due refl (anew f refl refl first_room) refl
        (λ more.
        let x = syn_at (p₁ ++ more) (s.start + length c) in
        is more
        ∙ ap (λ (k : ExchangeKind). on_end k n 1 (kept_command s) t [] x) (sym target ∙ sym (first_kind 1 syn_due))
        ∙ ap (λ (l : List ℕ). on_end (kept_kind f) n 1 l t [] x) (sym (first_command_kept 1 syn_due))
        ∙ ap (λ (l : List ℕ). on_end (kept_kind f) n 1 (kept_command f) l [] x) (sym (first_kept 1 syn_due))
        ∙ ap (λ (m : ℕ). on_end (kept_kind f) n 1 (kept_command f) (kept_first f) (take m (take reply_room (drop second_place f.kept))) x) (sym none.second))

    -- .. or NACKed
    pub first_nacked : kept_kind s ≡ InitiatorTarget
        → Is p₁ (λ r. on_reply s.command_attempts (kept_command s) r (on_second false t (attempt_at false r (s.start + length c)))) → Stage p₁ (f₁ 0 3)
    first_nacked target is =
        let f = f₁ 0 3 in
        let n = s.command_attempts in
        second_reply refl (anew f refl refl first_room) (attempt_none false) (first_kind 0 3 ∙ target)
        (λ more.
        let a = attempt_at false (p₁ ++ more) (s.start + length c) in
        is more
        ∙ ap (λ (l : List ℕ). on_reply n l (p₁ ++ more) (on_second false t a)) (sym (first_command_kept 0 3))
        ∙ ap (λ (l : List ℕ). on_reply n (kept_command f) (p₁ ++ more) (on_second false l a)) (sym (first_kept 0 3)))

    -- the second is taken
    pub second_taken : kept_kind s ≡ InitiatorTarget
        → Is p₁ (λ r. on_end InitiatorTarget s.command_attempts 2 (kept_command s) (kept_first s) t (syn_at r (s.start + length c)))
        → Stage p₁ (z₁ 2 syn_due)
    second_taken target is =
        let z = z₁ 2 syn_due in
        let n = s.command_attempts in
        syn_is_due refl (anew z refl refl second_room) refl
        (λ more.
        let x = syn_at (p₁ ++ more) (s.start + length c) in
        is more
        ∙ ap (λ (k : ExchangeKind). on_end k n 2 (kept_command s) (kept_first s) t x) (sym target ∙ sym (second_kind 2 syn_due))
        ∙ ap (λ (l : List ℕ). on_end (kept_kind z) n 2 l (kept_first s) t x) (sym (second_command_kept 2 syn_due))
        ∙ ap (λ (l : List ℕ). on_end (kept_kind z) n 2 (kept_command z) l t x) (sym (second_first_kept 2 syn_due))
        ∙ ap (λ (l : List ℕ). on_end (kept_kind z) n 2 (kept_command z) (kept_first z) l x) (sym (second_kept 2 syn_due)))

  -- ---- by what the attempt is

  module _ (command : Bool) where
    pub by_attempt : (s₀ : Listening) → ((t : List ℕ) (next : ℕ) → attempt_at command c 0 ≡ taken t next → Stage p₁ (on_taken s₀ (length c) t))
        → ((t : List ℕ) (place : ℕ) → attempt_at command c 0 ≡ nacked t place → Stage p₁ (on_nacked s₀ (length c) t place))
        → ((why : Refusal) → attempt_at command c 0 ≡ failed why → OtherRefusal why → Stage p₁ (refuses s₀ (length c) why))
        → (attempt_at command c 0 ≡ failed (run_over c) → Stage p₁ (in_hand_now s₀ c))
        → (a : Attempt) → attempt_at command c 0 ≡ a → Stage p₁ (on_attempt s₀ c a)
    by_attempt s₀ on_taken_lem on_nacked_lem on_failed on_open (taken t next) e = on_taken_lem t next e
    by_attempt s₀ on_taken_lem on_nacked_lem on_failed on_open (nacked t place) e = on_nacked_lem t place e
    by_attempt s₀ on_taken_lem on_nacked_lem on_failed on_open (failed why) e =
        pick_cases (Stage p₁) (eqb why.number run_ended) _ _ (λ y. on_open (ended_is command c why e (eqb-true _ _ y))) (λ y. on_failed why e (eqb-false _ _ y))
