-- Each byte keeps what a state says of the exchange, and a state that has not answered says that its bytes are not all.
-- Assumes nothing.
use mathlib.Core.Path.{◌≡◌, refl, sym, ap, ◌∙◌, subst}
use mathlib.Core.Bool.{Bool, true, false}
use mathlib.Core.List.{List, [], ◌∷◌, ◌++◌, append_assoc, append-nil}
use Prim.Native.Nat.{ℕ, ◌+◌, ◌<◌}
use native.Mathlib.Omega.{arith}
use lib.Dec.{eqb}
use lib.ListN.{length, get_or, length-append}
use lib.Seq.{get_or-append_seam}
use borrow.Author.Tests.{lt-ltb, le-ltb}
use Rattle.lists.specs.Choice.{pick}
use Rattle.lists.proofs.Cases.{by_test, pick_cases, true_not_false}
use Rattle.refusal.specs.Number.{run_ended, bus_error, command_nacked, reply_nacked, at_place}
use Rattle.refusal.specs.declared.Refusal.{Refusal}
use Rattle.escapes.specs.Escape.{syn}
use Rattle.escapes.specs.Logical.{run_over}
use Rattle.escapes.proofs.Shifted.{later_refusal, later_over}
use Rattle.addresses.specs.declared.ExchangeKind.TheVariants.{InitiatorTarget}
use Rattle.telegram.specs.Telegram.{destination_of}
use Rattle.addresses.specs.Address.{kind_of}
use Rattle.beginning.specs.Beginning.{piece, command_start}
use Rattle.beginning.proofs.Begun.{start_none, start_behind}
use Rattle.attempts.specs.Attempt.{Attempt, taken, nacked, failed, attempt_at}
use Rattle.attempts.proofs.LongerRun.{OtherAttempt}
use Rattle.attempts.proofs.Shifted.{later_attempt, later_attempt_lem}
use Rattle.attempts.proofs.Sized.{attempt_none}
use Rattle.exchange.specs.Exchange.{on_second, tries_at, End, ended, open_still, syn_at, Outcome, rejected, on_end, on_reply, on_kind, exchange_at, exchange}
use Rattle.listening.specs.declared.Listening.{Listening}
use Rattle.listening.specs.Listening.{in_hand, has_answered, goes_on, refuses, answers, on_taken, on_nacked, on_attempt, restarts, hear, kept_command, kept_first, answer}
use Rattle.listening.proofs.Undecided.{in_hand_now_lem}
use Rattle.listening.proofs.Restart.{hear_anew, hear_on, restarts_of, restarts_due, no_piece_yet, started}
use Rattle.cuts.proofs.Stages.{Heard, Undecided, Is, Starts, NoReply, kept_kind, by_first_command, by_second_command, by_first_reply, by_second_reply, by_end, Stage, first_command, second_command, first_reply, second_reply, syn_is_due, known, dued, number_of, moved, anew, laid, laid_open, settled_now, settled, decided_as, refused, command_kept, first_taken, first_nacked, second_taken, by_attempt}

-- the same with something else due
heard_too : (p : List ℕ) (s : Listening) (d : ℕ) → Heard p s → Heard p (dued s d)
heard_too p s d h = record { before = h.before; split = h.split; begins = h.begins; room = h.room }

no_reply_too : (s : Listening) (d : ℕ) → NoReply s → NoReply (dued s d)
no_reply_too s d none = record { first = none.first; second = none.second; attempts = none.attempts }

-- an exchange that SYN ended is accepted
accepted_known : (p : List ℕ) (s : Listening) (n : ℕ) → Is p (λ r. by_end s (ended n)) → Stage p (answers s n 0 0)
unfolding answer has_answered
accepted_known p s n is = known refl is (λ o. let three : 0 ≡ run_ended = ap number_of o.1 in let f : ⊥ = omega (arith, three) in f)

module _ (p : List ℕ) (s : Listening) (h : Heard p s) (b : ℕ) where
  abbrev c : List ℕ
  c = in_hand s ++ b ∷ []

  abbrev p₁ : List ℕ
  p₁ = p ++ b ∷ []

  -- ---- the first command

  pub starts_behind : Starts p s → (more : List ℕ) → command_start (p₁ ++ more) ≡ s.start + command_start (c ++ more)
  starts_behind starts more =
      ap command_start (append_assoc p (b ∷ []) more) ∙ starts (b ∷ more) ∙ ap (λ (r : List ℕ). s.start + command_start r) (sym (append_assoc (in_hand s) (b ∷ []) more))

  -- what is in hand is thrown away
  first_anew : NoReply s → Starts p s → piece c ≡ length c → Stage p₁ (goes_on (dued s 0) (s.start + length c) 0)
  first_anew none starts is =
      let s₀ = dued s 0 in
      let some : 0 < length c = omega (arith, length-append (in_hand s) (b ∷ [])) in
      first_command refl (anew p s₀ (heard_too p s 0 h) b (goes_on s₀ (s.start + length c) 0) refl refl h.room) (attempt_none true)
      (record { first = none.first; second = none.second; attempts = none.attempts })
      (λ more. omega (arith, starts_behind starts more, start_behind c more some is))

  -- the command has started where what was in hand starts
  first_started : Starts p s → ((more : List ℕ) → piece (c ++ more) ≡ 0) → Is p₁ (λ r. by_first_command r (attempt_at true r s.start))
  unfolding exchange_at tries_at
  first_started starts never more =
      let at : command_start (p₁ ++ more) ≡ s.start = omega (arith, starts_behind starts more, start_none (c ++ more) (never more)) in
      ap (λ (n : ℕ). by_first_command (p₁ ++ more) (attempt_at true (p₁ ++ more) n)) at

  first_on : Undecided true s → NoReply s → Starts p s → (piece c ≡ length c → ⊥) → Stage p₁ (on_attempt (dued s 0) c (attempt_at true c 0))
  unfolding on_taken on_nacked
  first_on undecided none starts no_piece =
      let s₀ = dued s 0 in
      let h₀ = heard_too p s 0 h in
      let is : OtherAttempt (attempt_at true c 0) → Is p₁ (λ r. by_first_command r (attempt_at true r s.start)) =
      λ other. first_started starts (started (in_hand s) b undecided other no_piece) in
      by_attempt p s₀ h₀ b true s₀
      (λ t next e.
      let d = decided_as p s₀ h₀ b true undecided (taken t next) e tt in
      command_kept p s₀ h₀ b 1 t d.1 (no_reply_too s 0 none)
      (subst (λ (n : ℕ). Is p₁ (λ r. on_kind 1 t r (s.start + n) (kind_of (destination_of t)))) d.0
      (settled_now p s₀ h₀ b true undecided by_first_command (is (subst OtherAttempt (sym e) tt)) (taken t next) e tt)))
      (λ t place e.
      let d = decided_as p s₀ h₀ b true undecided (nacked t place) e tt in
      let at : s.start + place + 1 ≡ s.start + length c = omega (arith, d.0) in
      let then = goes_on s₀ (s.start + length c) 1 in
      second_command refl (anew p s₀ h₀ b then refl refl h.room) (attempt_none true) (record { first = none.first; second = none.second; attempts = none.attempts }) t
      (subst (λ (n : ℕ). Is p₁ (λ r. by_second_command t r (attempt_at true r n))) at
      (settled_now p s₀ h₀ b true undecided by_first_command (is (subst OtherAttempt (sym e) tt)) (nacked t place) e tt)))
      (λ why e other.
      refused p s₀ h₀ b why (decided_as p s₀ h₀ b true undecided (failed why) e other).0 other
      (settled_now p s₀ h₀ b true undecided by_first_command (is (subst OtherAttempt (sym e) other)) (failed why) e other))
      (λ e.
      first_command refl (laid p s₀ h₀ b) (laid_open p s₀ h₀ b true e) (record { first = none.first; second = none.second; attempts = none.attempts })
      (λ more. starts_behind starts more ∙ ap (λ (x : List ℕ). s.start + command_start (x ++ more)) (sym (in_hand_now_lem s₀ c))))
      (attempt_at true c 0) refl

  on_first_command : Undecided true s → NoReply s → Starts p s → Stage p₁ (hear (dued s 0) b)
  on_first_command undecided none starts =
      let s₀ = dued s 0 in
      by_test (restarts s₀ c)
      (λ y. subst (Stage p₁) (sym (hear_anew s₀ b y)) (first_anew none starts (restarts_due s₀ c y).1))
      (λ y. subst (Stage p₁) (sym (hear_on s₀ b y)) (first_on undecided none starts (λ e. true_not_false (restarts_of s₀ c refl e) y)))

  on_second_command : Undecided true s → NoReply s → (first : List ℕ) → Is p (λ r. by_second_command first r (attempt_at true r s.start)) → Stage p₁ (hear (dued s 1) b)
  unfolding hear on_taken on_nacked
  on_second_command undecided none first is =
      let s₀ = dued s 1 in
      let h₀ = heard_too p s 1 h in
      let by = by_second_command first in
      by_attempt p s₀ h₀ b true s₀
      (λ t next e.
      let d = decided_as p s₀ h₀ b true undecided (taken t next) e tt in
      command_kept p s₀ h₀ b 2 t d.1 (no_reply_too s 1 none)
      (subst (λ (n : ℕ). Is p₁ (λ r. on_kind 2 t r (s.start + n) (kind_of (destination_of t)))) d.0 (settled p s₀ h₀ b true undecided by is (taken t next) e tt)))
      (λ t place e. refused p s₀ h₀ b (at_place command_nacked place) (omega arith) (λ three. omega arith) (settled p s₀ h₀ b true undecided by is (nacked t place) e tt))
      (λ why e other. refused p s₀ h₀ b why (decided_as p s₀ h₀ b true undecided (failed why) e other).0 other (settled p s₀ h₀ b true undecided by is (failed why) e other))
      (λ e.
      second_command refl (laid p s₀ h₀ b) (laid_open p s₀ h₀ b true e) (record { first = none.first; second = none.second; attempts = none.attempts }) first
      (moved p s₀ h₀ b (λ r. by r (attempt_at true r s.start)) is))
      (attempt_at true c 0) refl

  on_first_reply : Undecided false s → NoReply s → kept_kind s ≡ InitiatorTarget → Is p (λ r. by_first_reply s r (attempt_at false r s.start)) → Stage p₁ (hear (dued s 2) b)
  unfolding hear on_taken on_nacked
  on_first_reply undecided none target is =
      let s₀ = dued s 2 in
      let h₀ = heard_too p s 2 h in
      let by = by_first_reply s in
      by_attempt p s₀ h₀ b false s₀
      (λ t next e.
      let d = decided_as p s₀ h₀ b false undecided (taken t next) e tt in
      first_taken p s₀ h₀ b t d.1 (no_reply_too s 2 none) target
      (subst (λ (n : ℕ). Is p₁ (λ r. on_end InitiatorTarget s.command_attempts 1 (kept_command s) t [] (syn_at r (s.start + n)))) d.0 (settled p s₀ h₀ b false undecided by is (taken t next) e tt)))
      (λ t place e.
      let d = decided_as p s₀ h₀ b false undecided (nacked t place) e tt in
      let at : s.start + place + 1 ≡ s.start + length c = omega (arith, d.0) in
      first_nacked p s₀ h₀ b t d.1 target
      (subst (λ (n : ℕ). Is p₁ (λ r. on_reply s.command_attempts (kept_command s) r (on_second false t (attempt_at false r n)))) at (settled p s₀ h₀ b false undecided by is (nacked t place) e tt)))
      (λ why e other. refused p s₀ h₀ b why (decided_as p s₀ h₀ b false undecided (failed why) e other).0 other (settled p s₀ h₀ b false undecided by is (failed why) e other))
      (λ e.
      first_reply refl (laid p s₀ h₀ b) (laid_open p s₀ h₀ b false e) (record { first = none.first; second = none.second; attempts = none.attempts }) target
      (moved p s₀ h₀ b (λ r. by r (attempt_at false r s.start)) is))
      (attempt_at false c 0) refl

  on_second_reply : Undecided false s → kept_kind s ≡ InitiatorTarget → Is p (λ r. by_second_reply s r (attempt_at false r s.start)) → Stage p₁ (hear (dued s 3) b)
  unfolding hear on_taken on_nacked
  on_second_reply undecided target is =
      let s₀ = dued s 3 in
      let h₀ = heard_too p s 3 h in
      let by = by_second_reply s in
      by_attempt p s₀ h₀ b false s₀
      (λ t next e.
      let d = decided_as p s₀ h₀ b false undecided (taken t next) e tt in
      second_taken p s₀ h₀ b t d.1 target
      (subst (λ (n : ℕ). Is p₁ (λ r. on_end InitiatorTarget s.command_attempts 2 (kept_command s) (kept_first s) t (syn_at r (s.start + n)))) d.0 (settled p s₀ h₀ b false undecided by is (taken t next) e tt)))
      (λ t place e. refused p s₀ h₀ b (at_place reply_nacked place) (omega arith) (λ three. omega arith) (settled p s₀ h₀ b false undecided by is (nacked t place) e tt))
      (λ why e other. refused p s₀ h₀ b why (decided_as p s₀ h₀ b false undecided (failed why) e other).0 other (settled p s₀ h₀ b false undecided by is (failed why) e other))
      (λ e. second_reply refl (laid p s₀ h₀ b) (laid_open p s₀ h₀ b false e) target (moved p s₀ h₀ b (λ r. by r (attempt_at false r s.start)) is))
      (attempt_at false c 0) refl

  -- SYN is due, with nothing in hand
  syn_there : in_hand s ≡ [] → (more : List ℕ) → syn_at (p₁ ++ more) s.start ≡ pick (eqb b syn) (ended (s.start + 1)) (open_still (at_place bus_error s.start))
  unfolding syn_at
  syn_there empty more =
      let r = p₁ ++ more in
      let before = h.before in
      let whole : r ≡ before ++ b ∷ more =
      append_assoc p (b ∷ []) more
      ∙ ap (λ (x : List ℕ). x ++ b ∷ more) (h.split ∙ ap (λ (x : List ℕ). before ++ x) empty ∙ append-nil before) in
      let byte : get_or r s.start 0 ≡ b = ap (λ (x : List ℕ). get_or x s.start 0) whole ∙ ap (λ (n : ℕ). get_or (before ++ b ∷ more) n 0) (sym h.begins) ∙ get_or-append_seam before b more 0 in
      let f : ℕ → End = λ x. pick (eqb x syn) (ended (s.start + 1)) (open_still (at_place bus_error s.start)) in
      ap (λ (t : Bool). pick t (f (get_or r s.start 0)) (open_still (run_over r))) (lt-ltb s.start (length r) (omega (arith, ap length whole, length-append before (b ∷ more), h.begins)))
      ∙ ap f byte

  on_syn : in_hand s ≡ [] → Is p (λ r. by_end s (syn_at r s.start)) → Stage p₁ (hear (dued s 4) b)
  unfolding hear
  on_syn empty is =
      let s₀ = dued s 4 in
      let h₀ = heard_too p s 4 h in
      let is₁ = moved p s₀ h₀ b (λ r. by_end s (syn_at r s.start)) is in
      let n = length (in_hand s) in
      let none : n ≡ 0 = ap length empty in
      pick_cases (Stage p₁) (eqb b syn) (answers s₀ (s.start + (n + 1)) 0 0) (refuses s₀ (n + 1) (at_place bus_error n))
      (λ y.
      let told : Is p₁ (λ r. by_end s (ended (s.start + (n + 1)))) =
      λ more.
      is₁ more
      ∙ ap (by_end s) (syn_there empty more ∙ ap (λ (t : Bool). pick t (ended (s.start + 1)) (open_still (at_place bus_error s.start))) y)
      ∙ ap (λ (k : ℕ). by_end s (ended k)) (let e : s.start + 1 ≡ s.start + (n + 1) = omega (arith, none) in e) in
      accepts told)
      (λ y.
      let one : length c ≡ n + 1 = length-append (in_hand s) (b ∷ []) in
      let told : Is p₁ (λ r. rejected (later_refusal s.start (at_place bus_error n))) =
      λ more.
      is₁ more
      ∙ ap (by_end s) (syn_there empty more ∙ ap (λ (t : Bool). pick t (ended (s.start + 1)) (open_still (at_place bus_error s.start))) y)
      ∙ ap (λ (k : ℕ). rejected (at_place bus_error k)) (let e : s.start ≡ s.start + n = omega (arith, none) in e) in
      subst (λ (k : ℕ). Stage p₁ (refuses s₀ k (at_place bus_error n))) one (refused p s₀ h₀ b (at_place bus_error n) (omega arith) (λ three. omega arith) told))
    where
      accepts : Is p₁ (λ r. by_end s (ended (s.start + (length (in_hand s) + 1)))) → Stage p₁ (answers (dued s 4) (s.start + (length (in_hand s) + 1)) 0 0)
      accepts told = accepted_known p₁ (dued s 4) (s.start + (length (in_hand s) + 1)) told

-- ---- any of them

pub step : (p : List ℕ) (s : Listening) → Stage p s → has_answered s ≡ false → (b : ℕ) → Stage (p ++ b ∷ []) (hear s b)
step p s (first_command e h undecided none is) o b = subst (λ (d : ℕ). Stage (p ++ b ∷ []) (hear (dued s d) b)) (sym e) (on_first_command p s h b undecided none is)
step p s (second_command e h undecided none first is) o b = subst (λ (d : ℕ). Stage (p ++ b ∷ []) (hear (dued s d) b)) (sym e) (on_second_command p s h b undecided none first is)
step p s (first_reply e h undecided none target is) o b = subst (λ (d : ℕ). Stage (p ++ b ∷ []) (hear (dued s d) b)) (sym e) (on_first_reply p s h b undecided none target is)
step p s (second_reply e h undecided target is) o b = subst (λ (d : ℕ). Stage (p ++ b ∷ []) (hear (dued s d) b)) (sym e) (on_second_reply p s h b undecided target is)
step p s (syn_is_due e h empty is) o b = subst (λ (d : ℕ). Stage (p ++ b ∷ []) (hear (dued s d) b)) (sym e) (on_syn p s h b empty is)
step p s (known a is not_open) o b = true_not_false a o

-- ---- a state that has not answered

-- the attempt in hand ends with the bytes
attempt_open : (p : List ℕ) (s : Listening) → Heard p s → (command : Bool) → Undecided command s → attempt_at command p s.start ≡ failed (run_over p)
attempt_open p s h command undecided =
    let hand = in_hand s in
    let at : s.start ≡ length h.before + 0 = omega (arith, h.begins) in
    ap (λ (r : List ℕ). attempt_at command r s.start) h.split
    ∙ ap (attempt_at command (h.before ++ hand)) at
    ∙ later_attempt_lem h.before hand command 0
    ∙ ap (later_attempt (length h.before)) undecided
    ∙ ap failed (sym (later_over h.before hand))
    ∙ ap (λ (r : List ℕ). failed (run_over r)) (sym h.split)

-- .. and so does the exchange
by_open : (p : List ℕ) (s : Listening) (by : List ℕ → Attempt → Outcome) (command : Bool) → Heard p s → Undecided command s → Is p (λ r. by r (attempt_at command r s.start))
    → ((r : List ℕ) (why : Refusal) → by r (failed why) ≡ rejected why) → exchange p ≡ rejected (run_over p)
by_open p s by command h undecided is each =
    let end = append-nil p in
    subst (λ (r : List ℕ). exchange r ≡ by r (attempt_at command r s.start)) end (is []) ∙ ap (by p) (attempt_open p s h command undecided) ∙ each p (run_over p)

syn_open : (p : List ℕ) (s : Listening) → Heard p s → in_hand s ≡ [] → syn_at p s.start ≡ open_still (run_over p)
unfolding syn_at
syn_open p s h empty =
    let whole : length p ≡ s.start = ap length (h.split ∙ ap (λ (x : List ℕ). h.before ++ x) empty ∙ append-nil h.before) ∙ h.begins in
    ap (λ (t : Bool). pick t (pick (eqb (get_or p s.start 0) syn) (ended (s.start + 1)) (open_still (at_place bus_error s.start))) (open_still (run_over p))) (le-ltb s.start (length p) (omega (arith, whole)))

-- nothing in hand was thrown away
first_open : (p : List ℕ) (s : Listening) → Heard p s → Undecided true s → Starts p s → exchange p ≡ rejected (run_over p)
unfolding exchange_at tries_at
first_open p s h undecided starts =
    let hand = in_hand s in
    let same : command_start p ≡ command_start (p ++ []) = ap command_start (sym (append-nil p)) in
    let none : command_start (hand ++ []) ≡ 0 = ap command_start (append-nil hand) ∙ start_none hand (no_piece_yet hand undecided) in
    let at : command_start p ≡ s.start = omega (arith, same, starts [], none) in
    ap (λ (n : ℕ). by_first_command p (attempt_at true p n)) at ∙ ap (by_first_command p) (attempt_open p s h true undecided)

pub open_exchange : (p : List ℕ) (s : Listening) → Stage p s → has_answered s ≡ false → exchange p ≡ rejected (run_over p)
open_exchange p s (first_command e h undecided none starts) o = first_open p s h undecided starts
open_exchange p s (second_command e h undecided none first is) o = by_open p s (by_second_command first) true h undecided is (λ r why. refl)
open_exchange p s (first_reply e h undecided none target is) o = by_open p s (by_first_reply s) false h undecided is (λ r why. refl)
open_exchange p s (second_reply e h undecided target is) o = by_open p s (by_second_reply s) false h undecided is (λ r why. refl)
open_exchange p s (syn_is_due e h empty is) o =
    subst (λ (r : List ℕ). exchange r ≡ by_end s (syn_at r s.start)) (append-nil p) (is []) ∙ ap (by_end s) (syn_open p s h empty)
open_exchange p s (known a is not_open) o = true_not_false a o
