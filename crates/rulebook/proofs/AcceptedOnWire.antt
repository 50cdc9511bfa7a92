-- What the judge accepts is in the rule book.
-- Assumes nothing.
use mathlib.Core.Path.{◌≡◌, refl, sym, ap, ◌∙◌, subst}
use mathlib.Core.Bool.{Bool, true, false}
use mathlib.Core.List.{List, [], ◌∷◌, ◌++◌, append_assoc}
use Prim.Native.Nat.{ℕ, ◌+◌, ◌<◌}
use native.Mathlib.Omega.{arith}
use lib.Dec.{eqb, ltb}
use lib.ListN.{length, get_or, drop, length-append}
use borrow.Author.Tests.{ltb-true, eqb-true}
use Rattle.lists.proofs.Cases.{pick_cases}
use Rattle.lists.proofs.Filling.{drop_next}
use Rattle.escapes.specs.Escape.{syn, expanded}
use Rattle.addresses.specs.declared.ExchangeKind.{ExchangeKind}
use Rattle.addresses.specs.declared.ExchangeKind.TheVariants.{Broadcast, InitiatorInitiator, InitiatorTarget}
use Rattle.addresses.specs.Address.{kind_of}
use Rattle.telegram.specs.Telegram.{destination_of, check_right, Telegram, read, unread, telegram_at}
use Rattle.telegram.proofs.TelegramOnWire.{stood}
use Rattle.attempts.specs.Attempt.{ack, nack, Acknowledge, positive, negative, invalid, acknowledge_at, Ending, acknowledged as answered_with, on_acknowledge, unanswered, on_telegram, ending_at, Attempt, taken, nacked, failed, settled_by, attempt_at}
use Rattle.exchange.specs.Exchange.{Tries, once, twice, neither, on_second, on_first, tries_at, End, ended, open_still, syn_at, Outcome, accepted, rejected, on_end, on_reply, on_kind, on_command, exchange_at}
use Rattle.rulebook.specs.Rules.{Form, ToOne, Accepted, alone, acknowledged, Attempts, at_once, repeated, OnWire, broadcast, initiators, target}
use Rattle.rulebook.proofs.WholeForms.{form_of}
use Rattle.rulebook.proofs.OwnWords.{check_right_lem, to_all_lem, to_one}

-- from at to next the run has these raw bytes
pub record Reads (run : List ℕ) (at : ℕ) (raw : List ℕ) (next : ℕ) : Type 0 where
  pub wire : drop at run ≡ raw ++ drop next run
  pub ends : next ≡ at + length raw

reads_both : (run : List ℕ) (at : ℕ) (raw : List ℕ) (next : ℕ) (raw' : List ℕ) (next' : ℕ) → Reads run at raw next → Reads run next raw' next' → Reads run at (raw ++ raw') next'
reads_both run at raw next raw' next' r s =
    record {
      wire = r.wire ∙ ap (λ (l : List ℕ). raw ++ l) s.wire ∙ sym (append_assoc raw raw' (drop next' run));
      ends = omega (arith, r.ends, s.ends, length-append raw raw');
    }

reads_one : (run : List ℕ) (at b : ℕ) → at < length run → get_or run at 0 ≡ b → Reads run at (b ∷ []) (at + 1)
reads_one run at b h e = record { wire = drop_next run at h ∙ ap (λ (x : ℕ). x ∷ drop (at + 1) run) e; ends = refl }

-- ---- an acknowledge byte, and SYN

abbrev AcknowledgeSound : List ℕ → ℕ → Acknowledge → Type 0
AcknowledgeSound run at (positive next) = Reads run at (ack ∷ []) next
AcknowledgeSound run at (negative place) = Reads run at (nack ∷ []) (place + 1)
AcknowledgeSound run at (invalid why) = Unit {0}

acknowledge_sound : (run : List ℕ) (at : ℕ) → AcknowledgeSound run at (acknowledge_at run at)
unfolding acknowledge_at
acknowledge_sound run at =
    let x = get_or run at 0 in
    let A = AcknowledgeSound run at in
    pick_cases A (ltb at (length run)) _ _
    (λ t. pick_cases A (eqb x ack) _ _ (λ e. reads_one run at ack (ltb-true _ _ t) (eqb-true _ _ e))
    (λ _. pick_cases A (eqb x nack) _ _ (λ e. reads_one run at nack (ltb-true _ _ t) (eqb-true _ _ e)) (λ _. pick_cases A (eqb x syn) _ _ (λ _. tt) (λ _. tt))))
    (λ _. tt)

abbrev EndSound : List ℕ → ℕ → End → Type 0
EndSound run at (ended next) = Reads run at (syn ∷ []) next
EndSound run at (open_still why) = Unit {0}

syn_sound : (run : List ℕ) (at : ℕ) → EndSound run at (syn_at run at)
unfolding syn_at
syn_sound run at =
    let E = EndSound run at in
    pick_cases E (ltb at (length run)) _ _
    (λ t. pick_cases E (eqb (get_or run at 0) syn) _ _ (λ e. reads_one run at syn (ltb-true _ _ t) (eqb-true _ _ e)) (λ _. tt)) (λ _. tt)

-- ---- an attempt

pub record TakenSound (command : Bool) (run : List ℕ) (at : ℕ) (telegram : List ℕ) (next : ℕ) : Type 0 where
  pub raw : List ℕ
  pub said : Accepted command telegram raw
  pub reads : Reads run at raw next

pub record NackedSound (command : Bool) (run : List ℕ) (at : ℕ) (telegram : List ℕ) (place : ℕ) : Type 0 where
  pub form : Form command telegram
  pub answered : ToOne command telegram
  pub reads : Reads run at (expanded telegram ++ nack ∷ []) (place + 1)

abbrev AttemptSound : Bool → List ℕ → ℕ → Attempt → Type 0
AttemptSound command run at (taken telegram next) = TakenSound command run at telegram next
AttemptSound command run at (nacked telegram place) = NackedSound command run at telegram place
AttemptSound command run at (failed why) = Unit {0}

-- what was sent, by the eBUS check
abbrev pub settled : Ending → Attempt
settled e = settled_by (λ telegram check_place. check_right telegram) e

settled_sound : (command : Bool) (run : List ℕ) (at : ℕ) (telegram raw : List ℕ) (check_place next : ℕ)
    → (check_right telegram ≡ true → Accepted command telegram raw) → Reads run at raw next → AttemptSound command run at (settled (answered_with telegram check_place next))
settled_sound command run at telegram raw check_place next said reads =
    pick_cases (AttemptSound command run at) (check_right telegram) _ _ (λ right. record { raw = raw; said = said right; reads = reads }) (λ _. tt)

by_acknowledge : (command : Bool) (run : List ℕ) (at : ℕ) (telegram : List ℕ) (check_place next : ℕ) → Form command telegram → unanswered command telegram ≡ false
    → Reads run at (expanded telegram) next → (a : Acknowledge) → AcknowledgeSound run next a → AttemptSound command run at (settled (on_acknowledge telegram check_place a))
by_acknowledge command run at telegram check_place next form due reads (positive after) s =
    settled_sound command run at telegram (expanded telegram ++ ack ∷ []) check_place after (λ right. acknowledged form (check_right_lem telegram right) (to_one command telegram due)) (reads_both run at (expanded telegram) next (ack ∷ []) after reads s)
by_acknowledge command run at telegram check_place next form due reads (negative place) s =
    record { form = form; answered = to_one command telegram due; reads = reads_both run at (expanded telegram) next (nack ∷ []) (place + 1) reads s }
by_acknowledge command run at telegram check_place next form due reads (invalid why) s = tt

by_telegram : (command : Bool) (run : List ℕ) (at : ℕ) (t : Telegram) → telegram_at command run at ≡ t → AttemptSound command run at (settled (on_telegram command run t))
by_telegram command run at (unread why) e = tt
by_telegram command run at (read telegram check_place next) e =
    let s = stood command run at telegram check_place next e in
    let form = form_of command telegram s.whole in
    let reads : Reads run at (expanded telegram) next = record { wire = s.wire; ends = s.ends } in
    pick_cases (λ x. AttemptSound command run at (settled x)) (unanswered command telegram) _ _
    (λ none. settled_sound command run at telegram (expanded telegram) check_place next (λ right. alone form (check_right_lem telegram right) (to_all_lem command telegram none)) reads)
    (λ due. by_acknowledge command run at telegram check_place next form due reads (acknowledge_at run next) (acknowledge_sound run next))

attempt_sound : (command : Bool) (run : List ℕ) (at : ℕ) → AttemptSound command run at (attempt_at command run at)
unfolding attempt_at ending_at
attempt_sound command run at = by_telegram command run at (telegram_at command run at) refl

-- ---- one attempt or two

pub record TriedSound (command : Bool) (run : List ℕ) (at count : ℕ) (first second telegram : List ℕ) (next : ℕ) : Type 0 where
  pub raw : List ℕ
  pub attempts : Attempts command count first second telegram raw
  pub reads : Reads run at raw next

abbrev TriesSound : Bool → List ℕ → ℕ → Tries → Type 0
TriesSound command run at (once telegram next) = TriedSound command run at 1 telegram [] telegram next
TriesSound command run at (twice first telegram next) = TriedSound command run at 2 first telegram telegram next
TriesSound command run at (neither why) = Unit {0}

by_second : (command : Bool) (run : List ℕ) (at : ℕ) (first : List ℕ) (place : ℕ) → NackedSound command run at first place
    → (a : Attempt) → AttemptSound command run (place + 1) a → TriesSound command run at (on_second command first a)
by_second command run at first place n (taken telegram next) s =
    record {
      raw = (expanded first ++ nack ∷ []) ++ s.raw;
      attempts = repeated n.form n.answered s.said;
      reads = reads_both run at (expanded first ++ nack ∷ []) (place + 1) s.raw next n.reads s.reads;
    }
by_second command run at first place n (nacked telegram place') s = tt
by_second command run at first place n (failed why) s = tt

by_first : (command : Bool) (run : List ℕ) (at : ℕ) (a : Attempt) → AttemptSound command run at a → TriesSound command run at (on_first command run a)
by_first command run at (taken telegram next) s = record { raw = s.raw; attempts = at_once s.said; reads = s.reads }
by_first command run at (nacked telegram place) s = by_second command run at telegram place s (attempt_at command run (place + 1)) (attempt_sound command run (place + 1))
by_first command run at (failed why) s = tt

tries_sound : (command : Bool) (run : List ℕ) (at : ℕ) → TriesSound command run at (tries_at command run at)
unfolding tries_at
tries_sound command run at = by_first command run at (attempt_at command run at) (attempt_sound command run at)

-- ---- the exchange

pub record Sound (run : List ℕ) (at : ℕ) (kind : ExchangeKind) (a b n : ℕ) (command reply1 reply2 : List ℕ) : Type 0 where
  pub raw : List ℕ
  pub on_wire_lem : OnWire kind a b command reply1 reply2 raw
  pub reads : Reads run at raw n

abbrev OutcomeSound : List ℕ → ℕ → Outcome → Type 0
OutcomeSound run at (accepted kind a b n command reply1 reply2) = Sound run at kind a b n command reply1 reply2
OutcomeSound run at (rejected why) = Unit {0}

by_end_lem : (run : List ℕ) (at : ℕ) (kind : ExchangeKind) (a b : ℕ) (command reply1 reply2 raw : List ℕ) (next : ℕ)
    → OnWire kind a b command reply1 reply2 (raw ++ syn ∷ []) → Reads run at raw next → (e : End) → EndSound run next e → OutcomeSound run at (on_end kind a b command reply1 reply2 e)
by_end_lem run at kind a b command reply1 reply2 raw next w reads (ended after) s =
    record { raw = raw ++ syn ∷ []; on_wire_lem = w; reads = reads_both run at raw next (syn ∷ []) after reads s }
by_end_lem run at kind a b command reply1 reply2 raw next w reads (open_still why) s = tt

module _ (run : List ℕ) (at a : ℕ) (first second command raw : List ℕ) (next : ℕ) (attempts : Attempts true a first second command raw) (reads : Reads run at raw next) where
  with_reply : (is : kind_of (destination_of command) ≡ InitiatorTarget) (b : ℕ) (reply1 reply2 reply raw' : List ℕ) (after : ℕ)
      → Attempts false b reply1 reply2 reply raw' → Reads run next raw' after → OutcomeSound run at (on_end InitiatorTarget a b command reply1 reply2 (syn_at run after))
  with_reply is b reply1 reply2 reply raw' after replies more =
      by_end_lem run at InitiatorTarget a b command reply1 reply2 (raw ++ raw') after
      (subst (OnWire InitiatorTarget a b command reply1 reply2) (sym (append_assoc raw raw' (syn ∷ []))) (target attempts is replies))
      (reads_both run at raw next raw' after reads more) (syn_at run after) (syn_sound run after)

  by_reply : kind_of (destination_of command) ≡ InitiatorTarget → (t : Tries) → TriesSound false run next t → OutcomeSound run at (on_reply a command run t)
  by_reply is (once reply after) s = with_reply is 1 reply [] reply s.raw after s.attempts s.reads
  by_reply is (twice reply1 reply after) s = with_reply is 2 reply1 reply reply s.raw after s.attempts s.reads
  by_reply is (neither why) s = tt

  by_kind : (k : ExchangeKind) → kind_of (destination_of command) ≡ k → OutcomeSound run at (on_kind a command run next k)
  by_kind Broadcast is = by_end_lem run at Broadcast a 0 command [] [] raw next (broadcast attempts is) reads (syn_at run next) (syn_sound run next)
  by_kind InitiatorInitiator is = by_end_lem run at InitiatorInitiator a 0 command [] [] raw next (initiators attempts is) reads (syn_at run next) (syn_sound run next)
  by_kind InitiatorTarget is = by_reply is (tries_at false run next) (tries_sound false run next)

by_command : (run : List ℕ) (at : ℕ) (t : Tries) → TriesSound true run at t → OutcomeSound run at (on_command run t)
by_command run at (once command next) s = by_kind run at 1 command [] command s.raw next s.attempts s.reads (kind_of (destination_of command)) refl
by_command run at (twice first command next) s = by_kind run at 2 first command command s.raw next s.attempts s.reads (kind_of (destination_of command)) refl
by_command run at (neither why) s = tt

pub sound : (run : List ℕ) (at : ℕ) (kind : ExchangeKind) (a b n : ℕ) (command reply1 reply2 : List ℕ)
    → exchange_at run at ≡ accepted kind a b n command reply1 reply2 → Sound run at kind a b n command reply1 reply2
unfolding exchange_at
sound run at kind a b n command reply1 reply2 e = subst (OutcomeSound run at) e (by_command run at (tries_at true run at) (tries_sound true run at))
