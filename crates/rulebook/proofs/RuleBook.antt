-- An exchange is accepted at a position exactly where something of the rule book (specs/Rules.antt) stands, with the same kind,
-- attempts and bytes: `accepted_by_rules` and `rules_accepted`. Of the judge Demand2.antt says it.
-- Assumes nothing.
use mathlib.Core.Path.{◌≡◌, refl, sym, ap, ◌∙◌}
use mathlib.Core.Bool.{Bool, true, false}
use mathlib.Core.List.{List, [], ◌∷◌, ◌++◌, append_assoc}
use Prim.Native.Nat.{ℕ, ◌+◌}
use native.Mathlib.Omega.{arith}
use lib.ListN.{length, drop, length-append}
use borrow.Author.Tests.{lt-ltb}
use Rattle.lists.specs.Choice.{pick}
use Rattle.refusal.specs.Number.{check_wrong, at_place}
use Rattle.lists.proofs.Filling.{head_within, head_is, rest_is}
use Rattle.escapes.specs.Escape.{syn, expanded}
use Rattle.addresses.specs.declared.ExchangeKind.{ExchangeKind}
use Rattle.addresses.specs.declared.ExchangeKind.TheVariants.{Broadcast, InitiatorInitiator, InitiatorTarget}
use Rattle.addresses.specs.Address.{kind_of}
use Rattle.telegram.specs.Telegram.{destination_of, check_right, read, telegram_at}
use Rattle.telegram.proofs.TelegramOnWire.{readable, stood}
use Rattle.attempts.specs.Attempt.{ack, nack, positive, negative, acknowledge_at, acknowledged as answered_with, on_acknowledge, on_telegram, ending_at, taken, nacked, failed, attempt_at}
use Rattle.exchange.specs.Exchange.{Tries, once, twice, on_second, on_first, tries_at, ended, syn_at, accepted, on_end, on_reply, on_kind, on_command, exchange_at}
use Rattle.rulebook.specs.Rules.{Form, ToOne, Accepted, alone, acknowledged, Attempts, at_once, repeated, OnWire, broadcast, initiators, target}
use Rattle.rulebook.proofs.WholeForms.{whole_of}
use Rattle.rulebook.proofs.OwnWords.{right_check, all_unanswered, one_answered}
use Rattle.rulebook.proofs.AcceptedOnWire.{settled, sound}

-- ---- single bytes that stand at a position

module _ (run : List ℕ) (at : ℕ) (rest : List ℕ) where
  ack_read : drop at run ≡ ack ∷ rest → acknowledge_at run at ≡ positive (at + 1)
  unfolding acknowledge_at
  ack_read e = simp (lt-ltb _ _ (head_within run at ack rest e), head_is run at ack rest e)

  nack_read : drop at run ≡ nack ∷ rest → acknowledge_at run at ≡ negative at
  unfolding acknowledge_at
  nack_read e = simp (lt-ltb _ _ (head_within run at nack rest e), head_is run at nack rest e)

  syn_read : drop at run ≡ syn ∷ rest → syn_at run at ≡ ended (at + 1)
  unfolding syn_at
  syn_read e = simp (lt-ltb _ _ (head_within run at syn rest e), head_is run at syn rest e)

-- ---- a telegram that stands at a position: the attempt goes on behind it

pub record Through (command : Bool) (run : List ℕ) (at : ℕ) (telegram rest : List ℕ) : Type 0 where
  pub check_place : ℕ
  pub is : telegram_at command run at ≡ read telegram check_place (at + length (expanded telegram))
  pub left : drop (at + length (expanded telegram)) run ≡ rest

through : (command : Bool) (run : List ℕ) (at : ℕ) (telegram rest : List ℕ) → Form command telegram → drop at run ≡ expanded telegram ++ rest → Through command run at telegram rest
through command run at telegram rest form wire =
    let r = readable command run at telegram rest (whole_of command telegram form) wire in
    let ends = (stood command run at telegram r.check_place r.next r.is).ends in
    record {
      check_place = r.check_place;
      is = r.is ∙ ap (read telegram r.check_place) ends;
      left = ap (λ (n : ℕ). drop n run) (sym ends) ∙ r.left;
    }

-- ---- an accepted attempt

pub record Done (command : Bool) (run : List ℕ) (at : ℕ) (telegram raw rest : List ℕ) : Type 0 where
  pub is : attempt_at command run at ≡ taken telegram (at + length raw)
  pub left : drop (at + length raw) run ≡ rest

settled_right : (telegram : List ℕ) (check_place next : ℕ) → check_right telegram ≡ true → settled (answered_with telegram check_place next) ≡ taken telegram next
settled_right telegram check_place next right = ap (λ b. pick b (taken telegram next) (failed (at_place check_wrong check_place))) right

one_more : (at : ℕ) (a : List ℕ) (b : ℕ) → at + length a + 1 ≡ at + length (a ++ b ∷ [])
one_more at a b = omega (arith, length-append a (b ∷ []))

done : (command : Bool) (run : List ℕ) (at : ℕ) (telegram raw rest : List ℕ) → Accepted command telegram raw → drop at run ≡ raw ++ rest → Done command run at telegram raw rest
unfolding attempt_at ending_at
done command run at telegram raw rest (alone form right none) wire =
    let t = through command run at telegram rest form wire in
    let next = at + length (expanded telegram) in
    record {
      is =
          ap (λ x. settled (on_telegram command run x)) t.is
          ∙ ap (λ b. settled (pick b (answered_with telegram t.check_place next) (on_acknowledge telegram t.check_place (acknowledge_at run next)))) (all_unanswered command telegram none)
          ∙ settled_right telegram t.check_place next (right_check telegram right);
      left = t.left;
    }
done command run at telegram raw rest (acknowledged form right due) wire =
    let t = through command run at telegram (ack ∷ rest) form (wire ∙ append_assoc (expanded telegram) (ack ∷ []) rest) in
    let next = at + length (expanded telegram) in
    record {
      is =
          ap (λ x. settled (on_telegram command run x)) t.is
          ∙ ap (λ b. settled (pick b (answered_with telegram t.check_place next) (on_acknowledge telegram t.check_place (acknowledge_at run next)))) (one_answered command telegram due)
          ∙ ap (λ a. settled (on_acknowledge telegram t.check_place a)) (ack_read run next rest t.left)
          ∙ settled_right telegram t.check_place (next + 1) (right_check telegram right)
          ∙ ap (taken telegram) (one_more at (expanded telegram) ack);
      left = ap (λ (n : ℕ). drop n run) (sym (one_more at (expanded telegram) ack)) ∙ rest_is run next ack rest t.left;
    }

-- ---- one that is NACKed

nacked_read : (command : Bool) (run : List ℕ) (at : ℕ) (telegram rest : List ℕ) → Form command telegram → ToOne command telegram
    → drop at run ≡ expanded telegram ++ (nack ∷ rest)
    → (attempt_at command run at ≡ nacked telegram (at + length (expanded telegram))) × (drop (at + length (expanded telegram) + 1) run ≡ rest)
unfolding attempt_at ending_at
nacked_read command run at telegram rest form due wire =
    let t = through command run at telegram (nack ∷ rest) form wire in
    let next = at + length (expanded telegram) in (
      ap (λ x. settled (on_telegram command run x)) t.is
          ∙ ap (λ b. settled (pick b (answered_with telegram t.check_place next) (on_acknowledge telegram t.check_place (acknowledge_at run next)))) (one_answered command telegram due)
          ∙ ap (λ a. settled (on_acknowledge telegram t.check_place a)) (nack_read run next rest t.left),
      rest_is run next nack rest t.left,
    )

-- ---- one attempt or two

pub record Tried (command : Bool) (run : List ℕ) (at : ℕ) (t : ℕ → Tries) (raw rest : List ℕ) : Type 0 where
  pub is : tries_at command run at ≡ t (at + length raw)
  pub left : drop (at + length raw) run ≡ rest

once_tried : (command : Bool) (run : List ℕ) (at : ℕ) (telegram raw rest : List ℕ) → Accepted command telegram raw → drop at run ≡ raw ++ rest
    → Tried command run at (once telegram) raw rest
unfolding tries_at
once_tried command run at telegram raw rest said wire =
    let d = done command run at telegram raw rest said wire in
    record { is = ap (on_first command run) d.is; left = d.left }

twice_tried : (command : Bool) (run : List ℕ) (at : ℕ) (first telegram raw rest : List ℕ) → Form command first → ToOne command first → Accepted command telegram raw
    → drop at run ≡ ((expanded first ++ nack ∷ []) ++ raw) ++ rest → Tried command run at (twice first telegram) ((expanded first ++ nack ∷ []) ++ raw) rest
unfolding tries_at
twice_tried command run at first telegram raw rest form due said wire =
    let n = nacked_read command run at first (raw ++ rest) form due
    (wire ∙ append_assoc (expanded first ++ nack ∷ []) raw rest ∙ append_assoc (expanded first) (nack ∷ []) (raw ++ rest)) in
    let again = at + length (expanded first) + 1 in
    let d = done command run again telegram raw rest said n.1 in
    let ends : again + length raw ≡ at + length ((expanded first ++ nack ∷ []) ++ raw) =
    omega (arith, length-append (expanded first ++ nack ∷ []) raw, length-append (expanded first) (nack ∷ [])) in
    record {
      is = ap (on_first command run) n.0 ∙ ap (on_second command first) d.is ∙ ap (twice first telegram) ends;
      left = ap (λ (k : ℕ). drop k run) (sym ends) ∙ d.left;
    }

-- ---- behind the command

module _ (run : List ℕ) (a : ℕ) (command : List ℕ) (next : ℕ) where
  replied : (b : ℕ) (reply1 reply2 reply raw rest : List ℕ) → Attempts false b reply1 reply2 reply raw → drop next run ≡ raw ++ (syn ∷ rest)
      → on_reply a command run (tries_at false run next) ≡ accepted InitiatorTarget a b (next + length raw + 1) command reply1 reply2
  replied b reply1 reply2 reply raw rest (at_once said) e =
      let t = once_tried false run next reply1 raw (syn ∷ rest) said e in
      ap (on_reply a command run) t.is ∙ ap (on_end InitiatorTarget a 1 command reply1 []) (syn_read run (next + length raw) rest t.left)
  replied b reply1 reply2 reply raw rest (repeated {raw = last} form due said) e =
      let t = twice_tried false run next reply1 reply2 last (syn ∷ rest) form due said e in
      ap (on_reply a command run) t.is ∙ ap (on_end InitiatorTarget a 2 command reply1 reply2) (syn_read run (next + length raw) rest t.left)

-- the attempts at the command, and then whatever its kind asks for
behind : (run : List ℕ) (at a : ℕ) (first second command raw rest : List ℕ) → Attempts true a first second command raw → drop at run ≡ raw ++ rest
    → (exchange_at run at ≡ on_kind a command run (at + length raw) (kind_of (destination_of command))) × (drop (at + length raw) run ≡ rest)
unfolding exchange_at
behind run at a first second command raw rest (at_once said) e =
    let t = once_tried true run at first raw rest said e in
    (ap (on_command run) t.is, t.left)
behind run at a first second command raw rest (repeated {raw = last} form due said) e =
    let t = twice_tried true run at first second last rest form due said e in
    (ap (on_command run) t.is, t.left)

-- a kind that asks for no reply: SYN comes next
no_reply_accepted : (run : List ℕ) (at : ℕ) (k : ExchangeKind) (a : ℕ) (first second command raw rest : List ℕ) → Attempts true a first second command raw
    → kind_of (destination_of command) ≡ k → ((next : ℕ) → on_kind a command run next k ≡ on_end k a 0 command [] [] (syn_at run next)) → drop at run ≡ (raw ++ syn ∷ []) ++ rest
    → exchange_at run at ≡ accepted k a 0 (at + length (raw ++ syn ∷ [])) command [] []
no_reply_accepted run at k a first second command raw rest attempts is ends wire =
    let t = behind run at a first second command raw (syn ∷ rest) attempts (wire ∙ append_assoc raw (syn ∷ []) rest) in
    t.0 ∙ ap (on_kind a command run (at + length raw)) is ∙ ends (at + length raw)
    ∙ ap (on_end k a 0 command [] []) (syn_read run (at + length raw) rest t.1)
    ∙ ap (λ (n : ℕ). accepted k a 0 n command [] []) (one_more at raw syn)

-- ---- the two directions, from any position at which a command may start

-- where something of the rule book stands, it is accepted, whatever follows it
pub rules_accepted : (run : List ℕ) (at : ℕ) (kind : ExchangeKind) (a b : ℕ) (command reply1 reply2 raw rest : List ℕ) → OnWire kind a b command reply1 reply2 raw
    → drop at run ≡ raw ++ rest → exchange_at run at ≡ accepted kind a b (at + length raw) command reply1 reply2
rules_accepted run at kind a b command reply1 reply2 raw rest (broadcast {raw = said} attempts is) wire =
    no_reply_accepted run at Broadcast a _ _ command said rest attempts is (λ next. refl) wire
rules_accepted run at kind a b command reply1 reply2 raw rest (initiators {raw = said} attempts is) wire =
    no_reply_accepted run at InitiatorInitiator a _ _ command said rest attempts is (λ next. refl) wire
rules_accepted run at kind a b command reply1 reply2 raw rest (target {raw = said} {reply = reply} {raw' = replying} attempts is replies) wire =
    let apart : drop at run ≡ said ++ (replying ++ (syn ∷ rest)) =
    wire ∙ append_assoc said (replying ++ syn ∷ []) rest ∙ ap (λ (l : List ℕ). said ++ l) (append_assoc replying (syn ∷ []) rest) in
    let t = behind run at a _ _ command said (replying ++ (syn ∷ rest)) attempts apart in
    t.0 ∙ ap (on_kind a command run (at + length said)) is ∙ replied run a command (at + length said) b reply1 reply2 reply replying rest replies t.1
    ∙ ap (λ (n : ℕ). accepted InitiatorTarget a b n command reply1 reply2) (omega (arith, length-append said (replying ++ syn ∷ []), length-append replying (syn ∷ [])))

-- where something is accepted, something of the rule book stands, of as many bytes as were read
pub accepted_by_rules : (run : List ℕ) (at : ℕ) (kind : ExchangeKind) (a b n : ℕ) (command reply1 reply2 : List ℕ)
    → exchange_at run at ≡ accepted kind a b n command reply1 reply2
    → (raw : List ℕ) × OnWire kind a b command reply1 reply2 raw × (drop at run ≡ raw ++ drop n run) × (n ≡ at + length raw)
accepted_by_rules run at kind a b n command reply1 reply2 e =
    let s = sound run at kind a b n command reply1 reply2 e in
    (s.raw, s.on_wire_lem, s.reads.wire, s.reads.ends)
