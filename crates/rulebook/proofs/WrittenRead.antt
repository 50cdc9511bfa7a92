-- What the writers give is in the rule book: a right command and a right reply, and with acknowledge bytes and SYN added a whole
-- exchange, for each kind, with and without a NACKed first attempt at command and reply, whatever that first attempt was as long
-- as it is a well-formed one.
-- Assumes nothing.
use mathlib.Core.Path.{◌≡◌, refl, sym, ap, ◌∙◌, subst}
use mathlib.Core.Bool.{Bool, true, false}
use mathlib.Core.List.{List, [], ◌∷◌, ◌++◌}
use Prim.Native.Nat.{ℕ, ◌≤◌}
use native.Mathlib.Omega.{arith}
use lib.Dec.{leb}
use lib.ListN.{length}
use borrow.Author.Tests.{leb-true}
use Rattle.lists.specs.Choice.{pick}
use Rattle.refusal.specs.Number.{source_wrong, destination_wrong, length_over, at_place}
use Rattle.refusal.specs.Output.{bytes, refused}
use Rattle.escapes.specs.Escape.{syn, expanded}
use Rattle.addresses.specs.declared.ExchangeKind.{ExchangeKind}
use Rattle.addresses.specs.declared.ExchangeKind.TheVariants.{Broadcast, InitiatorInitiator, InitiatorTarget}
use Rattle.addresses.specs.Address.{initiator, reserved, kind_of}
use Rattle.checkbyte.specs.Check.{ebus_check}
use Rattle.telegram.specs.Telegram.{destination_of, longest}
use Rattle.sending.specs.Sending.{closed, command_output, reply_output}
use Rattle.attempts.specs.Attempt.{ack, to_all, unanswered}
use Rattle.rulebook.specs.ReadBack.{command_bytes, reply_bytes, Before, nothing, nacked_once, raw_before, attempts_of, first_tried, second_tried}
use Rattle.rulebook.specs.Rules.{CommandForm, ReplyForm, Right, Accepted, alone, acknowledged, Attempts, at_once, repeated, OnWire, broadcast, initiators, target}
use Rattle.rulebook.proofs.OwnWords.{to_all_lem, to_one}

attempts : (command : Bool) (before : Before command) (telegram raw : List ℕ) → Accepted command telegram raw
    → Attempts command (attempts_of before) (first_tried before telegram) (second_tried before telegram) telegram (raw_before before raw)
attempts command nothing telegram raw said = at_once said
attempts command (nacked_once first form due) telegram raw said = repeated form due said

-- ---- a closed body is right

pub closed_right : (body : List ℕ) → Right (closed body)
unfolding closed
closed_right body = (body, refl)

-- ---- what the writers accept

pub record CommandWritten (source destination primary secondary : ℕ) (payload raw : List ℕ) : Type 0 where
  pub from_initiator : initiator source ≡ true
  pub not_reserved : reserved destination ≡ false
  pub short : length payload ≤ longest
  pub wire : raw ≡ expanded (command_bytes source destination primary secondary payload)

pub command_written : (source destination primary secondary : ℕ) (payload raw : List ℕ) → command_output source destination primary secondary payload ≡ bytes raw
    → CommandWritten source destination primary secondary payload raw
unfolding command_output
command_written source destination primary secondary payload raw e = by_source (initiator source) refl e
  where
    by_length : (b : Bool) → leb (length payload) longest ≡ b → initiator source ≡ true → reserved destination ≡ false
        → pick b (bytes (expanded (command_bytes source destination primary secondary payload))) (refused (at_place length_over 0)) ≡ bytes raw
        → CommandWritten source destination primary secondary payload raw
    by_length true t i r e = record { from_initiator = i; not_reserved = r; short = leb-true _ _ t; wire = cc }
    by_length false t i r e = let z : ◌≡◌ {A = ℕ} 0 1 = cc in let f : ⊥ = omega arith in absurd f

    by_destination : (b : Bool) → reserved destination ≡ b → initiator source ≡ true
        → pick b (refused (at_place destination_wrong 0))
        (pick (leb (length payload) longest) (bytes (expanded (command_bytes source destination primary secondary payload))) (refused (at_place length_over 0))) ≡ bytes raw
        → CommandWritten source destination primary secondary payload raw
    by_destination true t i e = let z : ◌≡◌ {A = ℕ} 0 1 = cc in let f : ⊥ = omega arith in absurd f
    by_destination false t i e = by_length (leb (length payload) longest) refl i t e

    by_source : (b : Bool) → initiator source ≡ b
        → pick b
        (pick (reserved destination) (refused (at_place destination_wrong 0))
        (pick (leb (length payload) longest) (bytes (expanded (command_bytes source destination primary secondary payload))) (refused (at_place length_over 0))))
        (refused (at_place source_wrong 0)) ≡ bytes raw
        → CommandWritten source destination primary secondary payload raw
    by_source true t e = by_destination (reserved destination) refl t e
    by_source false t e = let z : ◌≡◌ {A = ℕ} 0 1 = cc in let f : ⊥ = omega arith in absurd f

pub record ReplyWritten (payload raw : List ℕ) : Type 0 where
  pub short : length payload ≤ longest
  pub wire : raw ≡ expanded (reply_bytes payload)

pub reply_written : (payload raw : List ℕ) → reply_output payload ≡ bytes raw → ReplyWritten payload raw
unfolding reply_output
reply_written payload raw e = by_length (leb (length payload) longest) refl e
  where
    by_length : (b : Bool) → leb (length payload) longest ≡ b → pick b (bytes (expanded (reply_bytes payload))) (refused (at_place length_over 0)) ≡ bytes raw → ReplyWritten payload raw
    by_length true t e = record { short = leb-true _ _ t; wire = cc }
    by_length false t e = let z : ◌≡◌ {A = ℕ} 0 1 = cc in let f : ⊥ = omega arith in absurd f

-- ---- they are in the rule book

module _ (source destination primary secondary : ℕ) (payload raw : List ℕ) (written : command_output source destination primary secondary payload ≡ bytes raw) where
  abbrev telegram : List ℕ
  telegram = command_bytes source destination primary secondary payload

  pub command_form : CommandForm telegram
  unfolding closed
  command_form =
      let w = command_written source destination primary secondary payload raw written in
      record {
        source = source;
        destination = destination;
        primary = primary;
        secondary = secondary;
        payload = payload;
        check = ebus_check (source ∷ destination ∷ primary ∷ secondary ∷ length payload ∷ payload);
        bytes = refl;
        from_initiator = w.from_initiator;
        not_reserved = w.not_reserved;
        short = w.short;
      }

  kind_is : (kind : ExchangeKind) → kind_of destination ≡ kind → kind_of (destination_of telegram) ≡ kind
  unfolding closed
  kind_is kind e = e

  pub command_right : Right telegram
  command_right = closed_right (source ∷ destination ∷ primary ∷ secondary ∷ length payload ∷ payload)

  wire_is : expanded telegram ≡ raw
  wire_is = sym (command_written source destination primary secondary payload raw written).wire

  said_alone : kind_of destination ≡ Broadcast → Accepted true telegram raw
  unfolding unanswered
  said_alone e = subst (Accepted true telegram) wire_is (alone command_form command_right (to_all_lem true telegram (ap to_all (kind_is Broadcast e))))

  said_acknowledged : (kind : ExchangeKind) → kind_of destination ≡ kind → to_all kind ≡ false → Accepted true telegram (raw ++ ack ∷ [])
  unfolding unanswered
  said_acknowledged kind e other =
      subst (λ (l : List ℕ). Accepted true telegram (l ++ ack ∷ [])) wire_is
      (acknowledged command_form command_right (to_one true telegram (ap to_all (kind_is kind e) ∙ other)))

unfoldable pub reply_form : (payload raw : List ℕ) → reply_output payload ≡ bytes raw → ReplyForm (reply_bytes payload)
unfolding closed
reply_form payload raw written =
    record { payload = payload; check = ebus_check (length payload ∷ payload); bytes = refl; short = (reply_written payload raw written).short }

replied : (payload raw : List ℕ) → reply_output payload ≡ bytes raw → Accepted false (reply_bytes payload) (raw ++ ack ∷ [])
replied payload raw written =
    subst (λ (l : List ℕ). Accepted false (reply_bytes payload) (l ++ ack ∷ [])) (sym (reply_written payload raw written).wire)
    (acknowledged (reply_form payload raw written) (closed_right (length payload ∷ payload)) tt)

pub reply_right : (payload : List ℕ) → Right (reply_bytes payload)
reply_right payload = closed_right (length payload ∷ payload)

-- ---- with acknowledge bytes and SYN added, so is the exchange

module _ (source destination primary secondary : ℕ) (payload raw : List ℕ) (written : command_output source destination primary secondary payload ≡ bytes raw) (before : Before true) where
  abbrev command : List ℕ
  command = command_bytes source destination primary secondary payload

  pub broadcast_on_wire : kind_of destination ≡ Broadcast → OnWire Broadcast (attempts_of before) 0 command [] [] (raw_before before raw ++ syn ∷ [])
  broadcast_on_wire is =
      broadcast (attempts true before command raw (said_alone source destination primary secondary payload raw written is))
      (kind_is source destination primary secondary payload raw written Broadcast is)

  pub initiators_on_wire : kind_of destination ≡ InitiatorInitiator
      → OnWire InitiatorInitiator (attempts_of before) 0 command [] [] (raw_before before (raw ++ ack ∷ []) ++ syn ∷ [])
  initiators_on_wire is =
      initiators
      (attempts true before command (raw ++ ack ∷ []) (said_acknowledged source destination primary secondary payload raw written InitiatorInitiator is refl))
      (kind_is source destination primary secondary payload raw written InitiatorInitiator is)

  pub target_on_wire : kind_of destination ≡ InitiatorTarget → (answer replying : List ℕ) → reply_output answer ≡ bytes replying → (first : Before false)
      → OnWire InitiatorTarget (attempts_of before) (attempts_of first) command (first_tried first (reply_bytes answer)) (second_tried first (reply_bytes answer))
      (raw_before before (raw ++ ack ∷ []) ++ (raw_before first (replying ++ ack ∷ []) ++ syn ∷ []))
  target_on_wire is answer replying replies first =
      target
      (attempts true before command (raw ++ ack ∷ []) (said_acknowledged source destination primary secondary payload raw written InitiatorTarget is refl))
      (kind_is source destination primary secondary payload raw written InitiatorTarget is)
      (attempts false first (reply_bytes answer) (replying ++ ack ∷ []) (replied answer replying replies))
