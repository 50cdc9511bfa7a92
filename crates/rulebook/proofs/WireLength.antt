-- The lengths of telegrams on the wire: the proof of specs/Lengths.antt.
-- Assumes nothing.
use mathlib.Core.Path.{◌≡◌, refl, sym, ap, subst}
use mathlib.Core.Bool.{Bool, true, false}
use mathlib.Core.List.{List, [], ◌∷◌, ◌++◌}
use Prim.Native.Nat.{ℕ, suc, ◌+◌, ◌*◌, ◌≤◌}
use native.Mathlib.Omega.{arith}
use lib.ListN.{length, length-append}
use Rattle.refusal.specs.Output.{bytes}
use Rattle.crc.specs.Register.{step, enter, bits}
use Rattle.escapes.specs.Escape.{syn, escaped, expanded}
use Rattle.escapes.proofs.EscapeRoundTrip.{expanded_at_most}
use Rattle.addresses.specs.declared.ExchangeKind.{ExchangeKind}
use Rattle.addresses.specs.Address.{initiator_nibble, initiator, reserved}
use Rattle.checkbyte.specs.Check.{ebus_bytes, ebus_check}
use Rattle.telegram.specs.Telegram.{longest, read, telegram_at}
use Rattle.telegram.proofs.TelegramOnWire.{stood}
use Rattle.telegram.proofs.HeadJudged.{source_plain, destination_plain, length_plain}
use Rattle.attempts.specs.Attempt.{ack, nack}
use Rattle.sending.specs.Sending.{closed, command_output, reply_output}
use Rattle.rulebook.specs.Rules.{Form, Accepted, alone, acknowledged, Attempts, at_once, repeated, OnWire, broadcast, initiators, target}
use Rattle.rulebook.specs.Lengths.{longest_on_wire, longest_exchange, Lengths}
use Rattle.rulebook.specs.ReadBack.{command_bytes, reply_bytes}
use Rattle.rulebook.proofs.WholeForms.{form_of, one_longer}
use Rattle.rulebook.proofs.WrittenRead.{command_written, command_form, reply_written, reply_form}

-- ---- the lengths: PB, SB, data and check byte may take two raw bytes each

plain_longer : (b : ℕ) (bs : List ℕ) → escaped b ≡ b ∷ [] → length (expanded (b ∷ bs)) ≡ suc (length (expanded bs))
unfolding expanded
plain_longer b bs plain = ap (λ (l : List ℕ). length (l ++ expanded bs)) plain

head_longer : (b : ℕ) (bs : List ℕ) → length (expanded (b ∷ bs)) ≤ 2 + length (expanded bs)
unfolding expanded
head_longer b bs = omega (arith, length-append (escaped b) (expanded bs), expanded_at_most (b ∷ []), length-append (escaped b) [])

reply_length : (n : ℕ) (behind : List ℕ) → n ≤ longest → length behind ≡ n + 1 → length (expanded (n ∷ behind)) ≤ 35
reply_length n behind short size = omega (arith, plain_longer n behind (length_plain n short), expanded_at_most behind)

command_length : (source destination primary secondary n : ℕ) (behind : List ℕ)
    → initiator source ≡ true → reserved destination ≡ false → n ≤ longest → length behind ≡ n + 1
    → length (expanded (source ∷ destination ∷ primary ∷ secondary ∷ n ∷ behind)) ≤ 41
command_length source destination primary secondary n behind from to short size =
    omega (
      arith,
      plain_longer source (destination ∷ primary ∷ secondary ∷ n ∷ behind) (source_plain source from),
      plain_longer destination (primary ∷ secondary ∷ n ∷ behind) (destination_plain destination to),
      head_longer primary (secondary ∷ n ∷ behind),
      head_longer secondary (n ∷ behind),
      reply_length n behind short size,
    )

form_at_most : (command : Bool) (telegram : List ℕ) → Form command telegram → length (expanded telegram) ≤ longest_on_wire command
form_at_most true telegram f =
    subst (λ (l : List ℕ). length (expanded l) ≤ 41) (sym f.bytes)
    (command_length f.source f.destination f.primary f.secondary (length f.payload) (f.payload ++ f.check ∷ [])
    f.from_initiator f.not_reserved f.short (one_longer f.payload f.check))
form_at_most false telegram f =
    subst (λ (l : List ℕ). length (expanded l) ≤ 35) (sym f.bytes)
    (reply_length (length f.payload) (f.payload ++ f.check ∷ []) f.short (one_longer f.payload f.check))

-- what is written
command_at_most : (source destination primary secondary : ℕ) (payload raw : List ℕ)
    → command_output source destination primary secondary payload ≡ bytes raw → length raw ≤ longest_on_wire true
command_at_most source destination primary secondary payload raw e =
    subst (λ (l : List ℕ). length l ≤ 41) (sym (command_written source destination primary secondary payload raw e).wire)
    (form_at_most true (command_bytes source destination primary secondary payload) (command_form source destination primary secondary payload raw e))

reply_at_most : (payload raw : List ℕ) → reply_output payload ≡ bytes raw → length raw ≤ longest_on_wire false
reply_at_most payload raw e =
    subst (λ (l : List ℕ). length l ≤ 35) (sym (reply_written payload raw e).wire) (form_at_most false (reply_bytes payload) (reply_form payload raw e))

-- what is read from a position ends at most that many raw bytes behind it
read_at_most : (command : Bool) (run : List ℕ) (at : ℕ) (telegram : List ℕ) (check_place next : ℕ)
    → telegram_at command run at ≡ read telegram check_place next → next ≤ at + longest_on_wire command
read_at_most command run at telegram check_place next e =
    let s = stood command run at telegram check_place next e in
    omega (arith, s.ends, form_at_most command telegram (form_of command telegram s.whole))

-- ---- an exchange

accepted_at_most : (command : Bool) (telegram raw : List ℕ) → Accepted command telegram raw → length raw ≤ longest_on_wire command + 1
accepted_at_most command telegram raw (alone form right to) = omega (arith, form_at_most command telegram form)
accepted_at_most command telegram raw (acknowledged form right to) = omega (arith, form_at_most command telegram form, length-append (expanded telegram) (ack ∷ []))

attempts_at_most : (command : Bool) (n : ℕ) (first second telegram raw : List ℕ) → Attempts command n first second telegram raw → length raw ≤ 2 * (longest_on_wire command + 1)
attempts_at_most command n first second telegram raw (at_once a) = omega (arith, accepted_at_most command telegram raw a)
attempts_at_most command n first second telegram raw (repeated {raw = again} form to a) =
    omega (arith, form_at_most command first form, accepted_at_most command telegram again a, length-append (expanded first) (nack ∷ []), length-append (expanded first ++ nack ∷ []) again)

exchange_at_most : (kind : ExchangeKind) (commands replies : ℕ) (command first second raw : List ℕ) → OnWire kind commands replies command first second raw
    → length raw ≤ longest_exchange
exchange_at_most kind commands replies command first second raw (broadcast {raw = sent} attempts is) =
    omega (arith, attempts_at_most true _ _ _ _ _ attempts, length-append sent (syn ∷ []))
exchange_at_most kind commands replies command first second raw (initiators {raw = sent} attempts is) =
    omega (arith, attempts_at_most true _ _ _ _ _ attempts, length-append sent (syn ∷ []))
exchange_at_most kind commands replies command first second raw (target {raw = sent} {raw' = answered} attempts is answers) =
    omega (arith, attempts_at_most true _ _ _ _ _ attempts, attempts_at_most false _ _ _ _ _ answers, length-append sent (answered ++ syn ∷ []), length-append answered (syn ∷ []))

-- ---- both are reached: sixteen data bytes that need an escape, and a check byte that does, A9

abbrev longest_command_data : List ℕ
longest_command_data =
    0xAA ∷ 0xA9 ∷ 0xA9 ∷ 0xAA ∷ 0xAA ∷ 0xA9 ∷ 0xA9 ∷ 0xA9 ∷ 0xA9 ∷ 0xA9 ∷ 0xA9 ∷ 0xA9 ∷ 0xA9 ∷ 0xA9 ∷ 0xA9 ∷ 0xA9 ∷ []

abbrev longest_reply_data : List ℕ
longest_reply_data =
    0xA9 ∷ 0xA9 ∷ 0xA9 ∷ 0xAA ∷ 0xA9 ∷ 0xAA ∷ 0xAA ∷ 0xA9 ∷ 0xA9 ∷ 0xA9 ∷ 0xA9 ∷ 0xA9 ∷ 0xA9 ∷ 0xA9 ∷ 0xA9 ∷ 0xA9 ∷ []

command_reaches : (payload : List ℕ) × (raw : List ℕ) × (command_output 0x10 0x08 0xA9 0xA9 payload ≡ bytes raw) × (length raw ≡ longest_on_wire true)
unfolding command_output closed initiator initiator_nibble reserved ebus_check ebus_bytes enter step bits escaped expanded
command_reaches = (longest_command_data, expanded (closed (0x10 ∷ 0x08 ∷ 0xA9 ∷ 0xA9 ∷ 16 ∷ longest_command_data)), refl, refl)

reply_reaches : (payload : List ℕ) × (raw : List ℕ) × (reply_output payload ≡ bytes raw) × (length raw ≡ longest_on_wire false)
unfolding reply_output closed ebus_check ebus_bytes enter step bits escaped expanded
reply_reaches = (longest_reply_data, expanded (closed (16 ∷ longest_reply_data)), refl, refl)

pub lengths : Lengths
lengths =
    record {
      source_plain = source_plain;
      destination_plain = destination_plain;
      length_plain = length_plain;
      at_most = form_at_most;
      command_at_most = command_at_most;
      reply_at_most = reply_at_most;
      read_at_most = read_at_most;
      exchange_at_most = exchange_at_most;
      command_reaches = command_reaches;
      reply_reaches = reply_reaches;
    }
