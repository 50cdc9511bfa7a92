-- How long telegrams get on the wire, rule E11. The proof is in proofs/WireLength.antt.
-- Assumes nothing.
use Rattle.std.specs.Prelude.{◌≡◌, Bool, true, false, List, [], ◌∷◌, ℕ, ◌+◌, ◌≤◌, length}
use Rattle.lists.specs.Choice.{pick}
use Rattle.refusal.specs.Output.{bytes}
use Rattle.escapes.specs.Escape.{escaped, expanded}
use Rattle.addresses.specs.declared.ExchangeKind.{ExchangeKind}
use Rattle.addresses.specs.Address.{initiator, reserved}
use Rattle.telegram.specs.Telegram.{longest, read, telegram_at}
use Rattle.sending.specs.Sending.{command_output, reply_output}
use Rattle.rulebook.specs.Rules.{Form, OnWire}

-- of a command, and of a reply
abbrev pub longest_on_wire : Bool → ℕ
longest_on_wire command = pick command 41 35

-- of a whole exchange: two attempts at the command and two at the reply, each with its acknowledge byte, and SYN
abbrev pub longest_exchange : ℕ
longest_exchange = 157

pub record Lengths : Type 0 where
  -- SRC, DST and LEN go out as one byte each
  pub source_plain : (b : ℕ) → initiator b ≡ true → escaped b ≡ b ∷ []
  pub destination_plain : (b : ℕ) → reserved b ≡ false → escaped b ≡ b ∷ []
  pub length_plain : (b : ℕ) → b ≤ longest → escaped b ≡ b ∷ []
  -- no telegram takes more raw bytes, its check byte right or wrong
  pub at_most : (command : Bool) (telegram : List ℕ) → Form command telegram → length (expanded telegram) ≤ longest_on_wire command
  -- so none that is written
  pub command_at_most : (source destination primary secondary : ℕ) (payload raw : List ℕ)
      → command_output source destination primary secondary payload ≡ bytes raw → length raw ≤ longest_on_wire true
  pub reply_at_most : (payload raw : List ℕ) → reply_output payload ≡ bytes raw → length raw ≤ longest_on_wire false
  -- and none that is read: it ends at most that many raw bytes behind its position
  pub read_at_most : (command : Bool) (run : List ℕ) (at : ℕ) (telegram : List ℕ) (check_place next : ℕ)
      → telegram_at command run at ≡ read telegram check_place next → next ≤ at + longest_on_wire command
  -- so no exchange of the rule book takes more: one that starts so many bytes before the limit of rule E20 is read whole
  pub exchange_at_most : (kind : ExchangeKind) (commands replies : ℕ) (command first second raw : List ℕ) → OnWire kind commands replies command first second raw
      → length raw ≤ longest_exchange
  -- both lengths are reached
  pub command_reaches : (payload : List ℕ) × (raw : List ℕ) × (command_output 0x10 0x08 0xA9 0xA9 payload ≡ bytes raw) × (length raw ≡ longest_on_wire true)
  pub reply_reaches : (payload : List ℕ) × (raw : List ℕ) × (reply_output payload ≡ bytes raw) × (length raw ≡ longest_on_wire false)
