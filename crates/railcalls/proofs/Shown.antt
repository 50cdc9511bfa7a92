-- How the answers of a device show as numbers, and what a letter writes.
-- Assumes nothing.
use mathlib.Core.Path.{◌≡◌, refl, ap, ap₂, ◌∙◌, subst}
use mathlib.Core.Bool.{true, false, ◌||◌}
use mathlib.Core.List.{List}
use Prim.Native.Nat.{ℕ}
use Rattle.refusal.specs.Number.{subcommand_wrong, at_place}
use Rattle.refusal.specs.Output.{Output, refused, Wrote}
use Rattle.boundary.specs.ForC.{written_for_c}
use Rattle.boundary.specs.declared.MoorWritten.{MoorWritten}
use Rattle.railbus.specs.Layout.{is_short, is_long}
use Rattle.railbus.specs.Reading.{message_for}
use Rattle.railbus.specs.Writing.{write_packet}
use Rattle.railbus.specs.declared.Message.{Message}
use Rattle.relay.specs.Calls.{Relaying, Relays, relayed}
use Rattle.relay.specs.declared.Relayed.{Relayed}
use Rattle.relay.specs.declared.Remembered.{Remembered}
use Rattle.railcalls.specs.ForC.{relayed_for_c, write_by_letter}
use Rattle.railcalls.specs.declared.MoorRelayed.{MoorRelayed}

-- the promise of a call below, shown as numbers
pub relays_shown : (given : Remembered → Relaying) (write write' : Remembered) (x : Relayed) (r : MoorRelayed) (buffer registers : List ℕ)
    → write' ≡ write → r ≡ relayed_for_c x.reply x.write → Relays relayed (given write') x buffer registers → Relays relayed_for_c (given write) r buffer registers
relays_shown given write write' x r buffer registers e shows g =
    subst (λ (w : Remembered). Relays relayed_for_c (given w) r buffer registers) e
    (record {
      result = shows ∙ ap₂ relayed_for_c (ap (λ (y : Relayed). y.reply) g.result) (ap (λ (y : Relayed). y.write) g.result);
      buffer_is = g.buffer_is;
      registers_are = g.registers_are;
    })

-- ---- what a letter writes

module _ (letter address register new room : ℕ) (r : MoorWritten) where
  pub wrote_letter : (message : Message) (before after : List ℕ) → (is_short letter || is_long letter) ≡ true → message ≡ message_for letter new
      → Wrote written_for_c (write_packet (record { address = address; register = register; message = message }) room) r before after
      → Wrote written_for_c (write_by_letter letter address register new room) r before after
  wrote_letter message before after taken is w =
      let one : write_packet (record { address = address; register = register; message = message }) room ≡ write_by_letter letter address register new room =
      ap (λ (m : Message). write_packet (record { address = address; register = register; message = m }) room) is ∙ simp taken in
      subst (λ (o : Output). Wrote written_for_c o r before after) one w

  -- none of the seven: nothing is written
  pub wrote_none : (before : List ℕ) → (is_short letter || is_long letter) ≡ false → r ≡ record { number = subcommand_wrong; place = 0; length = 0 }
      → Wrote written_for_c (write_by_letter letter address register new room) r before before
  wrote_none before other e =
      let none : refused (at_place subcommand_wrong 0) ≡ write_by_letter letter address register new room = simp other in
      subst (λ (o : Output). Wrote written_for_c o r before before) none (record { result = e; output = refl })
