-- Each answer on Railbus as a struct that C can take. It holds the answer's numbers, by their names: rule N1's
-- number, 0 where nothing is refused, its place, and the values, of which one that is not there is 0. And what C hands in for an enum.
-- Assumes nothing.
use Rattle.std.specs.Prelude.{ℕ, Bool, ◌||◌, eqb, Option, Result}
use Rattle.lists.specs.Choice.{pick}
use Rattle.refusal.specs.Number.{subcommand_wrong, at_place}
use Rattle.refusal.specs.Numbers.{value}
use Rattle.refusal.specs.Output.{Output, refused}
use Rattle.refusal.specs.declared.Refusal.{Refusal}
use Rattle.railbus.specs.Layout.{is_short, is_long}
use Rattle.railbus.specs.Reading.{message_for, packet_numbers}
use Rattle.railbus.specs.Writing.{write_packet}
use Rattle.railbus.specs.declared.Packet.{Packet}
use Rattle.relay.specs.Calls.{reply_numbers}
use Rattle.relay.specs.declared.Remembered.{Remembered}
use Rattle.relay.specs.declared.Remembered.TheVariants.{Idle, Running, Finished}
use Rattle.railcalls.specs.declared.MoorRailbusRead.{MoorRailbusRead}
use Rattle.railcalls.specs.declared.MoorRemembered.{MoorRemembered}
use Rattle.railcalls.specs.declared.MoorRelayed.{MoorRelayed}

abbrev pub railbus_for_c : Result (Packet × Bool) Refusal → MoorRailbusRead
railbus_for_c x =
    let n = packet_numbers x in
    record { number = n.number; letter = value n 0; address = value n 1; reg = value n 2; checked = value n 4; carried = value n 3; place = n.place }

-- ---- the remembered write, both ways

-- 0 for none, 1 for one that runs, 2 for one that has finished
abbrev pub remembered_for_c : Remembered → MoorRemembered
remembered_for_c Idle = record { phase = 0; reg = 0; carried = 0 }
remembered_for_c (Running register new) = record { phase = 1; reg = register; carried = new }
remembered_for_c (Finished register new) = record { phase = 2; reg = register; carried = new }

-- any other phase is none
abbrev pub remembered_from_c : MoorRemembered → Remembered
remembered_from_c w = pick (eqb w.phase 1) (Running w.reg w.carried) (pick (eqb w.phase 2) (Finished w.reg w.carried) Idle)

-- what a relay device gives
abbrev pub relayed_for_c : Result (Option ℕ) Refusal → Remembered → MoorRelayed
relayed_for_c reply write =
    let n = reply_numbers reply in
    record { number = n.number; write = remembered_for_c write; place = n.place; length = value n 0 }

-- ---- a packet to write, by its letter: number 15 where that is none of the seven, then number 1; every place is 0

abbrev pub write_by_letter : ℕ → ℕ → ℕ → ℕ → ℕ → Output
write_by_letter letter address register new room =
    pick (is_short letter || is_long letter)
    (write_packet (record { address = address; register = register; message = message_for letter new }) room)
    (refused (at_place subcommand_wrong 0))
