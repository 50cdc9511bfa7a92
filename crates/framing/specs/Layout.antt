-- What the frames that begin with the broadcast address have in common, rules F1 to F4 and F6: their first bytes, the
-- subcommands, how long each is, and the check.
-- Assumes nothing.
use Rattle.std.specs.Prelude.{ℕ, ◌+◌, ◌/◌, ◌%◌, ◌^◌, Bool, ◌||◌, List, [], ◌∷◌, map, eqb, length}
use Rattle.lists.specs.Choice.{pick}
use Rattle.lists.specs.Tests.{same}
use Rattle.crc.specs.Check.{modbus_check}
use Rattle.framing.specs.Framing.{Framing, body_of, check_of}

-- rule F1: the first two bytes, which are the broadcast address and the command for extended functions
abbrev pub broadcast : ℕ
broadcast = 0xFD

abbrev pub extended : ℕ
extended = 0x46

abbrev pub scan_first : List ℕ
scan_first = broadcast ∷ extended ∷ []

-- the subcommands, of requests (rule F3) and of answers (rule F4)
abbrev pub start_scan : ℕ
start_scan = 0x01

abbrev pub continue_scan : ℕ
continue_scan = 0x02

abbrev pub device_found : ℕ
device_found = 0x03

abbrev pub end_of_scan : ℕ
end_of_scan = 0x04

-- rule F6: the request for events
abbrev pub poll_events : ℕ
poll_events = 0x10

-- rule D1: a serial is below this
abbrev pub serial_limit : ℕ
serial_limit = 2 ^ 28

-- how long a frame is: one that carries nothing, that of a device found, and the request for events, which carry something
abbrev pub shortest : ℕ
shortest = 5

abbrev pub found_length : ℕ
found_length = 10

abbrev pub poll_length : ℕ
poll_length = 9

abbrev pub length_for : ℕ → ℕ
length_for subcommand = pick (eqb subcommand device_found) found_length (pick (eqb subcommand poll_events) poll_length shortest)

-- rule F1: the Modbus check, low byte first
unfoldable pub check_bytes : List ℕ → List ℕ
check_bytes bytes = modbus_check bytes % 256 ∷ modbus_check bytes / 256 ∷ []

-- whether bytes end with the check of all that stand before it
unfoldable pub closed : List ℕ → Bool
closed bytes = same (check_of bytes) (check_bytes (body_of bytes))

-- requests and answers, which differ in their two subcommands alone
abbrev pub scan_framing : ℕ → ℕ → Framing
scan_framing one other =
    record {
      marks = map eqb scan_first;
      takes = λ first subcommand. eqb subcommand one || eqb subcommand other;
      fits = λ subcommand carried. eqb (length carried + shortest) (length_for subcommand);
      shortest = shortest;
      check = check_bytes;
      passes = λ bytes check. same check (check_bytes bytes);
    }
