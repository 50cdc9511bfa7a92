-- The worked examples W1 to W14 of docs/RULES.md, together and in order. The proof is in proofs/All.antt.
-- Assumes nothing.
use Rattle.std.specs.Prelude.{◌≡◌, List, [], ◌∷◌, ℕ, suc, ◌≤◌, Ok}
use Rattle.refusal.specs.Number.{bus_error, at_place}
use Rattle.lists.specs.Starting.{starting}
use Rattle.escapes.specs.Escape.{expanded}
use Rattle.addresses.specs.declared.ExchangeKind.TheVariants.{Broadcast, InitiatorInitiator, InitiatorTarget}
use Rattle.addresses.specs.Address.{kind_of}
use Rattle.checkbyte.specs.Check.{ebus_check}
use Rattle.exchange.specs.Exchange.{accepted, rejected, judged}
use Rattle.replies.specs.Data.{reply_data}
use Rattle.requests.specs.Layout.{request_frame}
use Rattle.answers.specs.Layout.{found_frame, end_frame}
use Rattle.requests.specs.Reading.{read_request}
use Rattle.answers.specs.Reading.{read_answer}
use Rattle.requests.specs.declared.Request.TheVariants.{Start, Continue}
use Rattle.answers.specs.declared.AnswerRead.TheVariants.{Found, End}
use Rattle.table.specs.Table.{Table, columns}
use Rattle.devices.specs.WholeScan.{scan_call}
use Rattle.devices.specs.declared.Scanned.TheVariants.{Complete, Nobody, Unfinished}

-- the exchange of W7, with its first acknowledge byte left open
abbrev pub exchange_with : ℕ → List ℕ
exchange_with b = 0x10 ∷ 0x08 ∷ 0xB5 ∷ 0x11 ∷ 0x01 ∷ 0x01 ∷ 0x89 ∷ b ∷ 0x01 ∷ 0x2A ∷ 0xB1 ∷ 0x00 ∷ 0xAA ∷ []

abbrev pub command_sent : List ℕ
command_sent = 0x10 ∷ 0x08 ∷ 0xB5 ∷ 0x11 ∷ 0x01 ∷ 0x01 ∷ 0x89 ∷ []

abbrev pub reply_sent : List ℕ
reply_sent = 0x01 ∷ 0x2A ∷ 0xB1 ∷ []

-- the table of W12 and W13, with any addresses, and a list of three entries that held anything
abbrev pub three_devices : ℕ → ℕ → ℕ → Table
three_devices a b c = columns (0x0001EB37 ∷ 5 ∷ 9 ∷ []) (a ∷ b ∷ c ∷ []) (0 ∷ 0 ∷ 0 ∷ [])

abbrev pub entries : ℕ → ℕ → ℕ → List ℕ
entries x y z = x ∷ y ∷ z ∷ []

pub record Rows : Type 0 where
  -- W1 to W4: check bytes, of a command, of each byte that is escaped, and of no byte (rules E1, E2)
  pub w1 : ebus_check (0x10 ∷ 0x08 ∷ 0xB5 ∷ 0x11 ∷ 0x01 ∷ 0x01 ∷ []) ≡ 0x89
  pub w2 : ebus_check (0xAA ∷ []) ≡ 0xEC
  pub w3 : ebus_check (0xA9 ∷ []) ≡ 0xED
  pub w4 : ebus_check [] ≡ 0x00
  -- W5: both escapes on the wire (rule E3)
  pub w5 : expanded (0xA9 ∷ 0xAA ∷ []) ≡ 0xA9 ∷ 0x00 ∷ 0xA9 ∷ 0x01 ∷ []
  -- W6: a destination of each kind (rule E8)
  pub w6 : (kind_of 0xFE ≡ Broadcast) × (kind_of 0x10 ≡ InitiatorInitiator) × (kind_of 0x08 ≡ InitiatorTarget)
  -- W7: a whole exchange, whatever the buffers' lengths, and its reply's data (rules E12, E16, E17)
  pub w7 : (command first second : ℕ) → 22 ≤ command → 18 ≤ first → 18 ≤ second
      → judged (exchange_with 0x00) command first second ≡ accepted InitiatorTarget 1 1 13 command_sent reply_sent []
  pub w7_data : (first second : List ℕ) → reply_data (starting reply_sent first) second 1 ≡ 0x2A ∷ []
  -- W8: with a byte that acknowledges nothing it is a bus error at that byte (rule E13)
  pub w8 : (command first second : ℕ) → 22 ≤ command → 18 ≤ first → 18 ≤ second → judged (exchange_with 0x55) command first second ≡ rejected (at_place bus_error 7)
  -- W9 and W10: the two requests and the end, as they are written and as they are read (rules F3, F4)
  pub w9 : (request_frame Start ≡ 0xFD ∷ 0x46 ∷ 0x01 ∷ 0x13 ∷ 0x90 ∷ []) × (request_frame Continue ≡ 0xFD ∷ 0x46 ∷ 0x02 ∷ 0x53 ∷ 0x91 ∷ [])
      × (read_request (0xFD ∷ 0x46 ∷ 0x01 ∷ 0x13 ∷ 0x90 ∷ []) ≡ Ok Start) × (read_request (0xFD ∷ 0x46 ∷ 0x02 ∷ 0x53 ∷ 0x91 ∷ []) ≡ Ok Continue)
  pub w10 : (end_frame ≡ 0xFD ∷ 0x46 ∷ 0x04 ∷ 0xD3 ∷ 0x93 ∷ []) × (read_answer (0xFD ∷ 0x46 ∷ 0x04 ∷ 0xD3 ∷ 0x93 ∷ []) ≡ Ok (End 0))
  -- W11: a device found, written and read (rule F4)
  pub w11 : (found_frame 0x0001EB37 0x0C ≡ 0xFD ∷ 0x46 ∷ 0x03 ∷ 0x00 ∷ 0x01 ∷ 0xEB ∷ 0x37 ∷ 0x0C ∷ 0xCE ∷ 0xDC ∷ [])
      × (read_answer (0xFD ∷ 0x46 ∷ 0x03 ∷ 0x00 ∷ 0x01 ∷ 0xEB ∷ 0x37 ∷ 0x0C ∷ 0xCE ∷ 0xDC ∷ []) ≡ Ok (Found 0 0x0001EB37 0x0C))
  -- W12: three devices, listed by rising serial, under any cap of 4 or more (rule D8)
  pub w12 : (a b c p q r x y z more : ℕ)
      → ((scan_call (suc (suc (suc (suc more)))) (entries p q r) (entries x y z) (three_devices a b c)).scanned ≡ Ok (Complete 4 106))
      × ((scan_call (suc (suc (suc (suc more)))) (entries p q r) (entries x y z) (three_devices a b c)).serials ≡ 5 ∷ 9 ∷ 0x0001EB37 ∷ [])
      × ((scan_call (suc (suc (suc (suc more)))) (entries p q r) (entries x y z) (three_devices a b c)).addresses ≡ b ∷ c ∷ a ∷ [])
  -- W13: a cap of as many requests as devices lists them all and does not hear the end (rule D8)
  pub w13 : (a b c p q r x y z : ℕ)
      → ((scan_call 3 (entries p q r) (entries x y z) (three_devices a b c)).scanned ≡ Ok (Unfinished 3 80))
      × ((scan_call 3 (entries p q r) (entries x y z) (three_devices a b c)).serials ≡ 5 ∷ 9 ∷ 0x0001EB37 ∷ [])
      × ((scan_call 3 (entries p q r) (entries x y z) (three_devices a b c)).addresses ≡ b ∷ c ∷ a ∷ [])
  -- W14: where there is no device, one request tells (rule D8)
  pub w14 : (scan_call 1 [] [] (columns [] [] [])).scanned ≡ Ok (Nobody 1 0)
