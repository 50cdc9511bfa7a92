-- The rule book: what may stand on the wire, said once more with no mention of refusals, positions or reading, and in words of
-- its own: rules E9, E10, E12 to E15 and E21. That the judge accepts a run exactly when it begins with what is `Idle` and then what
-- is in `OnWire`, within the bytes that are read, with the same kind, attempts and bytes, is proved in proofs/RuleBook.antt and
-- proofs/Recording.antt; it guards the definitions of beginning/specs/Beginning.antt, attempts/specs/Attempt.antt and
-- exchange/specs/Exchange.antt.
-- Assumes nothing.
use Rattle.std.specs.Prelude.{◌≡◌, Bool, true, false, List, [], ◌∷◌, ◌++◌, ℕ, ◌≤◌, length}
use Rattle.escapes.specs.Escape.{esc, syn, expanded}
use Rattle.addresses.specs.declared.ExchangeKind.{ExchangeKind}
use Rattle.addresses.specs.declared.ExchangeKind.TheVariants.{Broadcast, InitiatorInitiator, InitiatorTarget}
use Rattle.addresses.specs.Address.{initiator, reserved, everyone, kind_of}
use Rattle.checkbyte.specs.Check.{ebus_check}
use Rattle.telegram.specs.Telegram.{destination_of, longest}
use Rattle.attempts.specs.Attempt.{ack, nack}

-- a command, rule E9; its check byte may be wrong
pub record CommandForm (telegram : List ℕ) : Type 0 where
  pub source : ℕ
  pub destination : ℕ
  pub primary : ℕ
  pub secondary : ℕ
  pub payload : List ℕ
  pub check : ℕ
  pub bytes : telegram ≡ source ∷ destination ∷ primary ∷ secondary ∷ length payload ∷ (payload ++ check ∷ [])
  pub from_initiator : initiator source ≡ true
  pub not_reserved : reserved destination ≡ false
  pub short : length payload ≤ longest

-- a reply, rule E10; its check byte may be wrong
pub record ReplyForm (telegram : List ℕ) : Type 0 where
  pub payload : List ℕ
  pub check : ℕ
  pub bytes : telegram ≡ length payload ∷ (payload ++ check ∷ [])
  pub short : length payload ≤ longest

abbrev pub Form : Bool → List ℕ → Type 0
Form true telegram = CommandForm telegram
Form false telegram = ReplyForm telegram

-- a right telegram ends with the check byte of all before it
abbrev pub Right : List ℕ → Type 0
Right telegram = (body : List ℕ) × (telegram ≡ body ++ ebus_check body ∷ [])

-- to all, and so not acknowledged: a command whose destination is FE
abbrev pub ToAll : Bool → List ℕ → Type 0
ToAll true telegram = destination_of telegram ≡ everyone
ToAll false telegram = ⊥

-- to one, who acknowledges it: a reply, or a command with another destination
abbrev pub ToOne : Bool → List ℕ → Type 0
ToOne true telegram = destination_of telegram ≡ everyone → ⊥
ToOne false telegram = Unit {0}

-- an attempt that is accepted, and its raw bytes: a right telegram, and then 00, or nothing where it is to all; rule E15
pub data Accepted (command : Bool) : List ℕ → List ℕ → Type 0 where
  alone : {telegram : List ℕ} → Form command telegram → Right telegram → ToAll command telegram → Accepted command telegram (expanded telegram)
  acknowledged : {telegram : List ℕ} → Form command telegram → Right telegram → ToOne command telegram
      → Accepted command telegram (expanded telegram ++ ack ∷ [])

-- one attempt or two: how many, the first telegram and the second (none where there was one), the accepted telegram, and the
-- raw bytes. Whatever the first was, right or wrong, FF follows it, and the second stands for itself; rule E14
pub data Attempts (command : Bool) : ℕ → List ℕ → List ℕ → List ℕ → List ℕ → Type 0 where
  at_once : {telegram raw : List ℕ} → Accepted command telegram raw → Attempts command 1 telegram [] telegram raw
  repeated : {first telegram raw : List ℕ} → Form command first → ToOne command first → Accepted command telegram raw
      → Attempts command 2 first telegram telegram ((expanded first ++ nack ∷ []) ++ raw)

-- a whole exchange: its kind, attempts at command and reply, the accepted command, the reply's attempts, and the raw bytes
-- through SYN; rule E12
pub data OnWire : ExchangeKind → ℕ → ℕ → List ℕ → List ℕ → List ℕ → List ℕ → Type 0 where
  broadcast : {a : ℕ} {first second command raw : List ℕ} → Attempts true a first second command raw → kind_of (destination_of command) ≡ Broadcast
      → OnWire Broadcast a 0 command [] [] (raw ++ syn ∷ [])
  initiators : {a : ℕ} {first second command raw : List ℕ} → Attempts true a first second command raw → kind_of (destination_of command) ≡ InitiatorInitiator
      → OnWire InitiatorInitiator a 0 command [] [] (raw ++ syn ∷ [])
  target : {a b : ℕ} {first second command raw reply1 reply2 reply raw' : List ℕ} → Attempts true a first second command raw
      → kind_of (destination_of command) ≡ InitiatorTarget → Attempts false b reply1 reply2 reply raw'
      → OnWire InitiatorTarget a b command reply1 reply2 (raw ++ (raw' ++ syn ∷ []))

-- what may stand before the exchange, rule E21: any number of pieces, each ended by SYN before two logical bytes had come
pub data Idle : List ℕ → Type 0 where
  nothing : Idle []
  syn_alone : {raw : List ℕ} → Idle raw → Idle (syn ∷ raw)
  escape : {raw : List ℕ} → Idle raw → Idle (esc ∷ syn ∷ raw)
  source : {s : ℕ} {raw : List ℕ} → initiator s ≡ true → Idle raw → Idle (s ∷ syn ∷ raw)
  source_escape : {s : ℕ} {raw : List ℕ} → initiator s ≡ true → Idle raw → Idle (s ∷ esc ∷ syn ∷ raw)
