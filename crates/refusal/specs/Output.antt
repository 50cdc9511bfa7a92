-- Rule N3: what a call that writes gives, and what the lent output holds afterwards.
-- Assumes nothing.
use Rattle.std.specs.Prelude.{◌≡◌, ℕ, List, [], leb, length, Result, Ok, Err}
use Rattle.lists.specs.Choice.{pick}
use Rattle.lists.specs.Starting.{starting}
use Rattle.refusal.specs.Number.{output_short, at_place}
use Rattle.refusal.specs.declared.Refusal.{Refusal}

-- the bytes to write, or a refusal
pub data Output : Type 0 where
  bytes : List ℕ → Output
  refused : Refusal → Output

-- the bytes; of a refusal, none
abbrev pub content : Output → List ℕ
content (bytes bs) = bs
content (refused why) = []

-- number 1, by exact length: bytes that exceed the room are not written
abbrev pub fitting : ℕ → Output → Output
fitting room (bytes bs) = pick (leb (length bs) room) (bytes bs) (refused (at_place output_short 0))
fitting room (refused why) = refused why

-- a writer answers its length, or the refusal
abbrev pub written : Output → Result ℕ Refusal
written (bytes bs) = Ok (length bs)
written (refused why) = Err why

-- the lent output afterwards: it starts with the bytes and keeps those behind them; on a refusal it keeps all
abbrev pub left : Output → List ℕ → List ℕ
left (bytes bs) old = starting bs old
left (refused why) old = old

-- what a writer did: its result r, which shows what it answers (as itself, or as a caller of another language takes it), and
-- the lent output, which held old and now holds new
pub record Wrote {A : Type 0} (shows : Result ℕ Refusal → A) (out : Output) (r : A) (old new : List ℕ) : Type 0 where
  pub result : r ≡ shows (written out)
  pub output : new ≡ left out old
