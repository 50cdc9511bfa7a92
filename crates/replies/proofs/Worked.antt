-- The data of row W7 in docs/RULES.md, of the definitions.
-- Assumes nothing.
use mathlib.Core.Path.{◌≡◌}
use mathlib.Core.List.{List, [], ◌∷◌}
use Prim.Native.Nat.{ℕ}
use native.Mathlib.Omega.{arith}
use lib.Dec.{lit≤}
use Rattle.lists.specs.Starting.{starting}
use Rattle.replies.specs.Data.{reply_data}
use Rattle.replies.proofs.Data.{first_whole}

abbrev reply : List ℕ
reply = 0x01 ∷ 0x2A ∷ 0xB1 ∷ []

-- W7 the data of the reply buffer that starts with the reply 01 2A B1, whatever it and the other buffer held: 2A
pub w7_data : (first second : List ℕ) → reply_data (starting reply first) second 1 ≡ 0x2A ∷ []
w7_data first second = first_whole (starting reply first) second (omega arith) (lit≤ tt) (omega arith)
