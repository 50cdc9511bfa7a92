-- Rule E3: the two bytes that go out as two.
-- Assumes nothing.
use Rattle.std.specs.Prelude.{ℕ, List, [], ◌∷◌, ◌++◌, eqb}
use Rattle.lists.specs.Choice.{pick}

-- the escape byte A9, and SYN, AA
abbrev pub esc : ℕ
esc = 0xA9

abbrev pub syn : ℕ
syn = 0xAA

-- rule E3: what stands on the wire for one byte
unfoldable pub escaped : ℕ → List ℕ
escaped b = pick (eqb b esc) (esc ∷ 0x00 ∷ []) (pick (eqb b syn) (esc ∷ 0x01 ∷ []) (b ∷ []))

-- .. and for all of them
unfoldable pub expanded : List ℕ → List ℕ
expanded [] = []
expanded (b ∷ bs) = escaped b ++ expanded bs
