-- A relay device, rule R5: 256 registers, what may be done with each, and the one write that it remembers.
-- Assumes nothing.
use Rattle.std.specs.Prelude.{ℕ, Bool, ◌&&◌, ◌||◌, List, eqb, ltb, length, get_or}
use Rattle.lists.specs.Tests.{all}

-- two lent columns: what each register holds, and its access byte
pub record Relay : Type 0 where
  pub registers : List ℕ
  pub access : List ℕ

abbrev pub register_count : ℕ
register_count = 256

-- an access byte: 0 absent, 1 read, 2 write, 3 both
abbrev pub access_right : ℕ → Bool
access_right a = ltb a 4

abbrev pub is_absent : ℕ → Bool
is_absent a = eqb a 0

abbrev pub may_read : ℕ → Bool
may_read a = eqb a 1 || eqb a 3

abbrev pub may_write : ℕ → Bool
may_write a = eqb a 2 || eqb a 3

-- number 2 asks this
unfoldable pub valid_relay : Relay → Bool
valid_relay d = eqb (length d.registers) register_count && (eqb (length d.access) register_count && all access_right d.access)

-- of one register: what it holds, and its access byte
abbrev pub value_at : Relay → ℕ → ℕ
value_at d register = get_or d.registers register 0

abbrev pub access_at : Relay → ℕ → ℕ
access_at d register = get_or d.access register 0
