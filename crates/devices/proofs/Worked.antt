-- The W rows of scans in docs/RULES.md, W12 to W14, of the definitions. The addresses and what the two lists held before are any.
-- Assumes nothing.
use Rattle.std.specs.Prelude.{Ok}
use mathlib.Core.Path.{◌≡◌, refl}
use mathlib.Core.List.{List, [], ◌∷◌}
use Prim.Native.Nat.{ℕ, suc}
use Rattle.lists.specs.Tests.{any, keep, all, different, position}
use Rattle.arbitration.specs.Contest.{remaining, dominant_windows, winner, decided}
use Rattle.table.specs.Table.{Table, columns, valid}
use Rattle.turns.specs.Request.{key_with, for_each, contend, respond}
use Rattle.guard.specs.Guard.{guard}
use Rattle.devices.specs.WholeScan.{scan_from, left_by, serials_heard, addresses_heard, fill_heard, closing, scan_call}
use Rattle.devices.specs.declared.Scanned.TheVariants.{Complete, Nobody, Unfinished}

-- three devices, none scanned
abbrev three : ℕ → ℕ → ℕ → Table
three a b c = columns (0x0001EB37 ∷ 5 ∷ 9 ∷ []) (a ∷ b ∷ c ∷ []) (0 ∷ 0 ∷ 0 ∷ [])

abbrev room : ℕ → ℕ → ℕ → List ℕ
room x y z = x ∷ y ∷ z ∷ []

-- W12 "serials 0001EB37, 5, 9: listed 5, 9, 0001EB37 in 4 requests", under any cap that allows as many
pub w12 : (a b c p q r x y z more : ℕ)
    → ((scan_call (suc (suc (suc (suc more)))) (room p q r) (room x y z) (three a b c)).scanned ≡ Ok (Complete 4 106))
    × ((scan_call (suc (suc (suc (suc more)))) (room p q r) (room x y z) (three a b c)).serials ≡ 5 ∷ 9 ∷ 0x0001EB37 ∷ [])
    × ((scan_call (suc (suc (suc (suc more)))) (room p q r) (room x y z) (three a b c)).addresses ≡ b ∷ c ∷ a ∷ [])
unfolding any keep remaining dominant_windows winner decided all different valid key_with for_each position contend respond guard scan_from left_by serials_heard addresses_heard fill_heard closing scan_call
w12 a b c p q r x y z more = (refl, refl, refl)

-- W13 "cap 3 lists the same, Unfinished, 3"
pub w13 : (a b c p q r x y z : ℕ)
    → ((scan_call 3 (room p q r) (room x y z) (three a b c)).scanned ≡ Ok (Unfinished 3 80))
    × ((scan_call 3 (room p q r) (room x y z) (three a b c)).serials ≡ 5 ∷ 9 ∷ 0x0001EB37 ∷ [])
    × ((scan_call 3 (room p q r) (room x y z) (three a b c)).addresses ≡ b ∷ c ∷ a ∷ [])
unfolding any keep remaining dominant_windows winner decided all different valid key_with for_each position contend respond guard scan_from left_by serials_heard addresses_heard fill_heard closing scan_call
w13 a b c p q r x y z = (refl, refl, refl)

-- W14 "no device, cap 1: Nobody, 1"
pub w14 : (scan_call 1 [] [] (columns [] [] [])).scanned ≡ Ok (Nobody 1 0)
unfolding any keep remaining dominant_windows winner decided all different valid key_with for_each position contend respond guard scan_from left_by serials_heard addresses_heard fill_heard closing scan_call
w14 = refl
