-- Devices by their ids: no two have the same, so each is found by its own.
-- Assumes nothing.
use mathlib.Core.Path.{◌≡◌, sym, ◌∙◌}
use mathlib.Core.Logic.{⊎_elim}
use Prim.Native.Nat.{ℕ, ◌<◌}
use native.Mathlib.Omega.{arith}
use lib.ListN.{length, get_or}
use Rattle.lists.proofs.Cases.{same_or_not, le_or_lt}
use Rattle.lists.proofs.All.{different_at}
use Rattle.lists.proofs.Position.{position_is}
use Rattle.table.specs.Table.{Table, devices}
use Rattle.queues.specs.Queues.{Queues, device_of}
use Rattle.queues.proofs.Meaning.{Tested, ids_long as tested_long}

module _ (t : Table) (q : Queues) (g : Tested t q) where
  pub ids_long : length t.addresses ≡ devices t
  ids_long = tested_long t q g

  pub one_device : (i j : ℕ) → i < devices t → j < devices t → get_or t.addresses i 0 ≡ get_or t.addresses j 0 → i ≡ j
  one_device i j hi hj same =
      ⊎_elim (λ here. here)
      (λ apart. absurd (⊎_elim
      (λ le. let less : i < j = omega arith in different_at t.addresses g.ids_differ i j less (omega (arith, ids_long)) same)
      (λ less. different_at t.addresses g.ids_differ j i less (omega (arith, ids_long)) (sym same))
      (le_or_lt i j)))
      (same_or_not i j)

  pub found_there : (device id : ℕ) → device < devices t → get_or t.addresses device 0 ≡ id → device_of t id ≡ device
  found_there device id there own =
      let found = position_is id t.addresses device (omega (arith, ids_long)) own in
      one_device (device_of t id) device (omega (arith, found.0, ids_long)) there (found.1 ∙ sym own)
