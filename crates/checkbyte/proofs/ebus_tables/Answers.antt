-- `checkbyte::ebus_tables` meets its contract: each half of the constant passes the one test over all its entries, which antt
-- computes. Assumes nothing.
use mathlib.Core.Path.{refl}
use Prim.Native.Nat.{ℕ}
use lib.ListN.{replicate}
use Rattle.crc.proofs.Table.{tested}
use Rattle.checkbyte.specs.BitByBit.{ebus_in, ebus_all}
use Rattle.checkbyte.proofs.ebus_tables.Goals as goal

pub returns : goal.returns
unfolding ebus_all ebus_in
returns c =
    record { one = tested (λ (k : ℕ). ebus_all k (replicate 8 0)) _ refl tt; two = tested (λ (k : ℕ). ebus_all k (replicate 16 0)) _ refl tt }
