-- What is known of the lengths of the lent registers and access bytes where they are those of a device.
-- Assumes nothing.
use mathlib.Core.Path.{◌≡◌}
use mathlib.Core.Bool.{Bool, true, ◌&&◌}
use lib.Dec.{eqb}
use lib.ListN.{length}
use borrow.Author.Tests.{eqb-true}
use Rattle.lists.specs.Tests.{all}
use Rattle.lists.proofs.Cases.{both_first, both_second}
use Rattle.relay.specs.Device.{Relay, register_count, access_right, valid_relay}

module _ (d : Relay) where
  abbrev enough : Bool
  enough = eqb (length d.registers) register_count

  abbrev access_enough : Bool
  access_enough = eqb (length d.access) register_count

  abbrev each_right : Bool
  each_right = all access_right d.access

  pub registers_long : valid_relay d ≡ true → length d.registers ≡ register_count
  unfolding valid_relay
  registers_long ok = eqb-true _ _ (both_first enough (access_enough && each_right) ok)

  pub access_long : valid_relay d ≡ true → length d.access ≡ register_count
  unfolding valid_relay
  access_long ok = eqb-true _ _ (both_first access_enough each_right (both_second enough (access_enough && each_right) ok))
