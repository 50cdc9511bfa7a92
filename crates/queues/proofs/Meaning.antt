-- What valid queues have, fact by fact.
-- Assumes nothing.
use mathlib.Core.Path.{◌≡◌}
use mathlib.Core.Bool.{true}
use Prim.Native.Nat.{◌*◌}
use lib.Dec.{eqb}
use lib.ListN.{length}
use borrow.Author.Tests.{eqb-true, eq-eqb}
use Rattle.lists.specs.Tests.{all, different}
use Rattle.lists.proofs.Cases.{both_first, both_second, both}
use Rattle.table.specs.Table.{Table, devices, valid}
use Rattle.table.proofs.Meaning.{tested as table_tested}
use Rattle.events.specs.Events.{is_id}
use Rattle.queues.specs.Queues.{Queues, flag_right, each_below, device_right, slots_length, valid_queues}

-- the tests of `valid_queues`, each true
pub record Tested (t : Table) (q : Queues) : Type 0 where
  pub table_valid : valid t ≡ true
  pub ids_right : all is_id t.addresses ≡ true
  pub ids_differ : different t.addresses ≡ true
  pub flags_long : length q.flags ≡ devices t
  pub lasts_long : length q.lasts ≡ devices t
  pub counts_long : length q.counts ≡ devices t
  pub slots_long : length q.slots ≡ slots_length * devices t
  pub flags_right : all flag_right q.flags ≡ true
  pub queues_right : each_below (device_right q.lasts q.counts q.slots) (devices t) ≡ true

module _ (t : Table) (q : Queues) where
  pub tested : valid_queues t q ≡ true → Tested t q
  unfolding valid_queues
  tested h =
      let h1 = both_second (valid t) _ h in
      let h2 = both_second (all is_id t.addresses) _ h1 in
      let h3 = both_second (different t.addresses) _ h2 in
      let h4 = both_second (eqb (length q.flags) (devices t)) _ h3 in
      let h5 = both_second (eqb (length q.lasts) (devices t)) _ h4 in
      let h6 = both_second (eqb (length q.counts) (devices t)) _ h5 in
      let h7 = both_second (eqb (length q.slots) (slots_length * devices t)) _ h6 in
      record {
        table_valid = both_first (valid t) _ h;
        ids_right = both_first (all is_id t.addresses) _ h1;
        ids_differ = both_first (different t.addresses) _ h2;
        flags_long = eqb-true (length q.flags) (devices t) (both_first (eqb (length q.flags) (devices t)) _ h3);
        lasts_long = eqb-true (length q.lasts) (devices t) (both_first (eqb (length q.lasts) (devices t)) _ h4);
        counts_long = eqb-true (length q.counts) (devices t) (both_first (eqb (length q.counts) (devices t)) _ h5);
        slots_long = eqb-true (length q.slots) (slots_length * devices t) (both_first (eqb (length q.slots) (slots_length * devices t)) _ h6);
        flags_right = both_first (all flag_right q.flags) _ h7;
        queues_right = both_second (all flag_right q.flags) _ h7;
      }

  -- there are as many ids as devices
  pub ids_long : Tested t q → length t.addresses ≡ devices t
  ids_long g = (table_tested t g.table_valid).addresses_long

  pub valid_from : Tested t q → valid_queues t q ≡ true
  unfolding valid_queues
  valid_from g =
      both g.table_valid
      (both g.ids_right
      (both g.ids_differ
      (both (eq-eqb (length q.flags) (devices t) g.flags_long)
      (both (eq-eqb (length q.lasts) (devices t) g.lasts_long)
      (both (eq-eqb (length q.counts) (devices t) g.counts_long)
      (both (eq-eqb (length q.slots) (slots_length * devices t) g.slots_long) (both g.flags_right g.queues_right)))))))
