-- What is confirmed leaves valid queues valid: the device has sent a packet, so it is there and has its events queued.
-- Assumes nothing.
use mathlib.Core.Path.{◌≡◌, ap₂, ◌∙◌}
use mathlib.Core.Bool.{Bool, true, false}
use mathlib.Core.List.{List}
use mathlib.Core.Logic.{⊎_elim}
use Prim.Native.Nat.{ℕ, ◌<◌}
use native.Mathlib.Omega.{arith}
use lib.Dec.{ltb, eqb}
use lib.ListN.{get_or-eq_default}
use borrow.Author.Tests.{ltb-true}
use Rattle.lists.specs.Choice.{pick}
use Rattle.lists.specs.Tests.{position}
use Rattle.lists.proofs.Cases.{le_or_lt, pick_cases, both_first}
use Rattle.table.specs.Table.{Table, devices}
use Rattle.queues.specs.Queues.{Queues, queue_columns, flag_of, last_of, valid_queues}
use Rattle.queues.proofs.Meaning.{Tested, tested}
use Rattle.queues.proofs.Replaced.{last_sent}
use Rattle.oldest.specs.Oldest.{without, Fewer}
use Rattle.oldest.proofs.Dropping.{drop_oldest}
use Rattle.confirmation.specs.Confirmation.{other_flag, confirms, confirmed_of, confirmed, Leaves}

-- the other flag is one of the two
turned_low : (b : Bool) → pick b 1 0 < 2
turned_low true = omega arith
turned_low false = omega arith

module _ (t : Table) (q : Queues) (v : valid_queues t q ≡ true) (place flag : ℕ) where
  g : Tested t q
  g = tested t q v

  module _ (c : confirms q place flag ≡ true) where
    pub some_sent : 0 < last_of q place
    some_sent = ltb-true 0 (last_of q place) (both_first (ltb 0 (last_of q place)) (eqb (flag_of q place) flag) c)

    -- where a packet was sent, there is a device
    pub place_inside : place < devices t
    place_inside =
        ⊎_elim
        (λ over. let none : last_of q place ≡ 0 = get_or-eq_default q.lasts 0 (omega (arith, g.lasts_long)) in absurd (omega (arith, some_sent)))
        (λ inside. inside)
        (le_or_lt (devices t) place)

    pub fewer : Fewer t place (last_of q place) q
    fewer = drop_oldest t q place (last_of q place) v place_inside (last_sent t q g place place_inside)

  valid_at : valid_queues t (confirmed_of place flag q) ≡ true
  valid_at =
      pick_cases (λ (x : Queues). valid_queues t x ≡ true) (confirms q place flag) (without place (last_of q place) (other_flag flag) 0 q) q
      (λ c. (fewer c).valid_again (other_flag flag) 0 (turned_low (eqb flag 0)) (omega (arith, last_sent t q g place (place_inside c))))
      (λ c. v)

pub confirmed_valid : (t : Table) (q : Queues) (id flag : ℕ) → valid_queues t q ≡ true → valid_queues t (confirmed t.addresses id flag q) ≡ true
unfolding confirmed
confirmed_valid t q id flag v = valid_at t q v (position id t.addresses) flag

-- the four columns as they are left are the queues
pub left_queues : (given : Queues) (flags lasts counts slots : List ℕ) → Leaves given flags lasts counts slots → queue_columns flags lasts counts slots ≡ given
left_queues given flags lasts counts slots left =
    ap₂ (λ (f l : List ℕ). queue_columns f l counts slots) left.flags_are left.lasts_are
    ∙ ap₂ (queue_columns given.flags given.lasts) left.counts_are left.slots_are
