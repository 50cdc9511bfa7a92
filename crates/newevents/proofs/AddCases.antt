-- The ways a new event comes out.
-- Assumes nothing.
use Rattle.std.specs.Prelude.{Ok, Err}
use mathlib.Core.Path.{◌≡◌, sym, ap, ap₂, ◌∙◌}
use mathlib.Core.Bool.{true}
use mathlib.Core.List.{List, ◌++◌}
use mathlib.Mathlib.Logic.Function.Defs.{id as itself}
use Prim.Native.Nat.{ℕ, ◌+◌, ◌-◌, ◌*◌, ◌≤◌, ◌<◌}
use native.Mathlib.Omega.{arith}
use lib.Dec.{leb, ltb}
use lib.ListN.{length, take, drop, set}
use borrow.Rule.Slice.PartMut.{put_mid}
use borrow.Author.Tests.{le-leb, lt-ltb, leb-true, ltb-true}
use Rattle.lists.proofs.Cases.{by_test}
use Rattle.refusal.specs.Number.{table_not_valid, frame_length, queue_full, at_place}
use Rattle.table.specs.Table.{Table, devices}
use Rattle.table.proofs.Meaning.{tested as table_tested}
use Rattle.queues.specs.Queues.{Queues, Queued, count_of, device_of, most_queued, most_data, valid_queues}
use Rattle.newevents.specs.Event.{Adding, Adds, add_refusing, put_slot, queued_more, add_call}
use Rattle.queues.proofs.SlotsOf.{part_is}
use Rattle.queues.proofs.Meaning.{tested}

module _ (t : Table) (q : Queues) (id : ℕ) (e : Queued) where
  -- an accepted event passed every test
  pub record Passed : Type 0 where
    pub valid_before : valid_queues t q ≡ true
    pub there : device_of t id < devices t
    pub few : length e.event.payload ≤ most_data
    pub room : count_of q (device_of t id) < most_queued

  pub add_done : Passed → add_call t q id e ≡ record { added = Ok tt; queues = queued_more q (device_of t id) e }
  unfolding add_call
  add_done p = simp (p.valid_before, lt-ltb _ _ p.there, le-leb _ _ p.few, lt-ltb _ _ p.room)

  no_refusal : {P : Type 0} (number : ℕ) → (add_call t q id e).added ≡ Ok tt → add_call t q id e ≡ add_refusing number q → P
  no_refusal number done refused =
      let same : Err (at_place number 0) ≡ Ok tt = sym (ap (λ (a : Adding). a.added) refused) ∙ done in cc

  pub passed : (add_call t q id e).added ≡ Ok tt → Passed
  unfolding add_call
  passed done =
      by_test (valid_queues t q)
      (λ v. by_test (ltb (device_of t id) (devices t))
      (λ d. by_test (leb (length e.event.payload) most_data)
      (λ l. by_test (ltb (count_of q (device_of t id)) most_queued)
      (λ r. record { valid_before = v; there = ltb-true _ _ d; few = leb-true _ _ l; room = ltb-true _ _ r })
      (λ r. no_refusal queue_full done (simp (v, d, l, r))))
      (λ l. no_refusal frame_length done (simp (v, d, l))))
      (λ d. no_refusal frame_length done (simp (v, d))))
      (λ v. no_refusal table_not_valid done (simp v))

-- ---- by what the code knows

-- the device at a place among the addresses has a count and slots
pub record Place (t : Table) (q : Queues) (device : ℕ) : Type 0 where
  pub there : device < devices t
  pub few : devices t ≤ 247
  pub counted : device < length q.counts
  pub slotted : 104 * device + 104 ≤ length q.slots

pub place : (t : Table) (q : Queues) → valid_queues t q ≡ true → (device : ℕ) → device < length t.addresses → Place t q device
place t q v device inside =
    let g = tested t q v in
    let there : device < devices t = omega (arith, (table_tested t g.table_valid).addresses_long, inside) in
    record {
      there = there;
      few = (table_tested t g.table_valid).few;
      counted = omega (arith, g.counts_long, there);
      slotted = omega (arith, g.slots_long, there);
    }

-- an event accepted, as the code writes it: its slots were written through a part of all
pub added_is : (t : Table) (q : Queues) (id : ℕ) (e : Queued) (p : Passed t q id e) (device : ℕ) (found : device ≡ device_of t id) (after : List ℕ)
    → after ≡ put_slot (count_of q device) e (take (104 * device + 104 - 104 * device) (drop (104 * device) q.slots))
    → Adds itself (add_call t q id e) (Ok tt) (set q.counts device (count_of q device + 1)) (put_mid (104 * device) (104 * device + 104 - 104 * device) q.slots after)
unfolding queued_more
added_is t q id e p device found after wrote =
    let is : add_call t q id e ≡ record { added = Ok tt; queues = queued_more q device e } =
    add_done t q id e p ∙ ap (λ (d : ℕ). record { added = Ok tt; queues = queued_more q d e }) (sym found) in
    let long : 104 * device + 104 - 104 * device ≡ 104 = omega arith in
    record {
      result = ap (λ (a : Adding). a.added) (sym is);
      counts_are = ap (λ (a : Adding). a.queues.counts) (sym is);
      slots_are =
          ap₂ (λ (k : ℕ) (l : List ℕ). take (104 * device) q.slots ++ (l ++ drop k (drop (104 * device) q.slots))) long
          (wrote ∙ ap (put_slot (count_of q device) e) (part_is q.slots device))
          ∙ ap (λ (a : Adding). a.queues.slots) (sym is);
    }
