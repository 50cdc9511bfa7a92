-- As many of the oldest events as fit: they have no more bytes than were asked for, and one more would be too long.
-- Assumes nothing.
use mathlib.Core.Path.{◌≡◌}
use mathlib.Core.Bool.{true}
use mathlib.Core.List.{List, [], ◌∷◌}
use Prim.Native.Nat.{ℕ, suc, ◌+◌, ◌-◌, ◌≤◌, ◌<◌}
use native.Mathlib.Omega.{arith}
use lib.Dec.{leb}
use lib.ListN.{length, take, length-append}
use borrow.Author.Tests.{leb-true, leb-false}
use Rattle.lists.proofs.Cases.{pick_cases, true_not_false}
use Rattle.events.specs.Events.{events_bytes}
use Rattle.queues.specs.Queues.{Queued}
use Rattle.polls.specs.Poll.{event_size, oldest_fits, how_many_fit}
use Rattle.eventsequence.specs.Sequence.{on_wire}

-- one event more
one_longer : (e : Queued) (es : List Queued) → on_wire (e ∷ es) ≡ event_size e + on_wire es
unfolding events_bytes
one_longer e es = simp length-append

-- of so many, as are asked of
pub record Fits (most n : ℕ) (events : List Queued) : Type 0 where
  pub few : n ≤ length events
  pub within : on_wire (take n events) ≤ most
  pub full : n < length events → most < on_wire (take (suc n) events)
  -- where the oldest fits, it is among them
  pub some : oldest_fits most events ≡ true → 0 < length events → 0 < n

pub as_many_fit : (most : ℕ) (events : List Queued) → Fits most (how_many_fit most events) events
unfolding how_many_fit events_bytes oldest_fits
as_many_fit most [] = record { few = omega arith; within = omega arith; full = λ h. absurd (omega arith); some = λ fits some. some }
as_many_fit most (e ∷ es) =
    pick_cases (λ (n : ℕ). Fits most n (e ∷ es)) (leb (event_size e) most) (suc (how_many_fit (most - event_size e) es)) 0
    (λ fits. let rest = as_many_fit (most - event_size e) es in
    let room = leb-true (event_size e) most fits in
    record {
      few = omega (arith, rest.few);
      within = omega (arith, one_longer e (take (how_many_fit (most - event_size e) es) es), rest.within);
      full = λ h. let over = rest.full (omega arith) in omega (arith, one_longer e (take (suc (how_many_fit (most - event_size e) es)) es));
      some = λ fits some. omega arith;
    })
    (λ over. let long = leb-false (event_size e) most over in
    record {
      few = omega arith;
      within = omega arith;
      full = λ h. omega (arith, one_longer e []);
      some = λ fits some. true_not_false fits over;
    })
