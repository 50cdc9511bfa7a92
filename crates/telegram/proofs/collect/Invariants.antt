-- `telegram::collect` meets its contract. The loop's invariant: what is due from the start is what is due from here.
-- Assumes nothing.
use mathlib.Core.Path.{◌≡◌}
use mathlib.Core.List.{List}
use Prim.Native.Nat.{ℕ, ◌≤◌}
use lib.ListN.{length}
use Rattle.telegram.specs.Telegram.{last_of}
use Rattle.telegram.proofs.CollectTurn.{Reaches}
use Rattle.telegram.proofs.collect.Given as goal

abbrev pub invariant-loop-place : goal.invariant-loop-place
invariant-loop-place l =
    (l.fn.from.len ≤ l.place) × (l.place ≤ l.len) × ((so_far : List ℕ) → length so_far ≡ l.fn.from.len → last_of so_far ≡ l.initial.value → Reaches l.command l.run l.n so_far l.initial.last l.initial.at l.len l.place l.value l.last l.at)
