-- Who wins: the device with the smallest key.
-- Assumes nothing.
use mathlib.Core.Path.{◌≡◌, sym, ap, ◌∙◌, subst}
use Prim.Native.Nat.{ℕ, ◌^◌, ◌≤◌, ◌<◌}
use native.Mathlib.Omega.{arith}
use lib.ListN.{length, get_or}
use Rattle.lists.specs.Tests.{position}
use Rattle.arbitration.specs.Smallest.{zero_bits}
use Rattle.arbitration.specs.declared.Decided.{Decided}
use Rattle.arbitration.proofs.SmallestWins.{contest_law, some_smallest}
use Rattle.table.specs.Table.{Table, devices}
use Rattle.table.proofs.Meaning.{Tested, serial_below}
use Rattle.turns.specs.Request.{key, keys, windows, contest}
use Rattle.turns.proofs.Keys.{key_below, keys_length, keys_at}

-- the key of the device at a place
abbrev pub key_at : Table → ℕ → ℕ
key_at t i = key (get_or t.marks i 0) (get_or t.serials i 0)

pub record Wins (t : Table) (place : ℕ) : Type 0 where
  pub inside : place < devices t
  pub least : (i : ℕ) → i < devices t → key_at t place ≤ key_at t i
  pub zeros : (contest t).dominant ≡ zero_bits windows (key_at t place)

-- each key has 32 bits
pub keys_below : (t : Table) → Tested t → (i : ℕ) → i < length (keys t) → get_or (keys t) i 0 < 2 ^ windows
keys_below t g i h =
    let inside : i < devices t = omega (arith, keys_length t.serials t.marks g.marks_long) in
    subst (λ (k : ℕ). k < 2 ^ windows) (sym (keys_at t.serials t.marks g.marks_long i inside))
    (key_below (get_or t.marks i 0) (get_or t.serials i 0) (serial_below t g i inside))

pub winner_wins : (t : Table) → Tested t → 0 < devices t → Wins t (contest t).place
winner_wins t g somebody =
    let size : length (keys t) ≡ devices t = keys_length t.serials t.marks g.marks_long in
    let at = keys_at t.serials t.marks g.marks_long in
    let found = some_smallest (keys t) (omega arith) in
    let m = found.0 in
    let s = found.1 in
    let won = contest_law windows (keys t) m s (subst (λ (k : ℕ). k < 2 ^ windows) s.there (keys_below t g s.place s.inside)) in
    let here : (contest t).place ≡ position m (keys t) = ap (λ (d : Decided). d.place) won.decides in
    let inside : (contest t).place < devices t = omega (arith, here, won.inside) in
    let mine : key_at t (contest t).place ≡ m = sym (at (contest t).place inside) ∙ ap (λ (p : ℕ). get_or (keys t) p 0) here ∙ won.there in
    record {
      inside = inside;
      least = λ i h. subst (λ (k : ℕ). k ≤ key_at t i) (sym mine) (subst (λ (k : ℕ). m ≤ k) (at i h) (s.least i (omega arith)));
      zeros = ap (λ (d : Decided). d.dominant) won.decides ∙ ap (zero_bits windows) (sym mine);
    }
