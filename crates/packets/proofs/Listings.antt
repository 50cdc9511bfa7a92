-- How many events a packet lists: each outcome of the code by the bytes of the input, and what it says of the definition's test.
-- Assumes nothing.
use Rattle.std.specs.Prelude.{Some, None}
use mathlib.Core.Path.{◌≡◌, refl, sym, ap, ap₂, ◌∙◌}
use mathlib.Core.Bool.{Bool, true, false, ◌&&◌}
use mathlib.Core.List.{List, [], ◌∷◌}
use Prim.Native.Nat.{ℕ, zero, suc, ◌+◌, ◌-◌, ◌≤◌, ◌<◌}
use native.Mathlib.Nat.{add_assoc}
use native.Mathlib.Omega.{arith}
use lib.Dec.{eqb, leb}
use lib.ListN.{length, get_or, take, drop, length-drop}
use lib.Seq.{get_or-take, get_or-drop, drop-drop, take-nil}
use borrow.Author.Tests.{le-leb, lt-leb, leb-true, eq-eqb, ne_eqb}
use Rattle.lists.specs.Choice.{pick}
use Rattle.lists.proofs.Cases.{true_not_false, both_first, both_second}
use Rattle.framing.proofs.HeadCheck.{carried_length}
use Rattle.events.specs.Events.{Listed, listed, uneven, events_in, how_many_listed, listing_of}
use Rattle.packets.specs.Layout.{no_more_than, packet_fits}
use Rattle.packets.specs.Listing.{carried_at, packet_listing}

-- ---- the test of the definition, by the code's outcome

-- where a packet's bytes fit, its events come out even and are no more than queued
module _ (carried : List ℕ) where
  even_there : packet_fits carried ≡ true → no_more_than (get_or carried 1 0) (events_in (drop 3 carried)) ≡ true
  unfolding packet_fits
  even_there fits =
      both_second (eqb (get_or carried 2 0) (length (drop 3 carried))) (no_more_than (get_or carried 1 0) (events_in (drop 3 carried)))
      (both_second (leb 3 (length carried)) (eqb (get_or carried 2 0) (length (drop 3 carried)) && no_more_than (get_or carried 1 0) (events_in (drop 3 carried))) fits)

  pub unfit : packet_listing carried ≡ None → packet_fits carried ≡ false
  unfolding packet_listing
  unfit is = by (packet_fits carried) refl (events_in (drop 3 carried)) refl is
    where
      by : (t : Bool) → packet_fits carried ≡ t → (l : Listed) → events_in (drop 3 carried) ≡ l → pick t (listing_of l) None ≡ None → t ≡ false
      by true fits (listed events) read e = let z : ◌≡◌ {A = ℕ} 0 1 = cc in absurd (omega arith)
      by true fits uneven read e = true_not_false (even_there fits) (ap (no_more_than (get_or carried 1 0)) read)
      by false fits l read e = refl

  pub fit : {n : ℕ} → packet_listing carried ≡ Some n → (packet_fits carried ≡ true) × (how_many_listed (events_in (drop 3 carried)) ≡ n)
  unfolding packet_listing
  fit {n} is = by (packet_fits carried) refl (events_in (drop 3 carried)) refl is
    where
      by : (t : Bool) → packet_fits carried ≡ t → (l : Listed) → events_in (drop 3 carried) ≡ l → pick t (listing_of l) None ≡ Some n → (t ≡ true) × (how_many_listed l ≡ n)
      by true fits (listed events) read e = (refl, cc)
      by true fits uneven read e = let z : ◌≡◌ {A = ℕ} 0 1 = cc in absurd (omega arith)
      by false fits l read e = let z : ◌≡◌ {A = ℕ} 0 1 = cc in absurd (omega arith)

-- ---- the code's outcome, by the bytes of the input

drop_take : (k n : ℕ) (l : List ℕ) → drop k (take n l) ≡ take (n - k) (drop k l)
drop_take zero n l = let e : n ≡ n - 0 = omega arith in ap (λ (m : ℕ). take m l) e
drop_take (suc k) zero l = let e : 0 ≡ 0 - suc k = omega arith in ap (λ (m : ℕ). take m (drop (suc k) l)) e
drop_take (suc k) (suc n) [] = sym (take-nil (suc n - suc k))
drop_take (suc k) (suc n) (x ∷ xs) = let e : n - k ≡ suc n - suc k = omega arith in drop_take k n xs ∙ ap (λ (m : ℕ). take m (drop k xs)) e

-- how many bytes the events have
as_many : (at m : ℕ) → 8 ≤ m → m - 5 - 3 ≡ at + (m - 2) - (at + 6)
as_many at m some = omega arith

not_more : (l : Listed) (queued n : ℕ) → listing_of l ≡ Some n → n ≤ queued → no_more_than queued l ≡ true
not_more (listed events) queued n is within = let same : length events ≡ n = cc in le-leb (length events) queued (omega arith)
not_more uneven queued n is within = let z : ◌≡◌ {A = ℕ} 0 1 = cc in absurd (omega arith)

too_many : (l : Listed) (queued n : ℕ) → listing_of l ≡ Some n → queued < n → no_more_than queued l ≡ false
too_many (listed events) queued n is over = let same : length events ≡ n = cc in lt-leb (length events) queued (omega arith)
too_many uneven queued n is over = let z : ◌≡◌ {A = ℕ} 0 1 = cc in absurd (omega arith)

not_even : (l : Listed) (queued : ℕ) → listing_of l ≡ None → no_more_than queued l ≡ false
not_even (listed events) queued is = let z : ◌≡◌ {A = ℕ} 0 1 = cc in absurd (omega arith)
not_even uneven queued is = refl

module _ (input : List ℕ) (at : ℕ) (long : 5 ≤ length input - at) where
  abbrev carried : List ℕ
  carried = carried_at input at

  pub listing_short : length input - at < 8 → packet_listing carried ≡ None
  unfolding packet_fits packet_listing
  listing_short short = simp (lt-leb 3 (length carried) (omega (arith, carried_length input at long)))

  pub fit_long : packet_fits carried ≡ true → 8 ≤ length input - at
  unfolding packet_fits
  fit_long fits = omega (arith, carried_length input at long, leb-true 3 (length carried) (both_first (leb 3 (length carried)) _ fits))

  module _ (some : 8 ≤ length input - at) where
    -- where the events stand in the input
    abbrev events : List ℕ
    events = take (at + (length input - at - 2) - (at + 6)) (drop (at + 6) input)

    events_are : drop 3 carried ≡ events
    events_are =
        drop_take 3 (length input - at - 5) (drop (at + 3) input)
        ∙ ap₂ take (as_many at (length input - at) some) (drop-drop 3 (at + 3) input ∙ ap (λ (n : ℕ). drop n input) (add_assoc at 3 3))

    three : leb 3 (length carried) ≡ true
    three = le-leb 3 (length carried) (omega (arith, carried_length input at long))

    stands : (k place : ℕ) → k < 3 → place ≡ at + 3 + k → get_or carried k 0 ≡ get_or input place 0
    stands k place within is =
        get_or-take (length input - at - 5) (drop (at + 3) input) k 0 (omega arith)
        ∙ get_or-drop (at + 3) input k 0
        ∙ ap (λ (n : ℕ). get_or input n 0) (sym is)

    behind_head : length (drop 3 carried) ≡ length input - at - 8
    behind_head = omega (arith, length-drop 3 carried, carried_length input at long)

    pub listing_length : (get_or input (at + 5) 0 ≡ length input - at - 8 → ⊥) → packet_listing carried ≡ None
    unfolding packet_fits packet_listing
    listing_length other =
        simp (three, ne_eqb (get_or carried 2 0) (length (drop 3 carried)) (λ e. other (sym (stands 2 (at + 5) (omega arith) (omega arith)) ∙ e ∙ behind_head)))

    module _ (size : get_or input (at + 5) 0 ≡ length input - at - 8) where
      agrees : eqb (get_or carried 2 0) (length (drop 3 carried)) ≡ true
      agrees = eq-eqb (get_or carried 2 0) (length (drop 3 carried)) (stands 2 (at + 5) (omega arith) (omega arith) ∙ size ∙ sym behind_head)

      queued : get_or carried 1 0 ≡ get_or input (at + 4) 0
      queued = stands 1 (at + 4) (omega arith) (omega arith)

      pub listing_uneven : listing_of (events_in events) ≡ None → packet_listing carried ≡ None
      unfolding packet_fits packet_listing
      listing_uneven is =
          let here : listing_of (events_in (drop 3 carried)) ≡ None = ap (λ (l : List ℕ). listing_of (events_in l)) events_are ∙ is in
          simp (three, agrees, not_even (events_in (drop 3 carried)) (get_or carried 1 0) here)

      pub listing_over : {n : ℕ} → listing_of (events_in events) ≡ Some n → get_or input (at + 4) 0 < n → packet_listing carried ≡ None
      unfolding packet_fits packet_listing
      listing_over {n} is over =
          let here : listing_of (events_in (drop 3 carried)) ≡ Some n = ap (λ (l : List ℕ). listing_of (events_in l)) events_are ∙ is in
          simp (three, agrees, too_many (events_in (drop 3 carried)) (get_or carried 1 0) n here (omega (arith, queued)))

      pub listing_even : {n : ℕ} → listing_of (events_in events) ≡ Some n → n ≤ get_or input (at + 4) 0 → packet_listing carried ≡ Some n
      unfolding packet_fits packet_listing
      listing_even {n} is within =
          let here : listing_of (events_in (drop 3 carried)) ≡ Some n = ap (λ (l : List ℕ). listing_of (events_in l)) events_are ∙ is in
          simp (three, agrees, not_more (events_in (drop 3 carried)) (get_or carried 1 0) n here (omega (arith, queued)), here)
