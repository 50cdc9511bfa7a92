-- Laws of events from end to end: the walk of the code over them, and that events and their bytes are inverse to each other.
-- Assumes nothing.
use Rattle.std.specs.Prelude.{Option, Some, None}
use Rattle.events.specs.declared.PlacedEvent.{PlacedEvent}
use mathlib.Core.Path.{◌≡◌, refl, sym, ap, ap₂, ◌∙◌}
use mathlib.Core.Bool.{Bool, true, false}
use mathlib.Core.List.{List, [], ◌∷◌, ◌++◌, append_assoc}
use Prim.Native.Nat.{ℕ, zero, suc, ◌+◌, ◌-◌, ◌≤◌, ◌<◌}
use native.Mathlib.Nat.{zero-add, add-zero, add_assoc}
use native.Mathlib.Omega.{arith}
use lib.Dec.{eqb}
use lib.ListN.{length, get_or, take, drop, length-append, drop_of_length-le}
use borrow.Author.Tests.{eq-eqb, ne_eqb, eqb-true}
use Rattle.lists.specs.Choice.{pick}
use Rattle.events.specs.Events.{Event, event_bytes, events_bytes, event_at, next_of, in_front, walked, Listed, listed, uneven, add, events_from, events_in, listing_of}
use Rattle.events.proofs.EventAt.{whole_of, event_there, event_shown, event_next, event_some, event_exact, found_start, found_next, found_within}

-- ---- one step

module _ (bytes : List ℕ) (at : ℕ) where
  pub list_end : (most : ℕ) → at ≡ length bytes → events_from most bytes at ≡ listed []
  unfolding events_from
  list_end zero ends = simp (eq-eqb at (length bytes) ends)
  list_end (suc most) ends = simp (eq-eqb at (length bytes) ends)

  pub list_step : (most : ℕ) (r : Option PlacedEvent) → at < length bytes → event_at bytes at ≡ r
      → events_from (suc most) bytes at ≡ add bytes r (events_from most bytes (next_of r))
  unfolding events_from
  list_step most r within is =
      simp (ne_eqb at (length bytes) (λ e. omega (arith, e)))
      (ap (λ (x : Option PlacedEvent). add bytes x (events_from most bytes (next_of x))) is)

-- ---- counting

-- with so many before them
abbrev more : ℕ → Option ℕ → Option ℕ
more n (Some k) = Some (n + k)
more n None = None

more_none : (l : Option ℕ) → more 0 l ≡ l
more_none (Some n) = ap Some (zero-add n)
more_none None = refl

more_more : (n k : ℕ) (l : Option ℕ) → more n (more k l) ≡ more (n + k) l
more_more n k (Some j) = ap Some (sym (add_assoc n k j))
more_more n k None = refl

one_more : (bytes : List ℕ) (event : PlacedEvent) (rest : Listed) → listing_of (add bytes (Some event) rest) ≡ more 1 (listing_of rest)
one_more bytes event (listed events) = let e : suc (length events) ≡ 1 + length events = omega arith in ap Some e
one_more bytes event uneven = refl

-- a walk that has passed so many events and stands at this position
abbrev pub Counted : List ℕ → ℕ → ℕ → Type 0
Counted bytes count at =
    (count ≤ at) × (at ≤ length bytes) × (listing_of (events_in bytes) ≡ more count (listing_of (events_from (length bytes - count) bytes at)))

pub count_none : (bytes : List ℕ) → Counted bytes 0 0
unfolding events_in
count_none bytes =
    let all : length bytes ≡ length bytes - 0 = omega arith in
    (omega arith, omega arith, sym (more_none _) ∙ ap (λ (n : ℕ). more 0 (listing_of (events_from n bytes 0))) all)

one_less : (n count at : ℕ) → count ≤ at → at < n → n - count ≡ suc (n - (count + 1))
one_less n count at below within = omega arith

module _ (bytes : List ℕ) (count at : ℕ) (so_far : Counted bytes count at) where
  -- what the events from here on make of the whole
  here : (r : Option PlacedEvent) → at < length bytes → event_at bytes at ≡ r
      → listing_of (events_in bytes) ≡ more count (listing_of (add bytes r (events_from (length bytes - (count + 1)) bytes (next_of r))))
  here r within is =
      so_far.2
      ∙ ap (λ (n : ℕ). more count (listing_of (events_from n bytes at))) (one_less (length bytes) count at so_far.0 within)
      ∙ ap (λ (l : Listed). more count (listing_of l)) (list_step bytes at (length bytes - (count + 1)) r within is)

  pub count_more : {event : PlacedEvent} → at < length bytes → event_at bytes at ≡ Some event → Counted bytes (count + 1) event.next
  count_more {event} within found =
      let further : count + 1 ≤ event.next = omega (arith, so_far.0, found_next bytes at found, found_start bytes at found) in
      let rest = events_from (length bytes - (count + 1)) bytes event.next in
      (further, found_within bytes at found, here (Some event) within found ∙ ap (more count) (one_more bytes event rest) ∙ more_more count 1 (listing_of rest))

  pub count_stops : at < length bytes → event_at bytes at ≡ None → None ≡ listing_of (events_in bytes)
  count_stops within broken = sym (here None within broken)

  pub count_ends : length bytes ≤ at → Some count ≡ listing_of (events_in bytes)
  count_ends over =
      let ends : at ≡ length bytes = omega (arith, so_far.1) in
      sym
      (so_far.2
      ∙ ap (λ (l : Listed). more count (listing_of l)) (list_end bytes at (length bytes - count) ends)
      ∙ ap Some (add-zero count))

-- ---- events whose bytes stand there, found

pub walk_there : (events : List Event) (front rest : List ℕ) → walked (length events) (front ++ (events_bytes events ++ rest)) (length front) ≡ events
unfolding walked events_bytes
walk_there [] front rest = refl
walk_there (event ∷ events) front rest =
    let next = front ++ event_bytes event in
    let tail = events_bytes events ++ rest in
    let n = length events in
    ap (λ (l : List ℕ). walked (suc n) (front ++ l) (length front)) (append_assoc (event_bytes event) (events_bytes events) rest)
    ∙ ap (λ (r : Option PlacedEvent). in_front (front ++ (event_bytes event ++ tail)) r (walked n (front ++ (event_bytes event ++ tail)) (next_of r))) (event_there front event tail)
    ∙ event_shown front event tail (walked n (front ++ (event_bytes event ++ tail)) (length front + 4 + length event.payload))
    ∙ ap (λ (l : List Event). event ∷ l)
    (ap₂ (walked n) (sym (append_assoc front (event_bytes event) tail)) (event_next front event tail) ∙ walk_there events next rest)

pub list_there : (events : List Event) (front : List ℕ) (most : ℕ) → length events ≤ most → events_from most (front ++ events_bytes events) (length front) ≡ listed events
unfolding events_bytes
list_there [] front most enough = list_end (front ++ []) (length front) most (omega (arith, length-append front []))
list_there (event ∷ events) front zero enough = let z : ⊥ = omega arith in absurd z
list_there (event ∷ events) front (suc most) enough =
    let tail = events_bytes events in
    let bytes = front ++ (event_bytes event ++ tail) in
    let rest : events_from most bytes (length front + 4 + length event.payload) ≡ listed events =
    ap₂ (events_from most) (sym (append_assoc front (event_bytes event) tail)) (event_next front event tail)
    ∙ list_there events (front ++ event_bytes event) most (omega arith) in
    list_step bytes (length front) most (whole_of event (length front)) (event_some front event tail) (event_there front event tail)
    ∙ ap (add bytes (whole_of event (length front))) rest
    ∙ ap listed (event_shown front event tail events)

-- no event is shorter than its head
pub enough_bytes : (events : List Event) → length events ≤ length (events_bytes events)
unfolding event_bytes events_bytes
enough_bytes [] = omega arith
enough_bytes (event ∷ events) = omega (arith, length-append (event_bytes event) (events_bytes events), enough_bytes events)

pub list_back : (events : List Event) → events_in (events_bytes events) ≡ listed events
unfolding events_in
list_back events = list_there events [] (length (events_bytes events)) (enough_bytes events)

-- ---- what was found is its bytes

is_listed : (xs ys : List Event) → listed xs ≡ listed ys → xs ≡ ys
is_listed xs ys e = cc

pub list_exact : (most : ℕ) (bytes : List ℕ) (at : ℕ) (events : List Event) → ((i : ℕ) → i < length bytes → get_or bytes i 0 < 256) → at ≤ length bytes
    → events_from most bytes at ≡ listed events → drop at bytes ≡ events_bytes events
unfolding events_from events_bytes
list_exact zero bytes at events small within read = by (eqb at (length bytes)) refl read
  where
    by : (t : Bool) → eqb at (length bytes) ≡ t → pick t (listed []) uneven ≡ listed events → drop at bytes ≡ events_bytes events
    by true is e =
        drop_of_length-le bytes {i = at} (omega (arith, eqb-true at (length bytes) is)) ∙ ap events_bytes (is_listed [] events e)
    by false is e = let z : ◌≡◌ {A = ℕ} 0 1 = cc in absurd (omega arith)
list_exact (suc most) bytes at events small within read =
    by (eqb at (length bytes)) refl (event_at bytes at) refl (list_exact most bytes) read
  where
    one : (event : PlacedEvent) → event_at bytes at ≡ Some event → (rest : Listed) → events_from most bytes event.next ≡ rest
        → ((at : ℕ) (events : List Event) → ((i : ℕ) → i < length bytes → get_or bytes i 0 < 256) → at ≤ length bytes → events_from most bytes at ≡ listed events → drop at bytes ≡ events_bytes events)
        → add bytes (Some event) rest ≡ listed events → drop at bytes ≡ events_bytes events
    one event found (listed more) is below e =
        event_exact bytes at small found
        ∙ ap (λ (l : List ℕ). event_bytes (record { kind = event.kind; identifier = event.identifier; payload = take event.size (drop event.start bytes) }) ++ l) (below event.next more small (found_within bytes at found) is)
        ∙ ap events_bytes (is_listed (in_front bytes (Some event) more) events e)
    one event found uneven is below e = let z : ◌≡◌ {A = ℕ} 0 1 = cc in absurd (omega arith)

    by : (t : Bool) → eqb at (length bytes) ≡ t → (r : Option PlacedEvent) → event_at bytes at ≡ r
        → ((at : ℕ) (events : List Event) → ((i : ℕ) → i < length bytes → get_or bytes i 0 < 256) → at ≤ length bytes → events_from most bytes at ≡ listed events → drop at bytes ≡ events_bytes events)
        → pick t (listed []) (add bytes r (events_from most bytes (next_of r))) ≡ listed events → drop at bytes ≡ events_bytes events
    by true is r found below e =
        drop_of_length-le bytes {i = at} (omega (arith, eqb-true at (length bytes) is)) ∙ ap events_bytes (is_listed [] events e)
    by false is (Some event) found below e = one event found (events_from most bytes event.next) refl below e
    by false is None found below e = let z : ◌≡◌ {A = ℕ} 0 1 = cc in absurd (omega arith)
