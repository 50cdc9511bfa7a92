-- Laws of the events in slots: those at the start of a list, one more, and an event read back as it was put.
-- Assumes nothing.
use mathlib.Core.Path.{◌≡◌, refl, sym, ap, ap₂, ◌∙◌}
use mathlib.Core.Bool.{Bool, true, false}
use mathlib.Core.List.{List, [], ◌∷◌, ◌++◌}
use Prim.Native.Nat.{ℕ, zero, suc, ◌+◌, ◌*◌, ◌/◌, ◌%◌, ◌≤◌}
use native.Mathlib.Nat.{div-add-mod'}
use native.Mathlib.Omega.{arith}
use lib.Dec.{eqb}
use lib.ListN.{length, take, drop, length-drop, take-append-drop}
use lib.Seq.{drop-append-le, take-append-le, length-take-le, take-take, take-append_seam}
use Rattle.lists.specs.Choice.{pick}
use Rattle.events.specs.Events.{event_bytes}
use Rattle.queues.specs.Queues.{Queued, slot_bytes, queued_in, queued_from}
use Rattle.queues.proofs.SlotsRight.{further}

-- so many events at the start of a list are there whatever stands behind them
pub events_front : (n : ℕ) (front rest : List ℕ) → 13 * n ≤ length front → queued_from n (front ++ rest) ≡ queued_from n front
unfolding queued_from
events_front zero front rest long = refl
events_front (suc n) front rest long =
    ap₂ (λ (slot : List ℕ) (events : List Queued). queued_in slot ∷ events) (take-append-le 13 front rest (omega arith))
    (ap (queued_from n) (drop-append-le 13 front rest (omega arith)) ∙ events_front n (drop 13 front) rest (omega (arith, length-drop 13 front)))

pub events_same : (n : ℕ) (slots rest : List ℕ) → 13 * n ≤ length slots → queued_from n (take (13 * n) slots ++ rest) ≡ queued_from n slots
events_same n slots rest h =
    let long : length (take (13 * n) slots) ≡ 13 * n = length-take-le (13 * n) slots h in
    events_front n (take (13 * n) slots) rest (omega arith)
    ∙ sym (events_front n (take (13 * n) slots) (drop (13 * n) slots) (omega arith))
    ∙ ap (queued_from n) (take-append-drop (13 * n) slots)

-- there are so many
pub queued_length : (n : ℕ) (slots : List ℕ) → length (queued_from n slots) ≡ n
unfolding queued_from
queued_length zero slots = refl
queued_length (suc n) slots = ap suc (queued_length n (drop 13 slots))

-- one event more
pub events_more : (n : ℕ) (slots : List ℕ) → queued_from (suc n) slots ≡ queued_from n slots ++ queued_in (take 13 (drop (13 * n) slots)) ∷ []
unfolding queued_from
events_more zero slots = refl
events_more (suc n) slots =
    ap (λ (events : List Queued). queued_in (take 13 slots) ∷ events)
    (events_more n (drop 13 slots)
    ∙ ap (λ (l : List ℕ). queued_from n (drop 13 slots) ++ queued_in (take 13 l) ∷ []) (sym (further n slots)))

-- an event is read as it was put
read_urgent : (urgent : Bool) → eqb (pick urgent 1 0) 1 ≡ urgent
read_urgent true = refl
read_urgent false = refl

pub event_read : (e : Queued) (rest : List ℕ) → length e.event.payload ≤ 8 → queued_in (take 13 (slot_bytes e ++ rest)) ≡ e
unfolding event_bytes
event_read e rest few =
    let payload = e.event.payload in
    let identifier = e.event.identifier in
    let made : Bool → ℕ → List ℕ → Queued = λ urgent i bytes. record { urgent = urgent; event = record { kind = e.event.kind; identifier = i; payload = bytes } } in
    let data_is : take (length payload) (take 8 (payload ++ rest)) ≡ payload = take-take (length payload) 8 (payload ++ rest) few ∙ take-append_seam payload rest in
    ap (λ (b : Bool). made b (identifier / 256 * 256 + identifier % 256) (take (length payload) (take 8 (payload ++ rest)))) (read_urgent e.urgent)
    ∙ ap₂ (made e.urgent) (div-add-mod' identifier 256) data_is
