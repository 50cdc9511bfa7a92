-- A device's ledger beside its queue: how they go together, and how they go on doing so when an event is queued, when a packet is
-- confirmed or not, and when one is heard.
-- Assumes nothing.
use Rattle.std.specs.Prelude.{Ok}
use mathlib.Core.Path.{◌≡◌, refl, sym, ap, ◌∙◌, subst₃}
use mathlib.Core.Bool.{true}
use mathlib.Core.List.{List, [], ◌∷◌, ◌++◌, append_assoc, append-nil}
use Prim.Native.Nat.{ℕ, ◌≤◌, ◌<◌}
use native.Mathlib.Omega.{arith}
use lib.Dec.{ltb, eqb}
use lib.ListN.{length, take, drop, take-append-drop}
use lib.Seq.{take-append-le, length-take-le}
use borrow.Author.Tests.{ltb-true, lt-ltb, eqb-true, eq-eqb}
use Rattle.lists.proofs.Cases.{pick_cases, true_not_false, both, both_first, both_second}
use Rattle.eventrequests.specs.declared.EventRequest.{EventRequest}
use Rattle.queues.proofs.Events.{queued_length}
use Rattle.queues.specs.Queues.{Queues, Queued, flag_of, last_of, count_of, slots_of, queue}
use Rattle.confirmation.specs.Confirmation.{other_flag}
use Rattle.polls.specs.Poll.{packet}
use Rattle.eventsequence.specs.Calls.{Ledger, opening, enter_new, names_packet, packet_dropped, enter_confirmed, packet_sent, enter_heard}

-- of a device: the events that it had at the beginning, those that it has now, how many its last packet had, and its flag
pub record Follows (old events : List Queued) (last flag : ℕ) (l : Ledger) : Type 0 where
  pub in_order : old ++ l.queued ≡ l.dropped ++ events
  pub packet_first : take last events ≡ l.packet
  pub packet_long : last ≡ length l.packet
  pub flag_stands : flag ≡ l.flag

-- the same by the columns
abbrev pub FollowsIn : List Queued → ℕ → Queues → Ledger → Type 0
FollowsIn old device q l = Follows old (queue q device) (last_of q device) (flag_of q device) l

-- at the beginning
pub follows_first : (q : Queues) (device : ℕ) → last_of q device ≤ count_of q device → FollowsIn (queue q device) device q (opening q device)
follows_first q device sent =
    record {
      in_order = append-nil (queue q device);
      packet_first = refl;
      packet_long = sym (length-take-le (last_of q device) (queue q device) (omega (arith, queued_length (count_of q device) (slots_of q.slots device))));
      flag_stands = refl;
    }

module _ {old events : List Queued} {last flag : ℕ} {l : Ledger} (f : Follows old events last flag l) where
  -- where nothing that it speaks of changed
  pub follows_on : {events' : List Queued} {last' flag' : ℕ} → events' ≡ events → last' ≡ last → flag' ≡ flag → Follows old events' last' flag' l
  follows_on e s g = subst₃ (λ (x : List Queued) (n m : ℕ). Follows old x n m l) (sym e) (sym s) (sym g) f

  -- ---- a new event

  pub follows_new : (e : Queued) → last ≤ length events → Follows old (events ++ e ∷ []) last flag (enter_new (Ok tt) e l)
  follows_new e sent =
      record {
        in_order = sym (append_assoc old l.queued (e ∷ [])) ∙ ap (λ (x : List Queued). x ++ e ∷ []) f.in_order ∙ append_assoc l.dropped events (e ∷ []);
        packet_first = take-append-le last events (e ∷ []) sent ∙ f.packet_first;
        packet_long = f.packet_long;
        flag_stands = f.flag_stands;
      }

  -- ---- a confirmation

  -- of its packet
  follows_dropped : Follows old (drop last events) 0 (other_flag flag) (packet_dropped l)
  follows_dropped =
      record {
        in_order = f.in_order
            ∙ ap (λ (x : List Queued). l.dropped ++ x) (sym (take-append-drop last events) ∙ ap (λ (x : List Queued). x ++ drop last events) f.packet_first)
            ∙ sym (append_assoc l.dropped l.packet (drop last events));
        packet_first = refl;
        packet_long = refl;
        flag_stands = ap other_flag f.flag_stands;
      }

  module _ (id : ℕ) (request : EventRequest) where
    -- what a poll that names the packet says
    names_id : names_packet id request l ≡ true → request.confirmed ≡ id
    names_id n = eqb-true request.confirmed id (both_first (eqb request.confirmed id) _ n)

    names_flag : names_packet id request l ≡ true → flag ≡ request.flag
    names_flag n = f.flag_stands ∙ sym (eqb-true request.flag l.flag (both_first _ (ltb 0 (length l.packet)) (both_second (eqb request.confirmed id) _ n)))

    names_some : names_packet id request l ≡ true → 0 < last
    names_some n = omega (arith, f.packet_long, ltb-true 0 (length l.packet) (both_second (eqb request.flag l.flag) _ (both_second (eqb request.confirmed id) _ n)))

    -- .. and one that says that names it
    names_packet_lem : request.confirmed ≡ id → flag ≡ request.flag → 0 < last → names_packet id request l ≡ true
    names_packet_lem named right some = both (eq-eqb request.confirmed id named) (both (eq-eqb _ l.flag (cc)) (lt-ltb 0 (length l.packet) (omega (arith, f.packet_long))))

    pub follows_confirmed : request.confirmed ≡ id → flag ≡ request.flag → 0 < last → Follows old (drop last events) 0 (other_flag flag) (enter_confirmed id request l)
    follows_confirmed named right some =
        pick_cases (Follows old (drop last events) 0 (other_flag flag)) (names_packet id request l) (packet_dropped l) l
        (λ n. follows_dropped) (λ n. true_not_false (names_packet_lem named right some) n)

    -- of any other packet, or of none
    pub follows_unconfirmed : (request.confirmed ≡ id → flag ≡ request.flag → 0 < last → ⊥) → Follows old events last flag (enter_confirmed id request l)
    follows_unconfirmed wrong =
        pick_cases (Follows old events last flag) (names_packet id request l) (packet_dropped l) l
        (λ n. absurd (wrong (names_id n) (names_flag n) (names_some n))) (λ n. f)

  -- ---- a packet heard

  follows_packet : (listed : List Queued) → listed ≡ take (length listed) events → Follows old events (length listed) flag (packet_sent listed l)
  follows_packet listed oldest = record { in_order = f.in_order; packet_first = sym oldest; packet_long = refl; flag_stands = f.flag_stands }

  module _ (id dominant sender sent queued : ℕ) (listed : List Queued) where
    -- from it
    pub follows_sent : sender ≡ id → listed ≡ take (length listed) events → Follows old events (length listed) flag (enter_heard id (packet dominant sender sent queued listed) l)
    follows_sent own oldest =
        pick_cases (Follows old events (length listed) flag) (eqb sender id) (packet_sent listed l) l
        (λ e. follows_packet listed oldest) (λ e. true_not_false (eq-eqb sender id own) e)

    -- from another
    pub follows_unsent : (sender ≡ id → ⊥) → Follows old events last flag (enter_heard id (packet dominant sender sent queued listed) l)
    follows_unsent other = pick_cases (Follows old events last flag) (eqb sender id) (packet_sent listed l) l (λ e. absurd (other (eqb-true sender id e))) (λ e. f)
