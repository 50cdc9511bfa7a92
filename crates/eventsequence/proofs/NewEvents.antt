-- A call for a new event: queues stay valid, and every device's ledger follows its queue.
-- Assumes nothing.
use Rattle.std.specs.Prelude.{Result, Ok, Err}
use Rattle.refusal.specs.declared.Refusal.{Refusal}
use mathlib.Core.Path.{◌≡◌, refl, sym, ap, ◌∙◌, subst}
use mathlib.Core.Bool.{true}
use mathlib.Core.List.{List, [], ◌∷◌, ◌++◌}
use Prim.Native.Nat.{ℕ, ◌≤◌, ◌<◌}
use native.Mathlib.Omega.{arith}
use lib.Dec.{leb, ltb, eqb}
use lib.ListN.{length, get_or}
use borrow.Author.Tests.{le-leb, le-ltb, lt-ltb, ltb-true, ltb-false, eqb-true, eqb-false}
use Rattle.lists.specs.Choice.{pick}
use Rattle.lists.proofs.Cases.{by_test, pick_cases}
use Rattle.refusal.specs.Number.{frame_length, queue_full, at_place}
use Rattle.table.specs.Table.{Table, devices}
use Rattle.queues.proofs.Events.{queued_length}
use Rattle.queues.specs.Queues.{Queues, Queued, count_of, flag_of, last_of, slots_of, device_of, queue, most_queued, most_data, valid_queues}
use Rattle.queues.proofs.Meaning.{Tested, tested}
use Rattle.queues.proofs.Replaced.{last_sent}
use Rattle.newevents.specs.Event.{Adding, add_refusing, add_call, OneMore}
use Rattle.newevents.proofs.NewEvent.{new_event}
use Rattle.eventsequence.specs.Calls.{add, State, Ledger, enter_new, enter}
use Rattle.eventsequence.proofs.Places.{found_there}
use Rattle.eventsequence.proofs.Follows.{FollowsIn, follows_on, follows_new}

-- it is accepted, or refused with a number and changes nothing
data Came (q : Queues) (given : Adding) : Type 0 where
  accepted : given.added ≡ Ok tt → Came q given
  refused : (number : ℕ) → given ≡ add_refusing number q → Came q given

came : (t : Table) (q : Queues) (to : ℕ) (e : Queued) → valid_queues t q ≡ true → Came q (add_call t q to e)
unfolding add_call
came t q to e v =
    by_test (ltb (device_of t to) (devices t))
    (λ there. by_test (leb (length e.event.payload) most_data)
    (λ few. by_test (ltb (count_of q (device_of t to)) most_queued)
    (λ room. accepted (simp (v, there, few, room)))
    (λ full. refused queue_full (simp (v, there, few, full))))
    (λ long. refused frame_length (simp (v, there, long))))
    (λ nobody. refused frame_length (simp (v, nobody)))

-- a device's own queue decides
pub room_decides : (t : Table) (q : Queues) (v : valid_queues t q ≡ true) (device : ℕ) → device < devices t → (e : Queued) → length e.event.payload ≤ 8
    → (add_call t q (get_or t.addresses device 0) e).added ≡ pick (ltb (length (queue q device)) 8) (Ok tt) (Err (at_place queue_full 0))
unfolding add_call
room_decides t q v device there e few =
    let id = get_or t.addresses device 0 in
    let here : device_of t id ≡ device = found_there t q (tested t q v) device id there refl in
    let same : count_of q (device_of t id) ≡ length (queue q device) = ap (count_of q) here ∙ sym (queued_length (count_of q device) (slots_of q.slots device)) in
    pick_cases (λ (a : Result (Unit {0}) Refusal). (add_call t q id e).added ≡ a) (ltb (length (queue q device)) 8) (Ok tt) (Err (at_place queue_full 0))
    (λ room. simp (v, lt-ltb (device_of t id) (devices t) (omega arith), le-leb _ _ few, lt-ltb (count_of q (device_of t id)) 8 (omega (arith, ltb-true (length (queue q device)) 8 room))))
    (λ full. simp (v, lt-ltb (device_of t id) (devices t) (omega arith), le-leb _ _ few, le-ltb (count_of q (device_of t id)) 8 (omega (arith, ltb-false (length (queue q device)) 8 full))))

module _ (s : State) (v : valid_queues s.table s.queues ≡ true) (to : ℕ) (e : Queued) where
  abbrev given : Adding
  given = add_call s.table s.queues to e

  g : Tested s.table s.queues
  g = tested s.table s.queues v

  pub adding_valid : valid_queues s.table given.queues ≡ true
  adding_valid = by_way (came s.table s.queues to e v)
    where
      by_way : Came s.queues given → valid_queues s.table given.queues ≡ true
      by_way (accepted done) = (new_event s.table s.queues to e done).2.valid_again
      by_way (refused number same) = ap (λ (a : Adding). valid_queues s.table a.queues) same ∙ v

  module _ (device : ℕ) (there : device < devices s.table) {old : List Queued} {l : Ledger} (f : FollowsIn old device s.queues l) where
    abbrev id : ℕ
    id = get_or s.table.addresses device 0

    -- the queue of the device that the event is for, and of any other
    module _ (one : OneMore s.table (device_of s.table to) e s.queues given.queues) where
      same_last : last_of given.queues device ≡ last_of s.queues device
      same_last = ap (λ (lasts : List ℕ). get_or lasts device 0) one.lasts_stay

      same_flag : flag_of given.queues device ≡ flag_of s.queues device
      same_flag = ap (λ (flags : List ℕ). get_or flags device 0) one.flags_stay

      own_follows : device_of s.table to ≡ device → FollowsIn old device given.queues (enter_new (Ok tt) e l)
      own_follows here =
          let sent : last_of s.queues device ≤ length (queue s.queues device) =
          omega (arith, last_sent s.table s.queues g device there, queued_length (count_of s.queues device) (slots_of s.queues.slots device)) in
          follows_on (follows_new f e sent) (subst (λ (d : ℕ). queue given.queues d ≡ queue s.queues d ++ e ∷ []) here one.queued) same_last same_flag

      other_follows : (device ≡ device_of s.table to → ⊥) → FollowsIn old device given.queues l
      other_follows apart = follows_on f (one.others device apart) same_last same_flag

    accepted_follows : given.added ≡ Ok tt → FollowsIn old device given.queues (enter id (add to e) s l)
    accepted_follows done =
        let event = new_event s.table s.queues to e done in
        pick_cases (FollowsIn old device given.queues) (eqb to id) _ l
        (λ own. subst (λ (a : Result (Unit {0}) Refusal). FollowsIn old device given.queues (enter_new a e l)) (sym done)
        (own_follows event.2
        (found_there s.table s.queues g device to there (sym (eqb-true to id own)))))
        (λ other. other_follows event.2 (λ here. eqb-false to id other (sym event.1 ∙ ap (λ (i : ℕ). get_or s.table.addresses i 0) (sym here))))

    refused_follows : (number : ℕ) → given ≡ add_refusing number s.queues → FollowsIn old device given.queues (enter id (add to e) s l)
    refused_follows number same =
        subst (λ (a : Adding). FollowsIn old device a.queues (enter id (add to e) s l)) (sym same)
        (pick_cases (FollowsIn old device s.queues) (eqb to id) _ l
        (λ own. subst (λ (a : Adding). FollowsIn old device s.queues (enter_new a.added e l)) (sym same) f)
        (λ other. f))

    pub adding_follows : FollowsIn old device given.queues (enter id (add to e) s l)
    adding_follows = by_way (came s.table s.queues to e v)
      where
        by_way : Came s.queues given → FollowsIn old device given.queues (enter id (add to e) s l)
        by_way (accepted done) = accepted_follows done
        by_way (refused number same) = refused_follows number same
