-- What a poll confirms: every device's ledger follows its queue.
-- Assumes nothing.
use mathlib.Core.Path.{◌≡◌, refl, sym, ap, ◌∙◌, subst}
use mathlib.Core.Bool.{true}
use mathlib.Core.List.{List}
use mathlib.Core.Logic.{⊎_elim}
use Prim.Native.Nat.{ℕ, ◌<◌}
use native.Mathlib.Omega.{arith}
use lib.Dec.{ltb, eqb}
use lib.ListN.{get_or}
use lib.Seq.{get_or-set_same, get_or-set_other}
use borrow.Author.Tests.{eqb-true, lt-ltb, eq-eqb}
use Rattle.lists.proofs.Position.{position_holds}
use Rattle.lists.proofs.Cases.{same_or_not, pick_cases, true_not_false, both, both_second}
use Rattle.table.specs.Table.{Table, devices}
use Rattle.eventrequests.specs.declared.EventRequest.{EventRequest}
use Rattle.queues.specs.Queues.{Queues, Queued, flag_of, last_of, device_of, valid_queues}
use Rattle.queues.proofs.Meaning.{Tested, tested}
use Rattle.oldest.specs.Oldest.{without}
use Rattle.confirmation.specs.Confirmation.{other_flag, confirms, confirmed}
use Rattle.confirmation.proofs.Kept.{some_sent, place_inside, fewer, confirmed_valid}
use Rattle.polls.specs.Poll.{after_confirming}
use Rattle.eventsequence.specs.Calls.{Ledger, enter_confirmed}
use Rattle.eventsequence.proofs.Places.{ids_long, found_there}
use Rattle.eventsequence.proofs.Follows.{FollowsIn, follows_on, follows_confirmed, follows_unconfirmed}

-- ---- the device at a place

module _ (t : Table) (q : Queues) (v : valid_queues t q ≡ true) (place flag : ℕ) where
  g : Tested t q
  g = tested t q v

  -- its own ledger follows
  own_follows : (id : ℕ) (request : EventRequest) {old : List Queued} {l : Ledger} → request.confirmed ≡ id → flag ≡ request.flag → confirms q place flag ≡ true
      → FollowsIn old place q l → FollowsIn old place (without place (last_of q place) (other_flag flag) 0 q) (enter_confirmed id request l)
  own_follows id request named asked c f =
      let right : flag_of q place ≡ flag = eqb-true (flag_of q place) flag (both_second (ltb 0 (last_of q place)) (eqb (flag_of q place) flag) c) in
      let inside = place_inside t q v place flag c in
      follows_on (follows_confirmed f id request named (right ∙ asked) (some_sent t q v place flag c))
      ((fewer t q v place flag c).left (other_flag flag) 0)
      (get_or-set_same q.lasts place 0 0 (omega (arith, g.lasts_long)))
      (get_or-set_same q.flags place (other_flag flag) 0 (omega (arith, g.flags_long)) ∙ ap other_flag (sym right))

  -- and so does every other
  other_follows : (device : ℕ) {old : List Queued} {l : Ledger} → (device ≡ place → ⊥) → confirms q place flag ≡ true
      → FollowsIn old device q l → FollowsIn old device (without place (last_of q place) (other_flag flag) 0 q) l
  other_follows device apart c f =
      follows_on f
      ((fewer t q v place flag c).others (other_flag flag) 0 device apart)
      (get_or-set_other q.lasts place device 0 0 apart)
      (get_or-set_other q.flags place device (other_flag flag) 0 apart)

-- ---- the device with the id that a poll names

module _ (request : EventRequest) (t : Table) (q : Queues) (v : valid_queues t q ≡ true) where
  abbrev place : ℕ
  place = device_of t request.confirmed

  pub confirming_valid : valid_queues t (after_confirming request t q) ≡ true
  confirming_valid = confirmed_valid t q request.confirmed request.flag v

  module _ (device : ℕ) (there : device < devices t) {old : List Queued} {l : Ledger} (f : FollowsIn old device q l) where
    abbrev id : ℕ
    id = get_or t.addresses device 0

    named_there : request.confirmed ≡ id → place ≡ device
    named_there named = found_there t q (tested t q v) device request.confirmed there (sym named)

    named_here : device ≡ place → request.confirmed ≡ id
    named_here same =
        sym (ap (λ (i : ℕ). get_or t.addresses i 0) same ∙ position_holds request.confirmed t.addresses (omega (arith, ids_long t q (tested t q v))))

    here : device ≡ place → confirms q place request.flag ≡ true
        → FollowsIn old device (without place (last_of q place) (other_flag request.flag) 0 q) (enter_confirmed id request l)
    here same c =
        subst (λ (d : ℕ). FollowsIn old d q l → FollowsIn old d (without place (last_of q place) (other_flag request.flag) 0 q) (enter_confirmed id request l)) (sym same)
        (own_follows t q v place request.flag id request (named_here same) refl c) f

    pub confirming_follows : FollowsIn old device (after_confirming request t q) (enter_confirmed id request l)
    unfolding confirmed
    confirming_follows =
        pick_cases (λ (x : Queues). FollowsIn old device x (enter_confirmed id request l)) (confirms q place request.flag) (without place (last_of q place) (other_flag request.flag) 0 q) q
        (λ c. ⊎_elim (λ same. here same c)
        (λ apart. other_follows t q v place request.flag device apart c
        (follows_unconfirmed f id request (λ named right some. apart (sym (named_there named)))))
        (same_or_not device place))
        (λ c. follows_unconfirmed f id request
        (λ named right some. true_not_false
        (subst (λ (d : ℕ). confirms q d request.flag ≡ true) (sym (named_there named)) (both (lt-ltb 0 (last_of q device) some) (eq-eqb (flag_of q device) request.flag right))) c))
