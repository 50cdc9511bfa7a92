-- The words of the rule book are the tests of the judge: a right check byte, and whether a telegram is acknowledged.
-- Assumes nothing.
use mathlib.Core.Path.{◌≡◌, refl, sym, ap, ap₂, ◌∙◌, subst}
use mathlib.Core.Bool.{Bool, true, false}
use mathlib.Core.List.{List, [], ◌∷◌, ◌++◌}
use Prim.Native.Nat.{ℕ, ◌+◌, ◌-◌}
use native.Mathlib.Omega.{arith}
use lib.Dec.{eqb}
use lib.ListN.{length, get_or, take, length-append}
use lib.Seq.{take_at, get_or_at}
use borrow.Author.Tests.{eq-eqb, ne_eqb, eqb-true, eqb-false}
use Rattle.lists.specs.Choice.{pick}
use Rattle.lists.proofs.Cases.{true_not_false}
use Rattle.addresses.specs.declared.ExchangeKind.TheVariants.{Broadcast, InitiatorInitiator, InitiatorTarget}
use Rattle.addresses.specs.Address.{initiator, everyone, kind_of}
use Rattle.checkbyte.specs.Check.{ebus_check}
use Rattle.telegram.specs.Telegram.{destination_of, check_right}
use Rattle.attempts.specs.Attempt.{to_all, unanswered}
use Rattle.rulebook.specs.Rules.{Right, ToAll, ToOne}
use Rattle.rulebook.proofs.WholeForms.{last_apart}

-- ---- a right check byte

pub right_check : (telegram : List ℕ) → Right telegram → check_right telegram ≡ true
unfolding check_right
right_check telegram (body, is) = subst (λ (l : List ℕ). check_right l ≡ true) (sym is) right
  where
    right : check_right (body ++ ebus_check body ∷ []) ≡ true
    right =
        let check = ebus_check body in
        let whole = body ++ check ∷ [] in
        let long : length whole ≡ length body + 1 = length-append body (check ∷ []) in
        let last : length body ≡ length whole - 1 = omega arith in
        ap (λ b. pick b false (eqb (ebus_check (take (length whole - 1) whole)) (get_or whole (length whole - 1) 0))) (ne_eqb (length whole) 0 (λ z. omega arith))
        ∙ ap₂ (λ (l : List ℕ) (x : ℕ). eqb (ebus_check l) x) (take_at body (check ∷ []) (length whole - 1) last) (get_or_at body check [] 0 (length whole - 1) last)
        ∙ eq-eqb check check refl

pub check_right_lem : (telegram : List ℕ) → check_right telegram ≡ true → Right telegram
unfolding check_right
check_right_lem telegram right = by (eqb (length telegram) 0) refl right
  where
    n : ℕ
    n = length telegram - 1

    by : (none : Bool) → eqb (length telegram) 0 ≡ none → pick none false (eqb (ebus_check (take n telegram)) (get_or telegram n 0)) ≡ true → Right telegram
    by true none e = true_not_false e refl
    by false some e =
        let more : length telegram ≡ 0 → ⊥ = eqb-false (length telegram) 0 some in
        let size : length telegram ≡ n + 1 = omega arith in
        (take n telegram, last_apart telegram n size ∙ ap (λ (x : ℕ). take n telegram ++ x ∷ []) (sym (eqb-true _ _ e)))

-- ---- whether it is acknowledged

-- of a kind by its destination: only FE is to all
kind_to_all : (destination : ℕ) → to_all (kind_of destination) ≡ eqb destination everyone
unfolding kind_of
kind_to_all destination = by (eqb destination everyone) (initiator destination)
  where
    by : (b c : Bool) → to_all (pick b Broadcast (pick c InitiatorInitiator InitiatorTarget)) ≡ b
    by true c = refl
    by false true = refl
    by false false = refl

pub to_all_lem : (command : Bool) (telegram : List ℕ) → unanswered command telegram ≡ true → ToAll command telegram
unfolding unanswered
to_all_lem true telegram e = eqb-true _ _ (sym (kind_to_all (destination_of telegram)) ∙ e)
to_all_lem false telegram e = true_not_false e refl

pub to_one : (command : Bool) (telegram : List ℕ) → unanswered command telegram ≡ false → ToOne command telegram
unfolding unanswered
to_one true telegram e = eqb-false _ _ (sym (kind_to_all (destination_of telegram)) ∙ e)
to_one false telegram e = tt

pub all_unanswered : (command : Bool) (telegram : List ℕ) → ToAll command telegram → unanswered command telegram ≡ true
unfolding unanswered
all_unanswered true telegram is = kind_to_all (destination_of telegram) ∙ eq-eqb _ _ is
all_unanswered false telegram is = absurd is

pub one_answered : (command : Bool) (telegram : List ℕ) → ToOne command telegram → unanswered command telegram ≡ false
unfolding unanswered
one_answered true telegram other = kind_to_all (destination_of telegram) ∙ ne_eqb _ _ other
one_answered false telegram other = refl
