-- A recording that is fed at once: what any cuts give, of one run.
-- Assumes nothing.
use mathlib.Core.Path.{◌≡◌, refl, sym, ap, ◌∙◌, subst}
use mathlib.Core.Bool.{true, false}
use mathlib.Core.List.{List, [], ◌∷◌, ◌++◌, append-nil}
use mathlib.Core.Logic.{⊎_elim}
use Prim.Native.Nat.{ℕ, zero, suc, ◌<◌}
use native.Mathlib.Omega.{arith}
use lib.ListN.{length, take}
use lib.Seq.{take-nil}
use Rattle.lists.proofs.Cases.{true_or_false}
use Rattle.exchange.specs.Exchange.{limit, exchange, rooms, judged}
use Rattle.listening.specs.declared.Fed.{Fed}
use Rattle.listening.specs.Listening.{fresh, has_answered, after, fed, closing}
use Rattle.cuts.specs.Cuts.{joined, fed_all, Open, DecidedBy}
use Rattle.cuts.proofs.Cutting.{fed_joined, fed_append, none_fed, answered_stays}
use Rattle.cuts.proofs.AnyCuts.{any_cuts}

whole : (r : List ℕ) → joined (r ∷ []) ≡ r
unfolding joined
whole r = append-nil r

fed_one : (r : List ℕ) → fed_all fresh (r ∷ []) ≡ fed fresh r
fed_one r = fed_joined (r ∷ []) fresh ∙ ap (fed fresh) (whole r)

pub decided : (r : List ℕ) → DecidedBy r (fed fresh r).used
decided r =
    subst (λ (x : List ℕ). DecidedBy x (fed fresh r).used) (whole r)
    (subst (λ (f : Fed). DecidedBy (joined (r ∷ [])) f.used) (fed_one r) (any_cuts (r ∷ [])).used)

pub is_open : (r : List ℕ) → has_answered (fed fresh r).state ≡ false → Open (exchange (take limit r))
is_open r h =
    subst (λ (x : List ℕ). Open (exchange (take limit x))) (whole r)
    ((any_cuts (r ∷ [])).not_known (ap (λ (f : Fed). has_answered f.state) (fed_one r) ∙ h))

pub is_known : (r : List ℕ) → has_answered (fed fresh r).state ≡ true → Open (exchange (take limit r)) → ⊥
is_known r h o =
    (any_cuts (r ∷ [])).known (ap (λ (f : Fed). has_answered f.state) (fed_one r) ∙ h)
    (subst (λ (x : List ℕ). Open (exchange (take limit x))) (sym (whole r)) o)

-- with room enough
answer_of : (r : List ℕ) → closing (fed fresh r).state 22 18 18 ≡ exchange (take limit r)
unfolding judged rooms
answer_of r =
    ap (λ (f : Fed). closing f.state 22 18 18) (sym (fed_one r))
    ∙ (any_cuts (r ∷ [])).answered 22 18 18
    ∙ ap (λ (x : List ℕ). exchange (take limit x)) (whole r)

fresh_open : has_answered fresh ≡ false
unfolding has_answered
fresh_open = refl

-- nothing is known of no bytes
nothing_open : Open (exchange [])
nothing_open = subst (λ (x : List ℕ). Open (exchange x)) (take-nil limit) (is_open [] (ap (λ (f : Fed). has_answered f.state) (none_fed fresh) ∙ fresh_open))

-- what is known of a part is known of all of it
pub known_longer : (r more : List ℕ) → (Open (exchange (take limit r)) → ⊥) → exchange (take limit (r ++ more)) ≡ exchange (take limit r)
known_longer r more known =
    ⊎_elim
    (λ (h : has_answered (fed fresh r).state ≡ true).
    sym (answer_of (r ++ more))
    ∙ ap (λ (f : Fed). closing f.state 22 18 18) (fed_append fresh r more ∙ ap (after (fed fresh r).used) (answered_stays (fed fresh r).state more h))
    ∙ answer_of r)
    (λ (h : has_answered (fed fresh r).state ≡ false). absurd (known (is_open r h)))
    (true_or_false (has_answered (fed fresh r).state))

-- a byte is used where there is one
pub some_used : (r : List ℕ) → 0 < length (take limit r) → 0 < (fed fresh r).used
some_used r some = by (fed fresh r).used (decided r)
  where
    by : (n : ℕ) → DecidedBy r n → 0 < n
    by zero d = absurd (d.then some nothing_open)
    by (suc n) d = omega arith
