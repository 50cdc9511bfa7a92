-- `queues::device_of` meets its contract. Assumes nothing.
use Rattle.std.proofs.Common.{◌≡◌, ℕ, List, ◌-◌, length, take, drop, sym, subst, rules, arith}
use lib.Dec.{eqb}
use Rattle.std.proofs.lemmas.Iterator.{YieldsList-from_slice}
use Rattle.std.proofs.lemmas.Iterator.Search.{position_from_yields_List}
use Rattle.std.specs.List.{position}
use Rattle.lists.proofs.All.{whole_rest}
use Rattle.lists.proofs.Position.{first_place_is}
use Rattle.queues.proofs.device_of.Goals as goal

-- from the first place on stands the whole list
from_first : (xs : List ℕ) (n : ℕ) → n ≡ 0 → take (length xs - n) (drop n xs) ≡ xs
from_first xs n none = subst (λ (k : ℕ). take (length xs - k) (drop k xs) ≡ xs) (sym none) (whole_rest xs 0)

pub returns : goal.returns
returns c =
    let ids = c.args.addresses.now in
    let found : c.position.result ≡ position (λ y. eqb y c.args.id) ids = position_from_yields_List (λ y. eqb y c.args.id) _ _ _ c.position.ensures.ran (YieldsList-from_slice ids (grind (arith, from_first, c.iter.ensures.rest))) (λ x b q k. search rules) in
    let place = first_place_is c.args.id ids in
    grind (arith, found, place)
