-- `arbitration::first_with` meets its contract. Assumes nothing.
use Rattle.std.proofs.Common.{◌≡◌, rules, arith}
use Rattle.std.proofs.lemmas.Iterator.{YieldsList-from_slice}
use Rattle.std.proofs.lemmas.Iterator.Search.{position_from_yields_List}
use Rattle.std.specs.List.{position}
use Rattle.arbitration.specs.Prefix.{starts}
use Rattle.arbitration.proofs.OneKey.{first_is}
use Rattle.arbitration.proofs.first_with.Goals as goal

pub returns : goal.returns
returns c =
    let keys = c.args.keys.now in
    let test = starts c.args.windows c.args.prefix in
    let found : c.position.result ≡ position test keys = position_from_yields_List test _ _ _ c.position.ensures.ran (YieldsList-from_slice keys c.iter.ensures.rest) (λ x b q k. search rules) in
    let first = first_is test keys in
    grind (arith, found, first)
