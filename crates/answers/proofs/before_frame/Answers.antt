-- `answers::before_frame` meets its contract. Assumes nothing.
use Rattle.std.proofs.Common.{◌≡◌, ℕ, List, ◌-◌, length, take, drop, refl, sym, subst, arith}
use Rattle.lists.proofs.All.{whole_rest}
use Rattle.answers.specs.Reading.{leading_fill}
use Rattle.answers.proofs.LeadingFill.{walk_few, walk_many}
use Rattle.answers.proofs.before_frame.Goals as goal

-- from the first place on stands the whole list
from_first : (xs : List ℕ) (n : ℕ) → n ≡ 0 → take (length xs - n) (drop n xs) ≡ xs
from_first xs n none = subst (λ (k : ℕ). take (length xs - k) (drop k xs) ≡ xs) (sym none) (whole_rest xs 0)

pub returns-then-fill-gt-MOST_FILL : goal.returns-then-fill-gt-MOST_FILL
returns-then-fill-gt-MOST_FILL c =
    let input = c.args.input.now in
    let many = walk_many input c.min.result (leading_fill (take c.min.result input)) c.min.ensures refl in
    grind (arith, from_first, many)

pub returns : goal.returns
returns c =
    let input = c.args.input.now in
    let few = walk_few input c.min.result (leading_fill (take c.min.result input)) c.min.ensures refl in
    grind (arith, from_first, few)
