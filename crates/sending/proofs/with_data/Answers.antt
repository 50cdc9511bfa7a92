-- `sending::with_data` meets its contract: the data is put into the part behind the head, which has room for it.
-- Assumes nothing.
use mathlib.Core.Path.{◌≡◌, ap, ◌∙◌}
use mathlib.Core.List.{List, ◌++◌, append_assoc}
use Prim.Native.Nat.{ℕ, ◌+◌, ◌-◌}
use native.Mathlib.Omega.{arith}
use lib.ListN.{length, take, drop, length-drop}
use lib.Seq.{length-take-le}
use borrow.Author.Rules.{rules}
use borrow.Rule.Slice.PartMut.{mid_of, post_of, put_mid}
use Rattle.lists.proofs.Filling.{put_whole, put_behind}
use Rattle.sending.proofs.with_data.Goals as goal

pub returns : goal.returns
returns c =
    let head = c.args.head in
    let n = c.args.n in
    let payload = c.args.payload.now in
    let part = mid_of n (22 - n) head in
    let size : length head ≡ 22 = search rules in
    let room : length part ≡ 22 - n = length-take-le (22 - n) (drop n head) (omega (arith, length-drop n head)) in
    let filled = c.put.ensures ∙ put_whole payload part (omega arith) in
    ap (λ (l : List ℕ). take (n + length payload) (put_mid n (22 - n) head l)) filled
    ∙ ap (λ (l : List ℕ). take (n + length payload) (take n head ++ l)) (append_assoc payload (drop (length payload) part) (post_of n (22 - n) head))
    ∙ put_behind head n payload (drop (length payload) part ++ post_of n (22 - n) head) (omega arith)
