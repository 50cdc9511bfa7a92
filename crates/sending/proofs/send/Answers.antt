-- `sending::send` meets its contract: the check byte is stored behind the bytes that it is of, and all is expanded.
-- Assumes nothing.
use mathlib.Core.Path.{◌≡◌, sym, ap, ◌∙◌}
use mathlib.Core.List.{List, [], ◌∷◌, ◌++◌}
use Prim.Native.Nat.{ℕ, ◌+◌}
use native.Mathlib.Omega.{arith}
use lib.ListN.{length, take, set, length-set, length-take}
use lib.Seq.{length-take-le}
use borrow.Author.Rules.{rules}
use Rattle.lists.proofs.Filling.{stored_next}
use Rattle.refusal.specs.Output.{bytes}
use Rattle.refusal.proofs.Writer.{wrote_same}
use Rattle.escapes.specs.Escape.{expanded}
use Rattle.sending.specs.Sending.{closed}
use Rattle.sending.proofs.send.Goals as goal

pub slice_bounds-ebus_check-end : goal.slice_bounds-ebus_check-end
slice_bounds-ebus_check-end c =
    let size : length c.args.body ≡ 22 = search rules in
    sym (length-take-le c.args.n c.args.body (omega arith))

pub slice_bounds-telegram-end : goal.slice_bounds-telegram-end
slice_bounds-telegram-end c =
    let size : length c.args.body ≡ 22 = search rules in
    simp length-set (omega arith)

pub slice_bounds-expand-end : goal.slice_bounds-expand-end
slice_bounds-expand-end c =
    let size : length c.args.body ≡ 22 = search rules in
    simp (length-take, length-set) (omega arith)

pub returns : goal.returns
unfolding closed
returns c =
    let body = c.args.body in
    let n = c.args.n in
    let size : length body ≡ 22 = search rules in
    let check = c.ebus_check.result in
    let whole : take (n + 1) (set body n check) ≡ closed (take n body) =
    stored_next body n check (omega arith) ∙ ap (λ (b : ℕ). take n body ++ b ∷ []) c.ebus_check.ensures in
    wrote_same (bytes (expanded (take (n + 1) (set body n check)))) (bytes (expanded (closed (take n body)))) (length c.args.out.now) c.args.out.now c.expand.new.out c.expand.result
    (ap (λ (l : List ℕ). bytes (expanded l)) whole) c.expand.ensures
