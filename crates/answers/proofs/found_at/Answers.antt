-- `answers::found_at` meets its contract. Assumes nothing.
use mathlib.Core.Path.{◌≡◌, ap, ◌∙◌}
use Prim.Native.Nat.{ℕ, ◌+◌}
use native.Mathlib.Nat.{add_assoc}
use native.Mathlib.Omega.{arith}
use lib.ListN.{get_or, drop}
use lib.Seq.{get_or-drop}
use borrow.Author.Tests.{lt-ltb, le-ltb}
use Rattle.framing.specs.Layout.{serial_limit}
use Rattle.answers.proofs.found_at.Goals as goal

pub returns-then-serial-lt-SERIAL_LIMIT : goal.returns-then-serial-lt-SERIAL_LIMIT
returns-then-serial-lt-SERIAL_LIMIT c =
    let input = c.args.input.now in
    let at = c.args.at in
    let address : get_or (drop (at + 3) input) 4 0 ≡ get_or input (at + 7) 0 = get_or-drop (at + 3) input 4 0 ∙ ap (λ (n : ℕ). get_or input n 0) (add_assoc at 3 4) in
    simp (← c.serial_at-serial.ensures, address, lt-ltb c.serial_at-serial.result serial_limit (omega arith))

pub returns : goal.returns
returns c = simp (← c.serial_at-serial.ensures, le-ltb c.serial_at-serial.result serial_limit (omega arith)) c.refused.ensures
