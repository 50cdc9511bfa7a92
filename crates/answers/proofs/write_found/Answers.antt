-- `answers::write_found` meets its contract. Assumes nothing.
use mathlib.Core.Path.{◌≡◌, refl, ap, ◌∙◌}
use mathlib.Core.List.{[], ◌∷◌}
use Prim.Native.Nat.{ℕ, ◌/◌, ◌%◌}
use native.Mathlib.Omega.{arith}
use borrow.Author.Tests.{lt-ltb, le-ltb}
use Rattle.framing.specs.Framing.{frame}
use Rattle.framing.specs.Layout.{serial_limit}
use Rattle.answers.specs.Layout.{serial_bytes, found_bytes, found_frame}
use Rattle.answers.specs.Writing.{write_found}
use Rattle.answers.proofs.write_found.Goals as goal

pub returns-then-serial-ge-SERIAL_LIMIT : goal.returns-then-serial-ge-SERIAL_LIMIT
unfolding write_found
returns-then-serial-ge-SERIAL_LIMIT c =
    let args = c.args in
    simp (le-ltb args.serial serial_limit (omega arith)) (record { result = c.refused.ensures; output = refl })

pub returns : goal.returns
unfolding frame serial_bytes found_bytes found_frame write_found
returns c =
    let args = c.args in
    let serial_is : c.to_be_bytes.result ≡ serial_bytes args.serial = c.to_be_bytes.ensures ∙ ap (λ (a : ℕ). a ∷ args.serial / 0x10000 % 256 ∷ args.serial / 0x100 % 256 ∷ args.serial % 256 ∷ []) (omega arith) in
    simp (lt-ltb args.serial serial_limit (omega arith)) (simp serial_is at c.write_closed.ensures)
