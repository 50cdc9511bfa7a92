-- What is written for a command and for a reply, rules E9 and E10, and what is refused.
-- Assumes nothing.
use Rattle.std.specs.Prelude.{ℕ, List, [], ◌∷◌, ◌++◌, leb, length}
use Rattle.lists.specs.Choice.{pick}
use Rattle.refusal.specs.Number.{source_wrong, destination_wrong, length_over, at_place}
use Rattle.refusal.specs.Output.{Output, bytes, refused}
use Rattle.escapes.specs.Escape.{expanded}
use Rattle.addresses.specs.Address.{initiator, reserved}
use Rattle.checkbyte.specs.Check.{ebus_check}
use Rattle.telegram.specs.Telegram.{longest}

-- a body with its check byte behind it
unfoldable pub closed : List ℕ → List ℕ
closed body = body ++ ebus_check body ∷ []

-- rule N3: a command gives 6, 7, 8; its room is looked at last (`fitting`)
unfoldable pub command_output : ℕ → ℕ → ℕ → ℕ → List ℕ → Output
command_output source destination primary secondary payload =
    pick (initiator source)
    (pick (reserved destination) (refused (at_place destination_wrong 0))
    (pick (leb (length payload) longest)
    (bytes (expanded (closed (source ∷ destination ∷ primary ∷ secondary ∷ length payload ∷ payload))))
    (refused (at_place length_over 0))))
    (refused (at_place source_wrong 0))

-- rule N3: a reply gives 8; its room is looked at last
unfoldable pub reply_output : List ℕ → Output
reply_output payload =
    pick (leb (length payload) longest) (bytes (expanded (closed (length payload ∷ payload)))) (refused (at_place length_over 0))
