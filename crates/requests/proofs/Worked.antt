-- The W row of requests in docs/RULES.md, of the definitions.
-- Assumes nothing.
use Rattle.std.specs.Prelude.{Ok}
use mathlib.Core.Path.{◌≡◌, refl}
use mathlib.Core.List.{List, [], ◌∷◌}
use Prim.Native.Nat.{ℕ}
use Rattle.lists.specs.Tests.{same}
use Rattle.crc.specs.Register.{step, steps}
use Rattle.crc.specs.Check.{modbus_bytes, modbus_check}
use Rattle.framing.specs.Framing.{frame, passed, judged, framed_at}
use Rattle.framing.specs.Layout.{check_bytes}
use Rattle.requests.specs.Layout.{request_frame}
use Rattle.requests.specs.Reading.{read_request}
use Rattle.requests.specs.declared.Request.TheVariants.{Start, Continue}

-- W9: the two requests
abbrev w9_start : List ℕ
w9_start = 0xFD ∷ 0x46 ∷ 0x01 ∷ 0x13 ∷ 0x90 ∷ []

abbrev w9_continue : List ℕ
w9_continue = 0xFD ∷ 0x46 ∷ 0x02 ∷ 0x53 ∷ 0x91 ∷ []

pub w9 : (request_frame Start ≡ w9_start) × (request_frame Continue ≡ w9_continue) × (read_request w9_start ≡ Ok Start) × (read_request w9_continue ≡ Ok Continue)
unfolding step steps modbus_bytes modbus_check check_bytes frame request_frame passed same judged framed_at read_request
w9 = (refl, refl, refl, refl)
