-- The request reader, rule F3.
-- Assumes nothing.
use Rattle.std.specs.Prelude.{ℕ, List, [], ◌∷◌, eqb, Result, Ok, Err}
use Rattle.refusal.specs.declared.Refusal.{Refusal}
use Rattle.lists.specs.Choice.{pick}
use Rattle.refusal.specs.Numbers.{Numbers, accepted_with, refused_with}
use Rattle.framing.specs.Framing.{FrameRead, framed, wrong, framed_at}
use Rattle.framing.specs.Layout.{start_scan}
use Rattle.requests.specs.Layout.{request_framing, subcommand_of}
use Rattle.requests.specs.declared.Request.{Request}
use Rattle.requests.specs.declared.Request.TheVariants.{Start, Continue}

-- what the reader finds, as numbers: the subcommand of what was asked
abbrev pub request_numbers : Result Request Refusal → Numbers
request_numbers (Ok request) = accepted_with (subcommand_of request ∷ [])
request_numbers (Err why) = refused_with why

-- what a frame of that subcommand asks
abbrev pub asked_for : ℕ → Request
asked_for subcommand = pick (eqb subcommand start_scan) Start Continue

abbrev pub asked_by : FrameRead → Result Request Refusal
asked_by (framed first subcommand carried) = Ok (asked_for subcommand)
asked_by (wrong why) = Err why

-- rule F3: nothing is passed over
unfoldable pub read_request : List ℕ → Result Request Refusal
read_request input = asked_by (framed_at request_framing input 0)
