-- What only the call for C has: a request by its number. All else that the calls promise is the promise of the call below,
-- shown as numbers.
-- Assumes nothing.
use Rattle.std.specs.Prelude.{ℕ, eqb}
use Rattle.lists.specs.Choice.{pick}
use Rattle.refusal.specs.Number.{subcommand_wrong, at_place}
use Rattle.refusal.specs.Output.{Output, refused}
use Rattle.framing.specs.Layout.{start_scan, continue_scan}
use Rattle.requests.specs.Writing.{write_request}
use Rattle.requests.specs.declared.Request.TheVariants.{Start, Continue}

-- a request by its number, which is its subcommand (rule F3). A number that is neither start nor continue is outside the
-- rules and gets the number of a wrong subcommand, at place 0 as in all writing
unfoldable pub request_output : ℕ → ℕ → Output
request_output request room =
    pick (eqb request start_scan) (write_request Start room)
    (pick (eqb request continue_scan) (write_request Continue room) (refused (at_place subcommand_wrong 0)))
