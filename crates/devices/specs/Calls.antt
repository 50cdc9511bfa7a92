-- The calls: a request as it was read, and as three uses of it a start, a continue, and a raw frame offered to the devices.
-- Each is the one operation on a request (turns/specs/Request.antt) behind one guard. Rules D6, D7, N1.
-- Assumes nothing.
use Rattle.std.specs.Prelude.{◌≡◌, ℕ, List, [], ◌∷◌, ◌++◌, length, replicate, Option, Result, Ok, Err, Some, None}
use Rattle.lists.specs.Starting.{starting}
use Rattle.refusal.specs.Numbers.{Numbers, accepted_with, refused_with}
use Rattle.refusal.specs.declared.Refusal.{Refusal}
use Rattle.answers.specs.Layout.{found_frame, end_frame}
use Rattle.requests.specs.Reading.{read_request}
use Rattle.answers.specs.Reading.{fill}
use Rattle.requests.specs.declared.Request.{Request}
use Rattle.requests.specs.declared.Request.TheVariants.{Start, Continue}
use Rattle.table.specs.Table.{Table, valid}
use Rattle.turns.specs.Request.{Turn, respond}
use Rattle.guard.specs.Guard.{guard}
use Rattle.turns.specs.declared.Answer.{Answer}
use Rattle.turns.specs.declared.Answer.TheVariants.{Silence, Found, End}

-- an answer on the bus is an FF for each window that was dominant and the frame behind them; silence is nothing (rule D6)
unfoldable pub answer_bytes : Answer → List ℕ
answer_bytes Silence = []
answer_bytes (Found dominant serial address) = replicate dominant fill ++ found_frame serial address
answer_bytes (End dominant) = replicate dominant fill ++ end_frame

-- a response as numbers: how many bytes the answer has; silence has none
abbrev pub response_numbers : Result (Option ℕ) Refusal → Numbers
response_numbers (Ok (Some n)) = accepted_with (n ∷ [])
response_numbers (Ok None) = accepted_with []
response_numbers (Err why) = refused_with why

-- what a call gives: the response, the lent buffer afterwards, the table afterwards, and the turns that it made
pub record Answering : Type 0 where
  pub response : Result (Option ℕ) Refusal
  pub buffer : List ℕ
  pub table : Table
  pub turns : List Turn

-- what a call is promised to give: its result, which shows the response (as itself, or as a caller of another language
-- takes it), and what the lent buffer and the table hold afterwards
pub record Gives {A : Type 0} (shows : Result (Option ℕ) Refusal → A) (given : Answering) (r : A) (buffer : List ℕ) (t : Table) : Type 0 where
  pub result : r ≡ shows given.response
  pub buffer_is : buffer ≡ given.buffer
  pub table_is : t ≡ given.table

-- the longest answer has an FF for each of 32 windows and a frame of 10 bytes (rule D6)
abbrev pub answer_room : ℕ
answer_room = 42

-- a refusal leaves all that was lent as it was, and no request is made (rule N1)
abbrev pub refusing : Refusal → List ℕ → Table → Answering
refusing why buffer t = record { response = Err why; buffer = buffer; table = t; turns = [] }

-- silence, or the length of the answer
abbrev pub response_to : Answer → Option ℕ
response_to Silence = None
response_to (Found dominant serial address) = Some (length (answer_bytes (Found dominant serial address)))
response_to (End dominant) = Some (length (answer_bytes (End dominant)))

-- a request made: the answer overwrites the start of the buffer and nothing behind it (rule D6)
unfoldable pub answering : Request → List ℕ → Table → Answering
answering request buffer t =
    record {
      response = Ok (response_to (respond request t).answer);
      buffer = starting (answer_bytes (respond request t).answer) buffer;
      table = (respond request t).table;
      turns = respond request t ∷ [];
    }

-- what the reader took is the request that it found; what the reader refused is refused as the reader did (rule D7)
abbrev pub reading : Result Request Refusal → List ℕ → Table → Answering
reading (Ok request) buffer t = answering request buffer t
reading (Err why) buffer t = refusing why buffer t

-- first the guard, then what was read (rule N2)
abbrev pub behind : Result (Unit {0}) Refusal → Result Request Refusal → List ℕ → Table → Answering
behind (Ok tt) read buffer t = reading read buffer t
behind (Err why) read buffer t = refusing why buffer t

-- the call
unfoldable pub ask_call : Result Request Refusal → List ℕ → Table → Answering
ask_call read buffer t = behind (guard answer_room (length buffer) (valid t)) read buffer t

-- its three uses
abbrev pub start_call : List ℕ → Table → Answering
start_call buffer t = ask_call (Ok Start) buffer t

abbrev pub continue_call : List ℕ → Table → Answering
continue_call buffer t = ask_call (Ok Continue) buffer t

abbrev pub offer_call : List ℕ → List ℕ → Table → Answering
offer_call frame buffer t = ask_call (read_request frame) buffer t
