-- Demand 2, as one claim: of eBUS, of the frames of Fast Modbus, scans and events, and of the packets of Railbus, what is
-- read is exactly what may be written, or on Railbus that with a checksum that is not examined, and what was written is read
-- back. Each line says in our words what it states. The proof is in proofs/Demand2.antt; nothing here needs it to be read.
-- Assumes nothing.
use Rattle.std.specs.Prelude.{◌≡◌, true, false, List, [], ◌∷◌, ◌++◌, ℕ, ◌+◌, ◌≤◌, ◌<◌, eqb, length, get_or, drop, replicate, Result, Ok, Err}
use mathlib.Mathlib.Logic.Function.Defs.{id}
use Rattle.lists.specs.Choice.{pick}
use Rattle.lists.specs.Starting.{starting}
use Rattle.refusal.specs.Number.{frame_length, fill_over, at_place}
use Rattle.refusal.specs.Output.{Output, bytes, fitting, Wrote}
use Rattle.refusal.specs.declared.Refusal.{Refusal}
use Rattle.escapes.specs.Escape.{syn, expanded}
use Rattle.escapes.specs.Undo.{undone}
use Rattle.addresses.specs.Address.{initiator, reserved, kind_of}
use Rattle.addresses.specs.declared.ExchangeKind.{ExchangeKind}
use Rattle.addresses.specs.declared.ExchangeKind.TheVariants.{Broadcast, InitiatorInitiator, InitiatorTarget}
use Rattle.telegram.specs.Telegram.{longest, command_room, reply_room}
use Rattle.sending.specs.Sending.{command_output, reply_output}
use Rattle.attempts.specs.Attempt.{ack}
use Rattle.exchange.specs.Exchange.{accepted, exchange_at, exchange, limit, judged}
use Rattle.replies.specs.Data.{reply_data}
use Rattle.exchange.specs.View.{accepted_as, Judges}
use Rattle.exchange.specs.declared.judge.Accepted.{Accepted}
use Rattle.framing.specs.Layout.{serial_limit}
use Rattle.requests.specs.Layout.{request_frame}
use Rattle.answers.specs.Layout.{found_frame, end_frame}
use Rattle.requests.specs.Reading.{read_request}
use Rattle.answers.specs.Reading.{fill, read_answer}
use Rattle.requests.specs.Writing.{write_request}
use Rattle.answers.specs.Writing.{write_found, write_end}
use Rattle.requests.specs.declared.Request.{Request}
use Rattle.answers.specs.declared.AnswerRead.TheVariants.{Found, End}
use Rattle.eventrequests.specs.Layout.{event_request_frame}
use Rattle.eventrequests.specs.Writing.{write_event_request}
use Rattle.eventrequests.specs.RoundTrip.{EventRequests}
use Rattle.eventrequests.specs.declared.EventRequest.{EventRequest}
use Rattle.packets.specs.Layout.{no_events_frame}
use Rattle.packets.specs.Writing.{write_no_events}
use Rattle.packets.specs.RoundTrip.{EventPackets}
use Rattle.railbus.specs.Layout.{packet_text}
use Rattle.railbus.specs.Writing.{write_packet}
use Rattle.railbus.specs.RoundTrip.{RailbusPackets}
use Rattle.railbus.specs.declared.Packet.{Packet}
use Rattle.rulebook.specs.Rules.{CommandForm, ReplyForm, Right, OnWire, Idle}
use Rattle.rulebook.specs.ReadBack.{command_bytes, reply_bytes, Before, raw_before, attempts_of, first_tried, second_tried}

-- ---- eBUS

-- at a position of a run stands an exchange of the rule book that ends at next, whatever follows it
pub record Stands (run : List ℕ) (at : ℕ) (kind : ExchangeKind) (commands replies next : ℕ) (command first second : List ℕ) : Type 0 where
  pub raw : List ℕ
  pub rest : List ℕ
  pub by_rules : OnWire kind commands replies command first second raw
  pub there : drop at run ≡ raw ++ rest
  pub ends : next ≡ at + length raw

-- a run begins with idle time, if any, and then an exchange of the rule book that ends at next, whatever follows it
pub record Recorded (run : List ℕ) (kind : ExchangeKind) (commands replies next : ℕ) (command first second : List ℕ) : Type 0 where
  pub before : List ℕ
  pub raw : List ℕ
  pub rest : List ℕ
  pub idle : Idle before
  pub by_rules : OnWire kind commands replies command first second raw
  pub whole : run ≡ before ++ (raw ++ rest)
  pub ends : next ≡ length before + length raw

-- three buffers start with the command and the attempts at the reply, and keep what they held behind them
pub record Filled (command first second : List ℕ) (c f s c' f' s' : List ℕ) : Type 0 where
  pub command_buffer : c' ≡ starting command c
  pub first_buffer : f' ≡ starting first f
  pub second_buffer : s' ≡ starting second s

-- the data that is shown for as many reply attempts as there were, rule E17: without a reply, nothing; else the data of the
-- reply that was acknowledged, which is the last
pub record Shown (replies : ℕ) (first second f' s' : List ℕ) : Type 0 where
  pub without : replies ≡ 0 → reply_data f' s' replies ≡ []
  pub acknowledged : 0 < replies → (reply : ReplyForm (pick (eqb replies 2) second first)) × (reply_data f' s' replies ≡ reply.payload)

-- what the judge answered, r, for a run and buffers that held c, f, s and now hold c', f', s'
pub record Judging (run : List ℕ) (c f s : List ℕ) (r : Result Accepted Refusal) (c' f' s' : List ℕ) : Type 0 where
  -- with buffers that are long enough, what the rule book has behind the run's idle time is accepted, if it ends within the bytes that
  -- are read: with its kind, attempts and bytes read, the buffers filled with its telegrams, and its data shown
  pub takes : command_room ≤ length c → reply_room ≤ length f → reply_room ≤ length s
      → (kind : ExchangeKind) (commands replies next : ℕ) (command first second : List ℕ) → Recorded run kind commands replies next command first second → next ≤ limit
      → (r ≡ Ok (accepted_as kind commands replies next)) × Filled command first second c f s c' f' s' × Shown replies first second f' s'
  -- nothing else is accepted
  pub only : (kind : ExchangeKind) (commands replies next : ℕ) → r ≡ Ok (accepted_as kind commands replies next)
      → (command : List ℕ) × (first : List ℕ) × (second : List ℕ) × Recorded run kind commands replies next command first second × (next ≤ limit)
  -- a refusal leaves the buffers as they were, rule N1
  pub leaves : (why : Refusal) → r ≡ Err why → Filled [] [] [] c f s c' f' s'

-- what a writer answered, r, to which this is due, for an output that held old and now holds new
pub record Writing (due : Output) (r : Result ℕ Refusal) (old new : List ℕ) : Type 0 where
  -- where it fits it is written, its length answered, and the bytes behind it stay
  pub writes : (raw : List ℕ) → due ≡ bytes raw → length raw ≤ length old → (r ≡ Ok (length raw)) × (new ≡ starting raw old)
  -- nothing else is written
  pub only : (n : ℕ) → r ≡ Ok n → (raw : List ℕ) × (due ≡ bytes raw) × (n ≡ length raw) × (length raw ≤ length old)
  -- a refusal leaves the output as it was, rule N1
  pub leaves : (why : Refusal) → r ≡ Err why → new ≡ old

pub record BusDemand : Type 0 where
  -- escapes are undone, and no other raw bytes are than those that expanding gives
  pub escapes_back : (logical : List ℕ) → undone (expanded logical) ≡ bytes logical
  pub escapes_exact : (raw logical : List ℕ) → undone raw ≡ bytes logical → expanded logical ≡ raw
  -- from any position: accepted exactly where something of the rule book stands, with the same kind, attempts, end and telegrams
  pub accepted_stands : (run : List ℕ) (at : ℕ) (kind : ExchangeKind) (commands replies next : ℕ) (command first second : List ℕ)
      → exchange_at run at ≡ accepted kind commands replies next command first second → Stands run at kind commands replies next command first second
  pub stands_accepted : (run : List ℕ) (at : ℕ) (kind : ExchangeKind) (commands replies next : ℕ) (command first second : List ℕ)
      → Stands run at kind commands replies next command first second → exchange_at run at ≡ accepted kind commands replies next command first second
  -- so of a whole recording, from where its command starts
  pub accepted_recorded : (run : List ℕ) (kind : ExchangeKind) (commands replies next : ℕ) (command first second : List ℕ)
      → exchange run ≡ accepted kind commands replies next command first second → Recorded run kind commands replies next command first second
  pub recorded_accepted : (run : List ℕ) (kind : ExchangeKind) (commands replies next : ℕ) (command first second : List ℕ)
      → Recorded run kind commands replies next command first second → exchange run ≡ accepted kind commands replies next command first second
  -- and so the judge
  pub judging : (run c f s : List ℕ) (r : Result Accepted Refusal) (c' f' s' : List ℕ)
      → Judges id (judged run (length c) (length f) (length s)) r c c' f f' s s' → Judging run c f s r c' f' s'
  -- every writer of eBUS (of escapes, undone escapes, commands and replies), by its promise
  pub writing : (due : Output) (r : Result ℕ Refusal) (old new : List ℕ) → Wrote id (fitting (length old) due) r old new → Writing due r old new
  -- the writers write every command and every reply that rules E9 and E10 allow
  pub command_writes : (source destination primary secondary : ℕ) (payload : List ℕ) → initiator source ≡ true → reserved destination ≡ false → length payload ≤ longest
      → command_output source destination primary secondary payload ≡ bytes (expanded (command_bytes source destination primary secondary payload))
  pub reply_writes : (payload : List ℕ) → length payload ≤ longest → reply_output payload ≡ bytes (expanded (reply_bytes payload))
  -- and what they give is nothing else: a right command, and a right reply, expanded
  pub command_written : (source destination primary secondary : ℕ) (payload raw : List ℕ) → command_output source destination primary secondary payload ≡ bytes raw
      → (raw ≡ expanded (command_bytes source destination primary secondary payload))
      × CommandForm (command_bytes source destination primary secondary payload) × Right (command_bytes source destination primary secondary payload)
  pub reply_written : (payload raw : List ℕ) → reply_output payload ≡ bytes raw
      → (raw ≡ expanded (reply_bytes payload)) × ReplyForm (reply_bytes payload) × Right (reply_bytes payload)
  -- written, with acknowledge bytes and SYN added, it is read back behind any idle time: for each kind, with and without a NACKed
  -- first attempt at the command and at the reply
  pub broadcast_back : (source destination primary secondary : ℕ) (payload raw : List ℕ) → command_output source destination primary secondary payload ≡ bytes raw
      → kind_of destination ≡ Broadcast → (before : Before true) (idle rest : List ℕ) → Idle idle
      → exchange (idle ++ ((raw_before before raw ++ syn ∷ []) ++ rest))
      ≡ accepted Broadcast (attempts_of before) 0 (length idle + length (raw_before before raw ++ syn ∷ []))
      (command_bytes source destination primary secondary payload) [] []
  pub initiators_back : (source destination primary secondary : ℕ) (payload raw : List ℕ) → command_output source destination primary secondary payload ≡ bytes raw
      → kind_of destination ≡ InitiatorInitiator → (before : Before true) (idle rest : List ℕ) → Idle idle
      → exchange (idle ++ ((raw_before before (raw ++ ack ∷ []) ++ syn ∷ []) ++ rest))
      ≡ accepted InitiatorInitiator (attempts_of before) 0 (length idle + length (raw_before before (raw ++ ack ∷ []) ++ syn ∷ []))
      (command_bytes source destination primary secondary payload) [] []
  pub target_back : (source destination primary secondary : ℕ) (payload raw : List ℕ) → command_output source destination primary secondary payload ≡ bytes raw
      → kind_of destination ≡ InitiatorTarget → (answer replying : List ℕ) → reply_output answer ≡ bytes replying
      → (before : Before true) (first : Before false) (idle rest : List ℕ) → Idle idle
      → exchange (idle ++ ((raw_before before (raw ++ ack ∷ []) ++ (raw_before first (replying ++ ack ∷ []) ++ syn ∷ [])) ++ rest))
      ≡ accepted InitiatorTarget (attempts_of before) (attempts_of first)
      (length idle + length (raw_before before (raw ++ ack ∷ []) ++ (raw_before first (replying ++ ack ∷ []) ++ syn ∷ [])))
      (command_bytes source destination primary secondary payload) (first_tried first (reply_bytes answer)) (second_tried first (reply_bytes answer))
  -- and the data shown is what was handed to the writer of the reply
  pub data_back : (answer replying : List ℕ) → reply_output answer ≡ bytes replying → (first : Before false) (f s : List ℕ)
      → reply_data (starting (first_tried first (reply_bytes answer)) f) (starting (second_tried first (reply_bytes answer)) s) (attempts_of first) ≡ answer

-- ---- frames of Fast Modbus

pub record FrameDemand : Type 0 where
  -- each frame is written where it fits
  pub request_written : (request : Request) (room : ℕ) → length (request_frame request) ≤ room → write_request request room ≡ bytes (request_frame request)
  pub found_written : (serial address room : ℕ) → serial < serial_limit → length (found_frame serial address) ≤ room
      → write_found serial address room ≡ bytes (found_frame serial address)
  pub end_written : (room : ℕ) → length end_frame ≤ room → write_end room ≡ bytes end_frame
  -- and nothing else is
  pub request_only : (request : Request) (room : ℕ) (raw : List ℕ) → write_request request room ≡ bytes raw → (raw ≡ request_frame request) × (length raw ≤ room)
  pub found_only : (serial address room : ℕ) (raw : List ℕ) → write_found serial address room ≡ bytes raw
      → (serial < serial_limit) × (raw ≡ found_frame serial address) × (length raw ≤ room)
  pub end_only : (room : ℕ) (raw : List ℕ) → write_end room ≡ bytes raw → (raw ≡ end_frame) × (length raw ≤ room)
  -- each frame is read back as what went into it; an answer behind up to 32 FF, which are counted
  pub request_back : (request : Request) → read_request (request_frame request) ≡ Ok request
  pub found_back : (n serial address : ℕ) → n ≤ 32 → serial < serial_limit → read_answer (replicate n fill ++ found_frame serial address) ≡ Ok (Found n serial address)
  pub end_back : (n : ℕ) → n ≤ 32 → read_answer (replicate n fill ++ end_frame) ≡ Ok (End n)
  -- up to 32 FF with nothing behind them are a wrong length
  pub fill_alone : (n : ℕ) → n ≤ 32 → read_answer (replicate n fill) ≡ Err (at_place frame_length 0)
  -- a 33rd FF is refused at its place, whatever follows it
  pub over_refused : (n : ℕ) (rest : List ℕ) → 32 < n → read_answer (replicate n fill ++ rest) ≡ Err (at_place fill_over 32)
  -- what is accepted is the frame that is written for what was read; an answer's, behind as many FF as are counted
  pub request_exact : (input : List ℕ) (request : Request) → read_request input ≡ Ok request → input ≡ request_frame request
  pub found_exact : (input : List ℕ) (n serial address : ℕ) → ((i : ℕ) → get_or input i 0 < 256) → read_answer input ≡ Ok (Found n serial address)
      → (n ≤ 32) × (serial < serial_limit) × (input ≡ replicate n fill ++ found_frame serial address)
  pub end_exact : (input : List ℕ) (n : ℕ) → read_answer input ≡ Ok (End n) → (n ≤ 32) × (input ≡ replicate n fill ++ end_frame)

-- ---- the frames of event polling

pub record EventDemand : Type 0 where
  -- a request, and that nobody has events, are written where they fit, and nothing else is; packets are written by polls, which
  -- eventsequence/Sequence speaks of
  pub request_written : (request : EventRequest) (room : ℕ) → length (event_request_frame request) ≤ room → write_event_request request room ≡ bytes (event_request_frame request)
  pub nothing_written : (room : ℕ) → length no_events_frame ≤ room → write_no_events room ≡ bytes no_events_frame
  pub request_only : (request : EventRequest) (room : ℕ) (raw : List ℕ) → write_event_request request room ≡ bytes raw → (raw ≡ event_request_frame request) × (length raw ≤ room)
  pub nothing_only : (room : ℕ) (raw : List ℕ) → write_no_events room ≡ bytes raw → (raw ≡ no_events_frame) × (length raw ≤ room)
  -- read back as what went in, and nothing else accepted: requests (eventrequests/RoundTrip), and packets with their events and that
  -- nobody has any, behind up to 32 FF, which are counted (packets/RoundTrip)
  pub requests : EventRequests
  pub packets : EventPackets

-- ---- the packets of Railbus

pub record RailbusDemand : Type 0 where
  -- a packet is written where it fits, and nothing else is
  pub packet_written : (p : Packet) (room : ℕ) → length (packet_text p) ≤ room → write_packet p room ≡ bytes (packet_text p)
  pub packet_only : (p : Packet) (room : ℕ) (raw : List ℕ) → write_packet p room ≡ bytes raw → (raw ≡ packet_text p) × (length raw ≤ room)
  -- read back as what went in, and nothing else accepted, but with a checksum that is not examined (railbus/RoundTrip)
  pub packets : RailbusPackets

pub record Demand2 : Type 0 where
  pub bus : BusDemand
  pub frames : FrameDemand
  pub events : EventDemand
  pub railbus : RailbusDemand
