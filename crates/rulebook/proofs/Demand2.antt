-- Demand 2 holds.
-- Assumes nothing.
use Rattle.std.specs.Prelude.{Result, Ok, Err}
use Rattle.exchange.specs.declared.judge.Accepted.{Accepted}
use mathlib.Core.Path.{◌≡◌, refl, sym, ap, ◌∙◌, subst}
use mathlib.Core.Bool.{Bool, true, false}
use mathlib.Core.List.{List, [], ◌++◌}
use mathlib.Mathlib.Logic.Function.Defs.{id}
use Prim.Native.Nat.{ℕ, ◌+◌, ◌≤◌, ◌<◌}
use native.Mathlib.Omega.{arith}
use lib.Dec.{ltb}
use lib.ListN.{length, take, drop}
use borrow.Author.Tests.{le-leb, lt-ltb, ltb-true}
use Rattle.lists.specs.Choice.{pick}
use Rattle.lists.proofs.Cases.{by_test}
use Rattle.refusal.specs.Number.{output_short, serial_over, at_place}
use Rattle.refusal.proofs.Writer.{fitted, fits_whole, accepted as accepted_bytes, accepted_length}
use Rattle.lists.specs.Starting.{starting}
use Rattle.refusal.specs.Output.{Output, bytes, refused, content, fitting, written, left, Wrote}
use Rattle.refusal.specs.declared.Refusal.{Refusal}
use Rattle.escapes.specs.Escape.{expanded}
use Rattle.escapes.proofs.EscapeRoundTrip.{undo_expand, expand_undo}
use Rattle.addresses.specs.Address.{initiator, reserved}
use Rattle.addresses.specs.declared.ExchangeKind.{ExchangeKind}
use Rattle.telegram.specs.Telegram.{longest, command_room, reply_room}
use Rattle.sending.specs.Sending.{command_output, reply_output}
use Rattle.exchange.specs.Exchange.{Outcome, accepted, rejected, exchange_at, exchange, limit, rooms, judged}
use Rattle.replies.specs.Data.{reply_data}
use Rattle.exchange.specs.View.{accepted_as, answered, command_of, first_of, second_of, Judges}
use Rattle.exchange.specs.Inner.{outcome_as}
use Rattle.exchange.proofs.Buffers.{room_enough}
use Rattle.framing.specs.Layout.{serial_limit}
use Rattle.requests.specs.Layout.{request_frame}
use Rattle.answers.specs.Layout.{found_frame, end_frame}
use Rattle.requests.specs.Writing.{write_request}
use Rattle.answers.specs.Writing.{write_found, write_end}
use Rattle.requests.specs.declared.Request.{Request}
use Rattle.requests.proofs.RoundTrip.{request_read_back, request_exact}
use Rattle.answers.proofs.RoundTrip.{found_read_back, end_read_back, fill_alone, over_refused, found_exact, end_exact}
use Rattle.rulebook.specs.Rules.{OnWire, Idle}
use Rattle.rulebook.specs.ReadBack.{command_bytes, reply_bytes, Before, nothing, nacked_once, attempts_of, first_tried, second_tried}
use Rattle.rulebook.specs.Demand2.{Stands, Recorded, Filled, Shown, BusDemand, FrameDemand, Demand2}
use Rattle.rulebook.proofs.EventFrames.{event_frames}
use Rattle.rulebook.proofs.RailbusPackets.{railbus_demand}
use Rattle.rulebook.proofs.RuleBook.{rules_accepted, accepted_by_rules}
use Rattle.rulebook.proofs.Recording.{accepted_recorded, recorded_accepted, recorded_longer, recorded_read}
use Rattle.rulebook.proofs.DataShown.{data_shown, first_shows, second_shows}
use Rattle.rulebook.proofs.WrittenRead.{command_written, command_form, command_right, reply_written, reply_form, reply_right, broadcast_on_wire, initiators_on_wire, target_on_wire}

-- ---- exactness, from any position

module _ (run : List ℕ) (at : ℕ) (kind : ExchangeKind) (a b n : ℕ) (command first second : List ℕ) where
  accepted_stands : exchange_at run at ≡ accepted kind a b n command first second → Stands run at kind a b n command first second
  accepted_stands e =
      let found = accepted_by_rules run at kind a b n command first second e in
      record { raw = found.0; rest = drop n run; by_rules = found.1; there = found.2; ends = found.3 }

  stands_accepted : Stands run at kind a b n command first second → exchange_at run at ≡ accepted kind a b n command first second
  stands_accepted s =
      rules_accepted run at kind a b command first second s.raw s.rest s.by_rules s.there
      ∙ ap (λ (k : ℕ). accepted kind a b k command first second) (sym s.ends)

-- ---- the judge

-- what is accepted passed the rooms
behind_rooms : (run : List ℕ) (c f s : ℕ) (kind : ExchangeKind) (a b n : ℕ) (command first second : List ℕ)
    → judged run c f s ≡ accepted kind a b n command first second → exchange (take limit run) ≡ accepted kind a b n command first second
unfolding judged
behind_rooms run c f s kind a b n command first second e =
    by_test (rooms c f s)
    (λ enough. sym (ap (λ (x : Bool). pick x (exchange (take limit run)) (rejected (at_place output_short 0))) enough) ∙ e)
    (λ short. let wrong : rejected (at_place output_short 0) ≡ accepted kind a b n command first second =
    sym (ap (λ (x : Bool). pick x (exchange (take limit run)) (rejected (at_place output_short 0))) short) ∙ e in
    let z : ◌≡◌ {A = ℕ} 0 1 = cc in let g : ⊥ = omega arith in absurd g)

module _ (run c f s : List ℕ) (r : Result Accepted Refusal) (c' f' s' : List ℕ)
    (judges : Judges id (judged run (length c) (length f) (length s)) r c c' f f' s s') where
  -- what is judged is answered, and fills the buffers
  answers : (o : Outcome) → judged run (length c) (length f) (length s) ≡ o → (r ≡ answered o) × Filled (command_of o) (first_of o) (second_of o) c f s c' f' s'
  answers o is = (
    judges.result ∙ ap answered is,
    record {
      command_buffer = judges.command_buffer ∙ ap (λ (x : Outcome). starting (command_of x) c) is;
      first_buffer = judges.first_buffer ∙ ap (λ (x : Outcome). starting (first_of x) f) is;
      second_buffer = judges.second_buffer ∙ ap (λ (x : Outcome). starting (second_of x) s) is;
    },
  )

  takes : command_room ≤ length c → reply_room ≤ length f → reply_room ≤ length s
      → (kind : ExchangeKind) (a b n : ℕ) (command first second : List ℕ) → Recorded run kind a b n command first second → n ≤ limit
      → (r ≡ Ok (accepted_as kind a b n)) × Filled command first second c f s c' f' s' × Shown b first second f' s'
  takes c_room f_room s_room kind a b n command first second recorded within =
      let given = answers (accepted kind a b n command first second)
      (room_enough (length c) (length f) (length s) run c_room f_room s_room ∙ recorded_accepted (take limit run) kind a b n command first second (recorded_read run kind a b n command first second recorded within)) in (
        given.0,
        given.1,
        subst (λ (x : List ℕ). Shown b first second x s') (sym given.1.first_buffer)
            (subst (λ (x : List ℕ). Shown b first second (starting first f) x) (sym given.1.second_buffer)
            (data_shown kind a b command first second recorded.raw f s recorded.by_rules)),
      )

  only : (kind : ExchangeKind) (a b n : ℕ) → r ≡ Ok (accepted_as kind a b n)
      → (command : List ℕ) × (first : List ℕ) × (second : List ℕ) × Recorded run kind a b n command first second × (n ≤ limit)
  only kind a b n told = by (judged run (length c) (length f) (length s)) refl
    where
      by : (o : Outcome) → judged run (length c) (length f) (length s) ≡ o → (command : List ℕ) × (first : List ℕ) × (second : List ℕ) × Recorded run kind a b n command first second × (n ≤ limit)
      by (accepted kind' a' b' n' command first second) e =
          let given = (answers (accepted kind' a' b' n' command first second) e).0 in
          let same : accepted kind' a' b' n' command first second ≡ accepted kind a b n command first second = ap (outcome_as command first second) (sym given ∙ told) in
          let found = recorded_longer run kind a b n command first second (accepted_recorded (take limit run) kind a b n command first second (behind_rooms run (length c) (length f) (length s) kind a b n command first second (e ∙ same))) in
          (command, first, second, found.0, found.1)
      by (rejected why) e =
          let given = (answers (rejected why) e).0 in
          let z : ◌≡◌ {A = ℕ} 0 1 = cc in
          let g : ⊥ = omega arith in
          absurd g

  leaves : (why : Refusal) → r ≡ Err why → Filled [] [] [] c f s c' f' s'
  leaves why told = by (judged run (length c) (length f) (length s)) refl
    where
      by : (o : Outcome) → judged run (length c) (length f) (length s) ≡ o → Filled [] [] [] c f s c' f' s'
      by (accepted kind a b n command first second) e =
          let given = (answers (accepted kind a b n command first second) e).0 in
          let z : ◌≡◌ {A = ℕ} 0 1 = cc in
          let g : ⊥ = omega arith in
          absurd g
      by (rejected why') e = (answers (rejected why') e).1

-- ---- the writers

module _ (due : Output) (r : Result ℕ Refusal) (old new : List ℕ) (wrote : Wrote id (fitting (length old) due) r old new) where
  writes : (raw : List ℕ) → due ≡ bytes raw → length raw ≤ length old → (r ≡ Ok (length raw)) × (new ≡ starting raw old)
  writes raw is fits =
      let whole = ap (fitting (length old)) is ∙ fits_whole raw (length old) fits in
      (wrote.result ∙ ap written whole, wrote.output ∙ ap (λ (o : Output). left o old) whole)

  writes_only : (n : ℕ) → r ≡ Ok n → (raw : List ℕ) × (due ≡ bytes raw) × (n ≡ length raw) × (length raw ≤ length old)
  writes_only n told =
      let size : written (fitting (length old) due) ≡ Ok n = sym wrote.result ∙ told in
      let given = fitted due (length old) _ (accepted_bytes (fitting (length old) due) n size) in
      (content (fitting (length old) due), given.0, sym (accepted_length (fitting (length old) due) n size), given.1)

  writes_leaves : (why : Refusal) → r ≡ Err why → new ≡ old
  writes_leaves why told = by (fitting (length old) due) (sym wrote.result ∙ told) wrote.output
    where
      by : (o : Output) → written o ≡ Err why → new ≡ left o old → new ≡ old
      by (bytes bs) e is = let z : ◌≡◌ {A = ℕ} 0 1 = cc in let g : ⊥ = omega arith in absurd g
      by (refused w) e is = is

-- ---- frames that are written, and nothing else

request_only : (request : Request) (room : ℕ) (raw : List ℕ) → write_request request room ≡ bytes raw → (raw ≡ request_frame request) × (length raw ≤ room)
unfolding write_request
request_only request room raw e =
    let given = fitted (bytes (request_frame request)) room raw e in
    (ap content (sym given.0), given.1)

end_only : (room : ℕ) (raw : List ℕ) → write_end room ≡ bytes raw → (raw ≡ end_frame) × (length raw ≤ room)
unfolding write_end
end_only room raw e =
    let given = fitted (bytes end_frame) room raw e in
    (ap content (sym given.0), given.1)

found_only : (serial address room : ℕ) (raw : List ℕ) → write_found serial address room ≡ bytes raw
    → (serial < serial_limit) × (raw ≡ found_frame serial address) × (length raw ≤ room)
unfolding write_found
found_only serial address room raw e =
    let given = fitted (pick (ltb serial serial_limit) (bytes (found_frame serial address)) (refused (at_place serial_over 0))) room raw e in
    by_test (ltb serial serial_limit)
    (λ below. let same : bytes (found_frame serial address) ≡ bytes raw = sym (ap (λ (x : Bool). pick x (bytes (found_frame serial address)) (refused (at_place serial_over 0))) below) ∙ given.0 in
    (ltb-true serial serial_limit below, ap content (sym same), given.1))
    (λ over. let wrong : refused (at_place serial_over 0) ≡ bytes raw = sym (ap (λ (x : Bool). pick x (bytes (found_frame serial address)) (refused (at_place serial_over 0))) over) ∙ given.0 in
    let z : ◌≡◌ {A = ℕ} 0 1 = cc in let g : ⊥ = omega arith in absurd g)

-- ---- the data of what was written

data_back : (answer replying : List ℕ) → reply_output answer ≡ bytes replying → (first : Before false) (f s : List ℕ)
    → reply_data (starting (first_tried first (reply_bytes answer)) f) (starting (second_tried first (reply_bytes answer)) s) (attempts_of first) ≡ answer
unfolding reply_form
data_back answer replying written nothing f s = first_shows (reply_bytes answer) f (reply_form answer replying written) (starting [] s)
data_back answer replying written (nacked_once tried form to) f s =
    second_shows (reply_bytes answer) s (reply_form answer replying written) (starting tried f)

-- ---- what is allowed is written

command_writes : (source destination primary secondary : ℕ) (payload : List ℕ) → initiator source ≡ true → reserved destination ≡ false → length payload ≤ longest
    → command_output source destination primary secondary payload ≡ bytes (expanded (command_bytes source destination primary secondary payload))
unfolding command_output
command_writes source destination primary secondary payload from to short = simp (from, to, le-leb _ _ short)

reply_writes : (payload : List ℕ) → length payload ≤ longest → reply_output payload ≡ bytes (expanded (reply_bytes payload))
unfolding reply_output
reply_writes payload short = simp (le-leb _ _ short)

request_written : (request : Request) (room : ℕ) → length (request_frame request) ≤ room → write_request request room ≡ bytes (request_frame request)
unfolding write_request
request_written request room fits = simp (le-leb _ _ fits)

found_written : (serial address room : ℕ) → serial < serial_limit → length (found_frame serial address) ≤ room
    → write_found serial address room ≡ bytes (found_frame serial address)
unfolding write_found
found_written serial address room below fits = simp (lt-ltb serial serial_limit below, le-leb _ _ fits)

end_written : (room : ℕ) → length end_frame ≤ room → write_end room ≡ bytes end_frame
unfolding write_end
end_written room fits = simp (le-leb _ _ fits)

-- ---- read back

-- an exchange of the rule book, behind any idle time
behind_idle : (idle rest : List ℕ) → Idle idle → {kind : ExchangeKind} {a b : ℕ} {command first second raw : List ℕ} → OnWire kind a b command first second raw
    → exchange (idle ++ (raw ++ rest)) ≡ accepted kind a b (length idle + length raw) command first second
behind_idle idle rest idles {kind} {a} {b} {command} {first} {second} {raw} by_rules =
    recorded_accepted (idle ++ (raw ++ rest)) kind a b (length idle + length raw) command first second
    (record { before = idle; raw = raw; rest = rest; idle = idles; by_rules = by_rules; whole = refl; ends = refl })

-- ---- the claim

bus : BusDemand
bus =
    record {
      escapes_back = undo_expand;
      escapes_exact = expand_undo;
      accepted_stands = accepted_stands;
      stands_accepted = stands_accepted;
      accepted_recorded = accepted_recorded;
      recorded_accepted = recorded_accepted;
      judging = λ run c f s r c' f' s' judges.
          record {
            takes = takes run c f s r c' f' s' judges;
            only = only run c f s r c' f' s' judges;
            leaves = leaves run c f s r c' f' s' judges;
          };
      writing = λ due r old new wrote.
          record {
            writes = writes due r old new wrote;
            only = writes_only due r old new wrote;
            leaves = writes_leaves due r old new wrote;
          };
      command_writes = command_writes;
      reply_writes = reply_writes;
      command_written = λ source destination primary secondary payload raw e. (
        (command_written source destination primary secondary payload raw e).wire,
        command_form source destination primary secondary payload raw e,
        command_right source destination primary secondary payload raw e,
      );
      reply_written = λ payload raw e. ((reply_written payload raw e).wire, reply_form payload raw e, reply_right payload);
      broadcast_back = λ source destination primary secondary payload raw e is before idle rest idles.
          behind_idle idle rest idles (broadcast_on_wire source destination primary secondary payload raw e before is);
      initiators_back = λ source destination primary secondary payload raw e is before idle rest idles.
          behind_idle idle rest idles (initiators_on_wire source destination primary secondary payload raw e before is);
      target_back = λ source destination primary secondary payload raw e is answer replying written before first idle rest idles.
          behind_idle idle rest idles (target_on_wire source destination primary secondary payload raw e before is answer replying written first);
      data_back = data_back;
    }

frames : FrameDemand
frames =
    record {
      request_written = request_written;
      found_written = found_written;
      end_written = end_written;
      request_only = request_only;
      found_only = found_only;
      end_only = end_only;
      request_back = request_read_back;
      found_back = found_read_back;
      end_back = end_read_back;
      fill_alone = fill_alone;
      over_refused = over_refused;
      request_exact = request_exact;
      found_exact = found_exact;
      end_exact = end_exact;
    }

pub demand2 : Demand2
demand2 = record { bus = bus; frames = frames; events = event_frames; railbus = railbus_demand }
