-- Reading what comes back and writing it are inverse to each other: the proof of `EventPackets`.
-- Assumes nothing.
use Rattle.std.specs.Prelude.{Result, Ok, Err}
use Rattle.refusal.specs.declared.Refusal.{Refusal}
use mathlib.Core.Path.{◌≡◌, refl, sym, ap, ap₂, ◌∙◌, subst}
use mathlib.Core.Bool.{Bool, true, false, ◌&&◌, ◌||◌}
use mathlib.Core.List.{List, [], ◌∷◌, ◌++◌, append_assoc}
use Prim.Native.Nat.{ℕ, zero, suc, ◌+◌, ◌≤◌, ◌<◌}
use native.Mathlib.Omega.{arith}
use lib.Dec.{eqb, leb}
use lib.ListN.{length, get_or, drop, replicate, length-append, length-replicate}
use borrow.Author.Tests.{le-leb, leb-true, eq-eqb, eqb-true, eqb-false}
use Rattle.lists.specs.Choice.{pick}
use Rattle.lists.proofs.All.{same_self, same_is}
use Rattle.lists.proofs.Cases.{true_not_false, both_first, both_second}
use Rattle.framing.specs.Framing.{body, frame, FrameRead, framed, wrong, passed, framed_at}
use Rattle.framing.specs.Layout.{broadcast, extended, scan_first, check_bytes}
use Rattle.framing.proofs.Framing.{Sound, short_refused, frame_read_back, exact, frame_exact, carried_at}
use Rattle.framing.proofs.CheckBehind.{length_closed}
use Rattle.refusal.specs.Number.{frame_length, fill_over, at_place}
use Rattle.answers.specs.Reading.{fill, leading_fill, most_fill, behind_fill}
use Rattle.answers.proofs.LeadingFill.{fill_before, fill_only, fill_least, fill_split, by_before, before_few, before_many}
use Rattle.events.specs.Events.{is_id, Event, events_bytes, walked, Listed, listed, uneven, events_in, how_many_listed}
use Rattle.packets.specs.Layout.{event_packet, no_events, no_more_than, packet_fits, event_framing, packet_bytes, packet_frame, no_events_frame}
use Rattle.packets.specs.Reading.{packet, said_by, events_at, read_events}
use Rattle.packets.specs.RoundTrip.{Bytes, Holds, EventPackets}
use Rattle.packets.specs.declared.EventsRead.TheVariants.{Packet, Nothing}
use Rattle.events.proofs.Ids.{id_most}
use Rattle.events.proofs.EventList.{walk_there, list_back, list_exact}
use Rattle.packets.proofs.ReaderOutcomes.{not_broadcast, id_passes}

-- ---- read back

-- a frame behind n FF: the reader passes over those and no more, and finds it
read_behind : (n b s : ℕ) (carried : List ℕ) → n ≤ most_fill → (b ≡ fill → ⊥) → Sound event_framing (b ∷ extended ∷ []) s carried
    → read_events (replicate n fill ++ frame event_framing (b ∷ extended ∷ []) s carried) ≡ said_by n (framed (b ∷ extended ∷ []) s carried)
unfolding frame check_bytes events_at read_events
read_behind n b s carried few other sound =
    let before = replicate n fill in
    let first = b ∷ extended ∷ [] in
    let input = before ++ frame event_framing first s carried in
    ap (behind_fill (events_at input)) (before_few input n (fill_before n b _ other) few)
    ∙ ap (λ (at : ℕ). said_by n (framed_at event_framing input at)) (sym (length-replicate n fill))
    ∙ ap (said_by n)
    (frame_read_back event_framing before first s carried sound refl (same_self (check_bytes (body first s carried))) (omega (arith, length_closed (body first s carried))))

packet_fits_lem : (flag queued : ℕ) (events : List Event) → length events ≤ queued → packet_fits (packet_bytes flag queued events) ≡ true
unfolding packet_bytes packet_fits
packet_fits_lem flag queued events within =
    simp (
      le-leb 3 (length (flag ∷ queued ∷ length (events_bytes events) ∷ events_bytes events)) (omega arith),
      eq-eqb (length (events_bytes events)) (length (events_bytes events)) refl,
      list_back events,
      le-leb (length events) queued within,
    )

packet_sound : (sender flag queued : ℕ) (events : List Event) → is_id sender ≡ true → length events ≤ queued
    → Sound event_framing (sender ∷ extended ∷ []) event_packet (packet_bytes flag queued events)
unfolding passed
packet_sound sender flag queued events is within =
    record {
      width = refl;
      marked = simp (id_passes sender is);
      taken = simp (not_broadcast sender is);
      fitting = packet_fits_lem flag queued events within;
    }

packet_back : (n sender flag queued : ℕ) (events : List Event) → n ≤ most_fill → is_id sender ≡ true → length events ≤ queued
    → read_events (replicate n fill ++ packet_frame sender flag queued events) ≡ Ok (Packet n sender flag queued (length events) (n + 6) (length (events_bytes events)))
unfolding packet_bytes packet_frame
packet_back n sender flag queued events few is within =
    read_behind n sender event_packet (packet_bytes flag queued events) few (λ e. omega (arith, e, id_most sender is)) (packet_sound sender flag queued events is within)
    ∙ ap (λ (l : Listed). Ok (Packet n sender flag queued (how_many_listed l) (n + 6) (length (events_bytes events)))) (list_back events)

events_back : (n sender flag queued : ℕ) (events : List Event)
    → walked (length events) (replicate n fill ++ packet_frame sender flag queued events) (n + 6) ≡ events
unfolding frame packet_bytes packet_frame
events_back n sender flag queued events =
    let fills = replicate n fill in
    let head = sender ∷ extended ∷ event_packet ∷ flag ∷ queued ∷ length (events_bytes events) ∷ [] in
    let check = check_bytes (body (sender ∷ extended ∷ []) event_packet (packet_bytes flag queued events)) in
    let place : n + 6 ≡ length (fills ++ head) = omega (arith, length-append fills head, length-replicate n fill) in
    ap₂ (walked (length events)) (sym (append_assoc fills head (events_bytes events ++ check))) place ∙ walk_there events (fills ++ head) check

nothing_back : (n : ℕ) → n ≤ most_fill → read_events (replicate n fill ++ no_events_frame) ≡ Ok (Nothing n)
unfolding passed no_events_frame
nothing_back n few = read_behind n broadcast no_events [] few (eqb-false broadcast fill refl) (record { width = refl; marked = refl; taken = refl; fitting = refl })

fill_alone : (n : ℕ) → n ≤ most_fill → read_events (replicate n fill) ≡ Err (at_place frame_length 0)
unfolding events_at read_events
fill_alone n few =
    let input = replicate n fill in
    ap (behind_fill (events_at input)) (before_few input n (fill_only n) few)
    ∙ ap (said_by n) (short_refused event_framing input n (omega (arith, length-replicate {A = ℕ} n fill)))

over_refused : (n : ℕ) (rest : List ℕ) → most_fill < n → read_events (replicate n fill ++ rest) ≡ Err (at_place fill_over most_fill)
unfolding read_events
over_refused n rest many =
    let input = replicate n fill ++ rest in
    ap (behind_fill (events_at input)) (before_many input (omega (arith, fill_least n rest)))

-- ---- what is accepted is what would be written

-- the first two bytes of what was read
first_two : (first more : List ℕ) → length first ≡ 2 → passed event_framing.marks (first ++ more) ≡ 2
    → (b : ℕ) × (first ≡ b ∷ extended ∷ []) × ((eqb broadcast b || is_id b) ≡ true)
unfolding passed
first_two (a ∷ b ∷ []) more two marked = by (eqb broadcast a || is_id a) refl (eqb extended b) refl marked
  where
    by : (t : Bool) → (eqb broadcast a || is_id a) ≡ t → (u : Bool) → eqb extended b ≡ u → pick t (suc (pick u (suc zero) zero)) zero ≡ 2
        → (x : ℕ) × (a ∷ b ∷ [] ≡ x ∷ extended ∷ []) × ((eqb broadcast x || is_id x) ≡ true)
    by true passes true is e = (a, ap (λ (y : ℕ). a ∷ y ∷ []) (sym (eqb-true extended b is)), passes)
    by true passes false is e = let z : ⊥ = omega arith in absurd z
    by false passes u is e = let z : ⊥ = omega arith in absurd z
first_two [] more two marked = let z : ⊥ = omega arith in absurd z
first_two (a ∷ []) more two marked = let z : ⊥ = omega arith in absurd z
first_two (a ∷ b ∷ c ∷ bs) more two marked = let z : ⊥ = omega arith in absurd z

-- what a packet carries, taken apart
record Parts (carried : List ℕ) : Type 0 where
  pub events : List Event
  pub read : events_in (drop 3 carried) ≡ listed events
  pub are : carried ≡ packet_bytes (get_or carried 0 0) (get_or carried 1 0) events
  pub size : get_or carried 2 0 ≡ length (events_bytes events)
  pub within : length events ≤ get_or carried 1 0

parts : (carried : List ℕ) → packet_fits carried ≡ true → ((i : ℕ) → i < length carried → get_or carried i 0 < 256) → Parts carried
unfolding packet_fits packet_bytes events_in
parts (flag ∷ queued ∷ size ∷ more) fits small = by (events_in more) refl (both_second (eqb size (length more)) (no_more_than queued (events_in more)) rest)
  where
    rest : (eqb size (length more) && no_more_than queued (events_in more)) ≡ true
    rest = both_second (leb 3 (length (flag ∷ queued ∷ size ∷ more))) (eqb size (length more) && no_more_than queued (events_in more)) fits

    by : (l : Listed) → events_in more ≡ l → no_more_than queued l ≡ true → Parts (flag ∷ queued ∷ size ∷ more)
    by (listed events) read few =
        let size_is : size ≡ length more = eqb-true size (length more) (both_first (eqb size (length more)) (no_more_than queued (events_in more)) rest) in
        let more_is : more ≡ events_bytes events = list_exact (length more) more 0 events (λ i h. small (suc (suc (suc i))) (omega arith)) (omega arith) read in
        record {
          events = events;
          read = read;
          are = ap₂ (λ (z : ℕ) (l : List ℕ). flag ∷ queued ∷ z ∷ l) (size_is ∙ ap length more_is) more_is;
          size = size_is ∙ ap length more_is;
          within = leb-true (length events) queued few;
        }
    by uneven read few = true_not_false few refl
parts [] fits small = true_not_false fits refl
parts (a ∷ []) fits small = true_not_false fits refl
parts (a ∷ b ∷ []) fits small = true_not_false fits refl

-- a first byte of which the subcommand is that of a packet is an id
sender_id : (b : ℕ) → (eqb broadcast b || is_id b) ≡ true → eqb event_packet (pick (eqb b broadcast) no_events event_packet) ≡ true → is_id b ≡ true
sender_id b passes takes = by (eqb broadcast b) refl passes
  where
    by : (t : Bool) → eqb broadcast b ≡ t → (t || is_id b) ≡ true → is_id b ≡ true
    by true is passes =
        true_not_false takes
        (ap (λ (t : Bool). eqb event_packet (pick t no_events event_packet)) (eq-eqb b broadcast (sym (eqb-true broadcast b is))))
    by false is passes = passes

module _ (input : List ℕ) (at : ℕ) (first : List ℕ) (s : ℕ) (carried : List ℕ) (read : framed_at event_framing input at ≡ framed first s carried) where
  sound : Sound event_framing first s carried
  sound = (exact event_framing (omega arith) input at first s carried read).sound

  stands : drop at input ≡ frame event_framing first s carried
  stands = frame_exact event_framing (omega arith) input at first s carried read (λ bytes check. same_is check (check_bytes bytes))

  abbrev two : (b : ℕ) × (first ≡ b ∷ extended ∷ []) × ((eqb broadcast b || is_id b) ≡ true)
  two = first_two first (s ∷ carried) sound.width sound.marked

  takes : eqb s (pick (eqb two.0 broadcast) no_events event_packet) ≡ true
  takes = ap (λ (l : List ℕ). eqb s (pick (eqb (get_or (l ++ s ∷ carried) 0 0) broadcast) no_events event_packet)) (sym two.1) ∙ sound.taken

-- what was read where a packet is said, and where nothing is
packet_said : (at : ℕ) (first : List ℕ) (s : ℕ) (carried : List ℕ) (n sender flag queued count place size : ℕ)
    → said_by at (framed first s carried) ≡ Ok (Packet n sender flag queued count place size)
    → (s ≡ event_packet) × (packet at first carried ≡ Ok (Packet n sender flag queued count place size))
packet_said at first s carried n sender flag queued count place size e = by (eqb s event_packet) refl e
  where
    by : (t : Bool) → eqb s event_packet ≡ t → pick t (packet at first carried) (Ok (Nothing at)) ≡ Ok (Packet n sender flag queued count place size)
        → (s ≡ event_packet) × (packet at first carried ≡ Ok (Packet n sender flag queued count place size))
    by true is e = (eqb-true s event_packet is, e)
    by false is e = let z : ◌≡◌ {A = ℕ} 0 1 = cc in absurd (omega arith)

nothing_said : (at : ℕ) (first : List ℕ) (s : ℕ) (carried : List ℕ) (n : ℕ) → said_by at (framed first s carried) ≡ Ok (Nothing n) → (eqb s event_packet ≡ false) × (at ≡ n)
nothing_said at first s carried n e = by (eqb s event_packet) e
  where
    by : (t : Bool) → pick t (packet at first carried) (Ok (Nothing at)) ≡ Ok (Nothing n) → (t ≡ false) × (at ≡ n)
    by true e = let z : ◌≡◌ {A = ℕ} 0 1 = cc in absurd (omega arith)
    by false e = (refl, cc)

-- a frame of another subcommand than a packet's begins with the broadcast address, says that nobody has events, and carries nothing
none_read : (b s : ℕ) (carried : List ℕ) → eqb s event_packet ≡ false → eqb s (pick (eqb b broadcast) no_events event_packet) ≡ true → event_framing.fits s carried ≡ true
    → (b ≡ broadcast) × (s ≡ no_events) × (carried ≡ [])
none_read b s carried other takes fits = by (eqb b broadcast) refl takes
  where
    empty : (l : List ℕ) → eqb (length l) 0 ≡ true → l ≡ []
    empty [] e = refl
    empty (x ∷ xs) e = let z : suc (length xs) ≡ 0 = eqb-true (suc (length xs)) 0 e in absurd (omega arith)

    by : (t : Bool) → eqb b broadcast ≡ t → eqb s (pick t no_events event_packet) ≡ true → (b ≡ broadcast) × (s ≡ no_events) × (carried ≡ [])
    by true is takes = (
      eqb-true b broadcast is,
      eqb-true s no_events takes,
      empty carried (ap (λ (t : Bool). pick t (packet_fits carried) (eqb (length carried) 0)) (sym other) ∙ fits),
    )
    by false is takes = true_not_false takes other

packet_exact : (input : List ℕ) (n sender flag queued count place size : ℕ) → Bytes input → read_events input ≡ Ok (Packet n sender flag queued count place size)
    → Holds input n sender flag queued count place size (walked count input place)
unfolding packet_frame events_at read_events
packet_exact input n sender flag queued count place size bytes =
    by_before (λ (s : Result ℕ Refusal). behind_fill (events_at input) s ≡ Ok (Packet n sender flag queued count place size) → Holds input n sender flag queued count place size (walked count input place)) input
    (by (framed_at event_framing input (leading_fill input)) refl) (λ many e. let z : ◌≡◌ {A = ℕ} 0 1 = cc in absurd (omega arith))
  where
    by : (r : FrameRead) → framed_at event_framing input (leading_fill input) ≡ r → leading_fill input ≤ most_fill → said_by (leading_fill input) r ≡ Ok (Packet n sender flag queued count place size)
        → Holds input n sender flag queued count place size (walked count input place)
    by (framed first s carried) read few e =
        let at = leading_fill input in
        let said = packet_said at first s carried n sender flag queued count place size e in
        let is_s = said.0 in
        let is = said.1 in
        let ok = sound input at first s carried read in
        let first_is = two input at first s carried read in
        let small : (k : ℕ) → k < length carried → get_or carried k 0 < 256 =
        λ k within. subst (λ (x : ℕ). x < 256) (sym (carried_at event_framing (omega arith) input at first s carried read k within)) (bytes (at + (2 + suc k))) in
        let fits : packet_fits carried ≡ true = ap (λ (x : ℕ). event_framing.fits x carried) (sym is_s) ∙ ok.fitting in
        let p = parts carried fits small in
        let is_sender : first_is.0 ≡ sender = ap (λ (l : List ℕ). get_or l 0 0) (sym first_is.1) ∙ (let x : get_or first 0 0 ≡ sender = cc in x) in
        let is_n : at ≡ n = cc in
        let is_flag : get_or carried 0 0 ≡ flag = cc in
        let is_queued : get_or carried 1 0 ≡ queued = cc in
        let is_listed : how_many_listed (events_in (drop 3 carried)) ≡ count = cc in
        let is_place : at + 6 ≡ place = cc in
        let is_size : get_or carried 2 0 ≡ size = cc in
        let number : count ≡ length p.events = sym is_listed ∙ ap how_many_listed p.read in
        let from : is_id sender ≡ true =
        subst (λ (x : ℕ). is_id x ≡ true) is_sender
        (sender_id first_is.0 first_is.2 (ap (λ (x : ℕ). eqb x (pick (eqb first_is.0 broadcast) no_events event_packet)) (sym is_s) ∙ takes input at first s carried read)) in
        let carries : carried ≡ packet_bytes flag queued p.events = p.are ∙ ap₂ (λ (x y : ℕ). packet_bytes x y p.events) is_flag is_queued in
        let whole : input ≡ replicate at fill ++ packet_frame sender flag queued p.events =
        fill_split input
        ∙ ap (λ (l : List ℕ). replicate at fill ++ l)
        (stands input at first s carried read
        ∙ ap₂ (λ (x : List ℕ) (y : ℕ). frame event_framing x y carried) (first_is.1 ∙ ap (λ (x : ℕ). x ∷ extended ∷ []) is_sender) is_s
        ∙ ap (frame event_framing (sender ∷ extended ∷ []) event_packet) carries) in
        let walk : walked count input place ≡ p.events =
        ap₂ (λ (n : ℕ) (l : List ℕ). walked n l place) number whole
        ∙ ap (walked (length p.events) (replicate at fill ++ packet_frame sender flag queued p.events)) (sym is_place)
        ∙ events_back at sender flag queued p.events in
        subst (λ (k : ℕ). Holds input k sender flag queued count place size (walked count input place)) is_n
        (subst (Holds input at sender flag queued count place size) (sym walk)
        (record {
          few = few;
          from = from;
          counted = omega (arith, number, p.within, is_queued);
          number = number;
          place = sym is_place;
          room = sym is_size ∙ p.size;
          whole = whole;
          walk = walk;
        }))
    by (wrong why) read few e = let z : ◌≡◌ {A = ℕ} 0 1 = cc in absurd (omega arith)

nothing_exact : (input : List ℕ) (n : ℕ) → read_events input ≡ Ok (Nothing n) → (n ≤ most_fill) × (input ≡ replicate n fill ++ no_events_frame)
unfolding no_events_frame events_at read_events
nothing_exact input n =
    by_before (λ (s : Result ℕ Refusal). behind_fill (events_at input) s ≡ Ok (Nothing n) → Stands n) input
    (by (framed_at event_framing input (leading_fill input)) refl) (λ many e. let z : ◌≡◌ {A = ℕ} 0 1 = cc in absurd (omega arith))
  where
    Stands : ℕ → Type 0
    Stands k = (k ≤ most_fill) × (input ≡ replicate k fill ++ no_events_frame)

    by : (r : FrameRead) → framed_at event_framing input (leading_fill input) ≡ r → leading_fill input ≤ most_fill → said_by (leading_fill input) r ≡ Ok (Nothing n) → Stands n
    by (framed first s carried) read few e =
        let at = leading_fill input in
        let first_is = two input at first s carried read in
        let said = nothing_said at first s carried n e in
        let is = none_read first_is.0 s carried said.0 (takes input at first s carried read) (sound input at first s carried read).fitting in
        subst Stands said.1 (
          few,
          fill_split input
              ∙ ap (λ (l : List ℕ). replicate at fill ++ l)
              (stands input at first s carried read
              ∙ ap₂ (λ (x : List ℕ) (y : ℕ). frame event_framing x y carried) (first_is.1 ∙ ap (λ (x : ℕ). x ∷ extended ∷ []) is.0) is.1
              ∙ ap (frame event_framing scan_first no_events) is.2),
        )
    by (wrong why) read few e = let z : ◌≡◌ {A = ℕ} 0 1 = cc in absurd (omega arith)

pub event_packets : EventPackets
event_packets =
    record {
      packet_back = packet_back;
      events_back = events_back;
      packet_exact = packet_exact;
      nothing_back = nothing_back;
      nothing_exact = nothing_exact;
      fill_alone = fill_alone;
      over_refused = over_refused;
    }
