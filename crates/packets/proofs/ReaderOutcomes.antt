-- Each outcome of the reader, by the bytes of the input or by what the head check found, in the order of the refusals.
-- Assumes nothing.
use Rattle.std.specs.Prelude.{Ok, Err}
use mathlib.Core.Path.{◌≡◌, refl, sym, ap, ◌∙◌, subst}
use mathlib.Core.Bool.{true, false, ◌||◌}
use mathlib.Core.List.{List, ◌∷◌}
use mathlib.Core.Logic.{⊎_elim}
use Prim.Native.Nat.{ℕ, zero, suc, ◌+◌, ◌-◌, ◌≤◌, ◌<◌}
use native.Mathlib.Omega.{arith}
use lib.Dec.{eqb, leb}
use lib.ListN.{length, get_or, drop}
use lib.Seq.{get_or-take, get_or-drop}
use borrow.Author.Tests.{le-leb, lt-leb, leb-true, eq-eqb, ne_eqb, eqb-true}
use Rattle.lists.specs.Tests.{same}
use Rattle.lists.proofs.Cases.{by_test, le_or_lt, both_first, both_second}
use Rattle.refusal.specs.Number.{frame_length, frame_head, subcommand_wrong, frame_check, at_place}
use Rattle.refusal.specs.declared.Refusal.{Refusal}
use Rattle.framing.specs.Framing.{framed_at, passed, judged, check_of}
use Rattle.framing.specs.Layout.{broadcast, extended, check_bytes, closed, scan_framing}
use Rattle.framing.specs.Head.{head_of}
use Rattle.framing.proofs.Framing.{short_refused}
use Rattle.framing.proofs.HeadCheck.{carried_length, bytes_are, opened, head_framed_is, head_wrong_is}
use Rattle.framing.proofs.ScanFrames.{scan_sound, taken_both}
use Rattle.events.specs.Events.{is_id, events_in, how_many_listed}
use Rattle.events.proofs.Ids.{id_most}
use Rattle.packets.specs.Layout.{event_framing, event_packet, no_events, packet_head, packet_fits}
use Rattle.packets.specs.Reading.{said_by, events_at}
use Rattle.packets.specs.Listing.{carried_at, sender_at}
use Rattle.packets.specs.declared.EventsRead.TheVariants.{Packet, Nothing}

-- ---- who sent it

module _ (byte : ℕ) where
  pub not_broadcast : is_id byte ≡ true → eqb byte broadcast ≡ false
  not_broadcast is = ne_eqb byte broadcast (λ e. omega (arith, e, id_most byte is))

  pub id_passes : is_id byte ≡ true → (eqb broadcast byte || is_id byte) ≡ true
  id_passes is = simp (ne_eqb broadcast byte (λ e. omega (arith, e, id_most byte is)), is)

module _ (input : List ℕ) (at : ℕ) where
  pub sender_short : length input - at < 5 → sender_at input at ≡ false
  unfolding sender_at
  sender_short short = simp (lt-leb 5 (length input - at) short)

  pub sender_asked : 5 ≤ length input - at → is_id (get_or input at 0) ≡ sender_at input at
  unfolding sender_at
  sender_asked long = simp (le-leb 5 (length input - at) long)

  pub sender_long : sender_at input at ≡ true → 5 ≤ length input - at
  unfolding sender_at
  sender_long is = leb-true 5 (length input - at) (both_first (leb 5 (length input - at)) (is_id (get_or input at 0)) is)

  pub sender_is : sender_at input at ≡ true → is_id (get_or input at 0) ≡ true
  unfolding sender_at
  sender_is is = both_second (leb 5 (length input - at)) (is_id (get_or input at 0)) is

  sender_none : sender_at input at ≡ false → 5 ≤ length input - at → is_id (get_or input at 0) ≡ false
  unfolding sender_at
  sender_none none long = simp (le-leb 5 (length input - at) long) at none

-- ---- a frame that begins with its sender's id

module _ (input : List ℕ) (at : ℕ) (sender : is_id (get_or input at 0) ≡ true) where
  module _ (long : 5 ≤ length input - at) where
    pub packet_second : (get_or input (at + 1) 0 ≡ extended → ⊥) → events_at input at ≡ Err (at_place frame_head (at + 1))
    unfolding events_at judged passed
    packet_second other =
        ap (said_by at) (opened input at long event_framing long)
        ∙ simp (id_passes (get_or input at 0) sender, ne_eqb extended (get_or input (at + 1) 0) (λ e. other (sym e)))

    module _ (second : get_or input (at + 1) 0 ≡ extended) where
      pub packet_third : (get_or input (at + 2) 0 ≡ event_packet → ⊥) → events_at input at ≡ Err (at_place subcommand_wrong (at + 2))
      unfolding events_at judged passed
      packet_third other =
          ap (said_by at) (opened input at long event_framing long)
          ∙ simp (id_passes (get_or input at 0) sender, eq-eqb extended (get_or input (at + 1) 0) (sym second), not_broadcast (get_or input at 0) sender, ne_eqb (get_or input (at + 2) 0) event_packet other)

      module _ (third : get_or input (at + 2) 0 ≡ event_packet) where
        pub packet_unfit : packet_fits (carried_at input at) ≡ false → events_at input at ≡ Err (at_place frame_length 0)
        unfolding events_at judged passed
        packet_unfit unfit =
            ap (said_by at) (opened input at long event_framing long)
            ∙ simp (id_passes (get_or input at 0) sender, eq-eqb extended (get_or input (at + 1) 0) (sym second), not_broadcast (get_or input at 0) sender, eq-eqb (get_or input (at + 2) 0) event_packet third, unfit)

        module _ (fits : packet_fits (carried_at input at) ≡ true) where
          pub packet_check : closed (drop at input) ≡ false → events_at input at ≡ Err (at_place frame_check (length input - 2))
          unfolding events_at judged passed closed
          packet_check fails =
              let place : at + suc (suc (suc (length (carried_at input at)))) ≡ length input - 2 = omega (arith, carried_length input at long) in
              ap (said_by at) (opened input at long event_framing long)
              ∙ (simp (
                id_passes (get_or input at 0) sender,
                eq-eqb extended (get_or input (at + 1) 0) (sym second),
                not_broadcast (get_or input at 0) sender,
                eq-eqb (get_or input (at + 2) 0) event_packet third,
                fits,
                sym (ap (λ (bytes : List ℕ). same (check_of (drop at input)) (check_bytes bytes)) (bytes_are input at long)) ∙ fails,
              ))
              ∙ ap (λ (n : ℕ). Err (at_place frame_check n)) place

          -- the first bytes carried stand behind the subcommand
          three : 3 ≤ length (carried_at input at)
          unfolding packet_fits
          three = leb-true 3 (length (carried_at input at)) (both_first (leb 3 (length (carried_at input at))) _ fits)

          stands_at : (k place : ℕ) → k < 3 → place ≡ at + 3 + k → get_or (carried_at input at) k 0 ≡ get_or input place 0
          stands_at k place within is =
              get_or-take (length input - at - 5) (drop (at + 3) input) k 0 (omega (arith, three, carried_length input at long))
              ∙ get_or-drop (at + 3) input k 0
              ∙ ap (λ (n : ℕ). get_or input n 0) (sym is)

          pub packet_read : (n : ℕ) → how_many_listed (events_in (drop packet_head (carried_at input at))) ≡ n → closed (drop at input) ≡ true
              → events_at input at ≡ Ok (Packet at (get_or input at 0) (get_or input (at + 3) 0) (get_or input (at + 4) 0) n (at + 6) (get_or input (at + 5) 0))
          unfolding events_at judged passed closed
          packet_read n count right =
              ap (said_by at) (opened input at long event_framing long)
              ∙ simp (
                id_passes (get_or input at 0) sender,
                eq-eqb extended (get_or input (at + 1) 0) (sym second),
                not_broadcast (get_or input at 0) sender,
                eq-eqb (get_or input (at + 2) 0) event_packet third,
                fits,
                sym (ap (λ (bytes : List ℕ). same (check_of (drop at input)) (check_bytes bytes)) (bytes_are input at long)) ∙ right,
                count,
                stands_at 0 (at + 3) (omega arith) (omega arith),
                stands_at 1 (at + 4) (omega arith) (omega arith),
                stands_at 2 (at + 5) (omega arith) (omega arith),
              )

-- ---- a frame that begins with another byte, and what is too short, is read as saying that nobody has events

no_carried : (n : ℕ) → eqb (n + 5) 5 ≡ eqb n 0
no_carried zero = refl
no_carried (suc n) = ne_eqb (suc n + 5) 5 (λ e. omega (arith, e)) ∙ sym (ne_eqb (suc n) 0 (λ e. omega (arith, e)))

module _ (at b0 b1 b2 : ℕ) (carried check : List ℕ) (none : is_id b0 ≡ false) where
  abbrev SameJudged : ℕ → Type 0
  SameJudged x = judged event_framing at (b0 ∷ b1 ∷ x ∷ carried) check ≡ judged (scan_framing no_events no_events) at (b0 ∷ b1 ∷ x ∷ carried) check

  same_judged : SameJudged b2
  unfolding judged passed
  same_judged =
      by_test (eqb broadcast b0)
      (λ first.
      by_test (eqb extended b1)
      (λ second.
      by_test (eqb b2 no_events)
      (λ third.
      subst SameJudged (sym (eqb-true b2 no_events third))
      (simp (first, second, eq-eqb b0 broadcast (sym (eqb-true broadcast b0 first)), no_carried (length carried))))
      (λ third. simp (first, second, third, eq-eqb b0 broadcast (sym (eqb-true broadcast b0 first)))))
      (λ second. simp (first, second)))
      (λ first. simp (first, none))

module _ (input : List ℕ) (at : ℕ) (none : sender_at input at ≡ false) where
  same_frame : framed_at event_framing input at ≡ framed_at (scan_framing no_events no_events) input at
  same_frame =
      ⊎_elim
      (λ long.
      opened input at long event_framing long
      ∙ same_judged at (get_or input at 0) (get_or input (at + 1) 0) (get_or input (at + 2) 0) (carried_at input at) (check_of (drop at input)) (sender_none input at none long)
      ∙ sym (opened input at long (scan_framing no_events no_events) long))
      (λ short. short_refused event_framing input at short ∙ sym (short_refused (scan_framing no_events no_events) input at short))
      (le_or_lt 5 (length input - at))

  pub nothing_refused : (why : Refusal) → head_of (framed_at (scan_framing no_events no_events) input at) ≡ Err why → events_at input at ≡ Err why
  unfolding events_at
  nothing_refused why head = ap (said_by at) (same_frame ∙ head_wrong_is (framed_at (scan_framing no_events no_events) input at) why head)

  pub nothing_said : {s : ℕ} → head_of (framed_at (scan_framing no_events no_events) input at) ≡ Ok s → events_at input at ≡ Ok (Nothing at)
  unfolding events_at
  nothing_said {s} head =
      let is = head_framed_is (framed_at (scan_framing no_events no_events) input at) s head in
      let other : eqb s event_packet ≡ false =
      taken_both (λ (x : ℕ). eqb x event_packet ≡ false) no_events no_events s refl refl (scan_sound no_events no_events input at is.0 s is.1 is.2).taken in
      ap (said_by at) (same_frame ∙ is.2) ∙ simp other
