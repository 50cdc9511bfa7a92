-- What is heard of a poll, by who wins the contest: `Answered`.
-- Assumes nothing.
use Rattle.std.specs.Prelude.{Ok}
use mathlib.Core.Path.{◌≡◌, refl, sym, ap, ◌∙◌, subst}
use mathlib.Core.Bool.{Bool, true}
use mathlib.Core.List.{List, [], ◌∷◌}
use mathlib.Core.Logic.{◌⊎◌, inl, inr, ⊎_elim}
use Prim.Native.Nat.{ℕ, ◌+◌, ◌*◌, ◌≤◌, ◌<◌}
use native.Mathlib.Omega.{arith}
use lib.ListN.{length, get_or}
use borrow.Author.Tests.{lt-ltb, le-ltb, eq-eqb, ne_eqb}
use Rattle.lists.specs.Choice.{pick}
use Rattle.lists.proofs.Cases.{same_or_not, true_not_false}
use Rattle.table.specs.Table.{Table, devices}
use Rattle.eventrequests.specs.declared.EventRequest.{EventRequest}
use Rattle.queues.proofs.Events.{queued_length}
use Rattle.queues.specs.Queues.{Queues, Queued, count_of, flag_of, slots_of, queue, valid_queues}
use Rattle.oldest.specs.Oldest.{marker_of}
use Rattle.polls.specs.Poll.{silence, nothing, packet, poll_contest, sent_by, after_confirming, poll_heard}
use Rattle.polls.specs.Calls.{heard_bytes}
use Rattle.packets.specs.Reading.{read_events}
use Rattle.packets.specs.declared.EventsRead.TheVariants.{Nothing}
use Rattle.eventsequence.specs.Calls.{State}
use Rattle.eventsequence.specs.Sequence.{Answers, Answered}
use Rattle.eventsequence.proofs.Confirming.{confirming_valid}
use Rattle.eventsequence.proofs.ReadBack.{nothing_read}
use Rattle.eventsequence.proofs.Sending.{answering, sending, answer, dominants, nothing_fill}
use Rattle.eventsequence.proofs.Winner.{Wins, Decides, none_wins, one_wins, contending, decides, id_low, only_the_idle}

none_or_some : (events : List Queued) → (events ≡ []) ⊎ (0 < length events)
none_or_some [] = inl refl
none_or_some (e ∷ es) = inr (omega arith)

module _ (request : EventRequest) (t : Table) (q : Queues) where
  abbrev place : ℕ
  place = answering request t q

  abbrev dominant : ℕ
  dominant = (poll_contest request t q).dominant

  abbrev id : ℕ
  id = get_or t.addresses place 0

  counted : length (queue q place) ≡ count_of q place
  counted = queued_length (count_of q place) (slots_of q.slots place)

  heard_none : devices t ≤ place → poll_heard request t q ≡ silence
  unfolding poll_heard
  heard_none over = ap (λ (b : Bool). pick b (sent_by request t q dominant place) silence) (le-ltb place (devices t) over)

  heard_there : place < devices t → poll_heard request t q ≡ sent_by request t q dominant place
  unfolding poll_heard
  heard_there there = ap (λ (b : Bool). pick b (sent_by request t q dominant place) silence) (lt-ltb place (devices t) there)

  heard_idle : place < devices t → queue q place ≡ [] → poll_heard request t q ≡ nothing dominant id
  unfolding sent_by
  heard_idle there none = heard_there there ∙ ap (λ (b : Bool). pick b (nothing dominant id) (answer request t q)) (eq-eqb (count_of q place) 0 (sym counted ∙ ap length none))

  heard_busy : place < devices t → 0 < length (queue q place) → poll_heard request t q ≡ answer request t q
  unfolding sent_by
  heard_busy there some =
      heard_there there ∙ ap (λ (b : Bool). pick b (nothing dominant id) (answer request t q)) (ne_eqb (count_of q place) 0 (λ none. let z : ⊥ = omega (arith, counted) in z))

  -- where one wins with nothing queued, no other that contends has anything
  all_idle : valid_queues t q ≡ true → Wins request t q place dominant → queue q place ≡ []
      → (device : ℕ) → device < devices t → contending request t q device ≡ true → queue q device ≡ []
  all_idle v w none device there c =
      ⊎_elim (λ same. ap (queue q) same ∙ none)
      (λ apart. only_the_idle id (get_or t.addresses device 0) (queue q device) (id_low request t q v device there)
      (subst (λ (events : List Queued). marker_of events * 256 + id < marker_of (queue q device) * 256 + get_or t.addresses device 0) none (w.smallest device there c apart)))
      (same_or_not device place)

module _ (request : EventRequest) (now : State) (v : valid_queues now.table now.queues ≡ true) where
  abbrev t : Table
  t = now.table

  abbrev q : Queues
  q = after_confirming request t now.queues

  answers : Wins request t q (answering request t q) (poll_contest request t q).dominant → Answers request now (answering request t q)
  answers w =
      record {
        there = w.there;
        in_contest = w.in_contest;
        smallest = w.smallest;
        idle = λ none. heard_idle request t q w.there none ∙ ap (λ (n : ℕ). nothing n (id request t q)) w.windows;
        busy = λ some. (
          flag_of q (answering request t q),
          count_of q (answering request t q),
          sending request t q,
          heard_busy request t q w.there some
              ∙ ap (λ (n : ℕ). packet n (id request t q) (flag_of q (answering request t q)) (count_of q (answering request t q)) (sending request t q)) w.windows,
        );
      }

  read : (dominant id : ℕ) → poll_heard request t q ≡ nothing dominant id → (dominant ≡ dominants request t q) × (read_events (heard_bytes (nothing dominant id)) ≡ Ok (Nothing dominant))
  read dominant id heard =
      let fill = nothing_fill request t q dominant id heard in
      (fill.0, nothing_read dominant id (omega (arith, fill.1)))

  by_contest : Decides request t q (poll_contest request t q) → Answered request now
  by_contest (none_wins over none) =
      record {
        by_one = λ device there c. true_not_false c (none device there);
        by_none = λ nobody. heard_none request t q over;
        silent = λ heard. none;
        nothing_queued = λ dominant id heard device there c. true_not_false c (none device there);
        nothing_read = read;
      }
  by_contest (one_wins w) =
      record {
        by_one = λ device there c. (answering request t q, answers w);
        by_none = λ nobody. true_not_false w.in_contest (nobody (answering request t q) w.there);
        silent = λ heard device there. absurd (⊎_elim
            (λ none. let said = heard_idle request t q w.there none in cc)
            (λ some. let said = heard_busy request t q w.there some in cc)
            (none_or_some (queue q (answering request t q))));
        nothing_queued = λ dominant id heard. ⊎_elim (all_idle request t q (confirming_valid request t now.queues v) w)
            (λ some. let said = heard_busy request t q w.there some in cc)
            (none_or_some (queue q (answering request t q)));
        nothing_read = read;
      }

  pub answered : Answered request now
  answered = by_contest (decides request t q (confirming_valid request t now.queues v))
