-- A run from any state: what is in hand of an attempt, and what is read of the run.
-- Assumes nothing.
use mathlib.Core.Path.{◌≡◌, sym, ap, ◌∙◌, subst}
use mathlib.Core.List.{List}
use Prim.Native.Nat.{ℕ, ◌+◌, ◌-◌, ◌≤◌, ◌<◌, min}
use native.Mathlib.Omega.{arith}
use lib.Dec.{ltb}
use lib.ListN.{length, take}
use Rattle.lists.specs.Choice.{pick}
use Rattle.exchange.specs.Exchange.{limit}
use Rattle.listening.specs.declared.Listening.{Listening}
use Rattle.listening.specs.declared.Fed.{Fed}
use Rattle.listening.specs.Listening.{syn_due, nothing_due, hand_room, in_hand_now, listened, fed}
use Rattle.listening.proofs.Undecided.{hand_size}
use Rattle.feeding.specs.declared.marks.Marks.{Marks}
use Rattle.feeding.specs.Inner.{marks_of, state_of}
use Rattle.feeding.proofs.Begun.{begun_due, begun_within, begun_long, begun}
use Rattle.feeding.proofs.Feeding.{read_long, read_from, read_bound, feeding_all}

module _ (s : Listening) (size : length s.raw ≡ hand_room) (run : List ℕ) (end n hand : ℕ) (end_is : end ≡ min limit (s.start + min s.held hand_room))
    (n_is : n ≡ min (limit - end) (length run)) (some : n ≡ 0 → ⊥) (hand_is : hand ≡ pick (ltb s.due syn_due) (min s.held hand_room) 0) where
  -- the bytes in hand, and those of the run that are read
  abbrev bytes : List ℕ
  bytes = take hand s.raw

  abbrev part : List ℕ
  part = take n run

  pub part_long : length part ≡ n
  part_long = read_long s size run n end end_is n_is

  pub part_some : 0 < length part
  part_some = omega (arith, part_long, some)

  pub bytes_long : length bytes ≡ hand
  bytes_long = begun_long s size hand hand_is

  pub hand_most : hand ≤ hand_room
  hand_most = omega (arith, begun_within s size hand hand_is, hand_size s size)

  from : end ≡ s.start + length (take s.held s.raw)
  from = read_from s size run n end end_is n_is some

  pub hand_before : hand ≤ end
  hand_before = omega (arith, from, begun_within s size hand hand_is)

  -- the marks that go on
  module _ (m : Marks) (m_is : m ≡ marks_of s (end - hand)) where
    pub marks_due : (length bytes ≡ 0 → ⊥) → m.due < syn_due
    marks_due there = subst (λ (x : Marks). x.due < syn_due) (sym m_is) (begun_due s size hand hand_is (λ e. there (bytes_long ∙ e)))

    pub marks_far : m.start + length bytes + length part ≤ limit
    marks_far =
        let start : m.start ≡ end - hand = ap (λ (x : Marks). x.start) m_is in
        omega (arith, start, hand_before, bytes_long, part_long, from, read_bound s size run n end end_is n_is some)

    pub fed_all : s.due < nothing_due → (f : Fed) → f ≡ listened (in_hand_now (state_of m s.kept) bytes) part → f ≡ fed s run
    fed_all undone f is =
        feeding_all s size run n end end_is n_is f
        (is
        ∙ ap (λ (x : Marks). listened (in_hand_now (state_of x s.kept) bytes) part) m_is
        ∙ begun s size hand hand_is undone end from part part_some)
