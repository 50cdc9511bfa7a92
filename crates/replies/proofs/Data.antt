-- Laws of a reply's data: whether a buffer holds it, which part it is, and what is returned for that part.
-- Assumes nothing.
use mathlib.Core.Path.{◌≡◌, refl, sym, ap, ◌∙◌}
use mathlib.Core.Bool.{true, false, ◌&&◌}
use mathlib.Core.List.{List, []}
use Prim.Native.Nat.{ℕ, ◌+◌, ◌-◌, ◌≤◌}
use native.Mathlib.Omega.{arith}
use lib.Dec.{leb}
use lib.ListN.{length, get_or, take, drop}
use borrow.Author.Tests.{le-leb, leb-true, eq-eqb, ne_eqb}
use Rattle.lists.proofs.Cases.{both_first, both_second}
use Rattle.telegram.specs.Telegram.{longest}
use Rattle.replies.specs.Data.{holds_data, behind_length, empty_start, part_in, part_of, shown, reply_data, part_place, ShowsData}

module _ (buffer : List ℕ) where
  abbrev size : ℕ
  size = get_or buffer 0 0

  -- data that stands whole behind its length is held
  pub holds : 1 ≤ length buffer → size ≤ longest → 1 + size ≤ length buffer → holds_data buffer ≡ true
  unfolding holds_data
  holds some short within = simp (le-leb _ _ some, le-leb _ _ short, le-leb _ _ within)

  -- data that is held ends within the buffer
  pub held_within : holds_data buffer ≡ true → (1 ≤ length buffer) × (1 + size ≤ length buffer)
  unfolding holds_data
  held_within t =
      let inner = both_second (leb 1 (length buffer)) (leb size longest && leb (1 + size) (length buffer)) t in
      (leb-true _ _ (both_first (leb 1 (length buffer)) (leb size longest && leb (1 + size) (length buffer)) t), leb-true _ _ (both_second (leb size longest) (leb (1 + size) (length buffer)) inner))

-- ---- the part

-- of a buffer that holds data, and of one that does not
pub part_held : (attempt : ℕ) (buffer : List ℕ) → holds_data buffer ≡ true → part_in attempt buffer ≡ behind_length attempt buffer
part_held attempt buffer held = simp held

pub part_none : (attempt : ℕ) (buffer : List ℕ) → holds_data buffer ≡ false → part_in attempt buffer ≡ empty_start
part_none attempt buffer none = simp none

module _ (first second : List ℕ) (attempt : ℕ) where
  pub asked_first : attempt ≡ 1 → part_of first second attempt ≡ part_in 1 first
  unfolding part_of
  asked_first one = simp (eq-eqb _ _ one)

  pub asked_second : (attempt ≡ 1 → ⊥) → attempt ≡ 2 → part_of first second attempt ≡ part_in 2 second
  unfolding part_of
  asked_second other two = simp (ne_eqb _ _ other, eq-eqb _ _ two)

  pub no_attempt : (attempt ≡ 1 → ⊥) → (attempt ≡ 2 → ⊥) → part_of first second attempt ≡ empty_start
  unfolding part_of
  no_attempt other another = simp (ne_eqb _ _ other, ne_eqb _ _ another)

  -- ---- what is returned for it

  module _ (p q : ℕ × ℕ) where
    -- the bytes of a buffer from 1 to LEN + 1
    behind : (buffer : List ℕ) → take (get_or buffer 0 0 + 1 - 1) (drop 1 buffer) ≡ take (get_or buffer 0 0) (drop 1 buffer)
    behind buffer = let same : get_or buffer 0 0 + 1 - 1 ≡ get_or buffer 0 0 = omega arith in ap (λ (k : ℕ). take k (drop 1 buffer)) same

    pub shows_first : part_of first second attempt ≡ behind_length 1 first
        → ShowsData first second p q attempt (p.0, 1 + p.1) (take (get_or first 0 0 + 1 - 1) (drop 1 first))
    unfolding reply_data
    shows_first is = record { stands = ap (part_place p q) (sym is); holds = behind first ∙ ap (shown first second) (sym is) }

    pub shows_second : part_of first second attempt ≡ behind_length 2 second
        → ShowsData first second p q attempt (q.0, 1 + q.1) (take (get_or second 0 0 + 1 - 1) (drop 1 second))
    unfolding reply_data
    shows_second is = record { stands = ap (part_place p q) (sym is); holds = behind second ∙ ap (shown first second) (sym is) }

    pub shows_nothing : part_of first second attempt ≡ empty_start → ShowsData first second p q attempt p []
    unfolding reply_data
    shows_nothing is = record { stands = same ∙ ap (part_place p q) (sym is); holds = ap (shown first second) (sym is) }
      where
        same : p ≡ (p.0, 0 + p.1)
        same = let e : p.1 ≡ 0 + p.1 = omega arith in ap (λ (k : ℕ). (p.0, k)) e

-- the data of the first attempt, and of the second
module _ (first second : List ℕ) where
  pub first_whole : 1 ≤ length first → size first ≤ longest → 1 + size first ≤ length first → reply_data first second 1 ≡ take (size first) (drop 1 first)
  unfolding reply_data
  first_whole some short within = ap (shown first second) (asked_first first second 1 refl ∙ part_held 1 first (holds first some short within))

  pub second_whole : 1 ≤ length second → size second ≤ longest → 1 + size second ≤ length second → reply_data first second 2 ≡ take (size second) (drop 1 second)
  unfolding reply_data
  second_whole some short within = ap (shown first second) (asked_second first second 2 (λ e. omega arith) refl ∙ part_held 2 second (holds second some short within))

  pub without_reply : reply_data first second 0 ≡ []
  unfolding reply_data
  without_reply = ap (shown first second) (no_attempt first second 0 (λ e. omega arith) (λ e. omega arith))
