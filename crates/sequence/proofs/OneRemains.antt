-- No two devices remain after the last window: their keys differ. The one that does answers.
-- Assumes nothing.
use Rattle.std.specs.Prelude.{Ok}
use mathlib.Core.Path.{◌≡◌, refl, sym, ap, ap₂, ◌∙◌, subst}
use mathlib.Core.Bool.{Bool, true, false}
use mathlib.Core.List.{List, [], ◌∷◌, ◌++◌}
use Prim.Native.Nat.{ℕ, zero, suc, ◌≤◌, ◌<◌, ◌^◌}
use native.Mathlib.Omega.{arith}
use lib.Dec.{eqb}
use lib.ListN.{length, get_or, replicate}
use borrow.Author.Tests.{eq-eqb, ne_eqb}
use Rattle.lists.specs.Choice.{pick}
use Rattle.lists.specs.Tests.{keep, position}
use Rattle.arbitration.specs.Contest.{remaining, dominant_windows, contending, decided}
use Rattle.arbitration.specs.declared.Decided.{Decided}
use Rattle.arbitration.proofs.Contenders.{all_contend, dominant_le}
use Rattle.arbitration.proofs.SmallestWins.{contest_law, some_smallest}
use Rattle.answers.specs.Layout.{found_frame, end_frame}
use Rattle.answers.specs.Reading.{fill, most_fill, read_answer}
use Rattle.answers.specs.declared.AnswerRead.TheVariants.{Found as FoundRead, End as EndRead}
use Rattle.answers.proofs.RoundTrip.{found_read_back, end_read_back}
use Rattle.requests.specs.declared.Request.{Request}
use Rattle.table.specs.Table.{Table, devices, valid, serial_limit}
use Rattle.turns.specs.Request.{key, keys, windows, contest, contend, standing, respond}
use Rattle.devices.specs.Calls.{answer_bytes}
use Rattle.turns.specs.declared.Answer.{Answer}
use Rattle.turns.specs.declared.Answer.TheVariants.{Found, End}
use Rattle.turns.proofs.Keys.{same_serial, keys_length, keys_at}
use Rattle.table.proofs.Meaning.{tested, serial_below, same_device}
use Rattle.turns.proofs.Winner.{key_at, keys_below}
use Rattle.turns.proofs.TurnCases.{place_inside, not_silent}
use Rattle.turns.proofs.TurnKeeps.{standing_valid, standing_devices}
use Rattle.sequence.specs.Sequence.{Contested, serial_at, address_at, mark_at}

-- of numbers that differ, one equals m
none_equal : (m : ℕ) (xs : List ℕ) → ((i : ℕ) → i < length xs → get_or xs i 0 ≡ m → ⊥) → keep (eqb m) xs ≡ []
unfolding keep
none_equal m [] other = refl
none_equal m (x ∷ xs) other =
    ap (λ (b : Bool). pick b (x ∷ keep (eqb m) xs) (keep (eqb m) xs)) (ne_eqb m x (λ e. other 0 (omega arith) (sym e)))
    ∙ none_equal m xs (λ i h. other (suc i) (omega arith))

one_equal : (m : ℕ) (xs : List ℕ) → ((i j : ℕ) → i < length xs → j < length xs → get_or xs i 0 ≡ get_or xs j 0 → i ≡ j)
    → (p : ℕ) → p < length xs → get_or xs p 0 ≡ m → keep (eqb m) xs ≡ m ∷ []
unfolding keep
one_equal m [] differ p h e = let z : ⊥ = omega arith in absurd z
one_equal m (x ∷ xs) differ zero h e =
    ap (λ (b : Bool). pick b (x ∷ keep (eqb m) xs) (keep (eqb m) xs)) (eq-eqb m x (sym e))
    ∙ ap₂ (λ (a : ℕ) (l : List ℕ). a ∷ l) e (none_equal m xs (λ i lt same. let q : suc i ≡ 0 = differ (suc i) 0 (omega arith) (omega arith) (same ∙ sym e) in omega arith))
one_equal m (x ∷ xs) differ (suc p) h e =
    ap (λ (b : Bool). pick b (x ∷ keep (eqb m) xs) (keep (eqb m) xs))
    (ne_eqb m x (λ same. let q : suc p ≡ 0 = differ (suc p) 0 (omega arith) (omega arith) (e ∙ same) in omega arith))
    ∙ one_equal m xs (λ i j hi hj same. let q : suc i ≡ suc j = differ (suc i) (suc j) (omega arith) (omega arith) same in omega arith) p (omega arith) e

module _ (t : Table) (v : valid t ≡ true) (somebody : 0 < devices t) where
  -- every key has 32 bits, so all devices contend
  all_do : contending windows (keys t) ≡ keys t
  all_do = all_contend windows (keys t) (keys_below t (tested t v))

  one_remains : remaining windows (keys t) ≡ key (mark_at t (contest t).place) (serial_at t (contest t).place) ∷ []
  one_remains =
      let g = tested t v in
      let size : length (keys t) ≡ devices t = keys_length t.serials t.marks g.marks_long in
      let at = keys_at t.serials t.marks g.marks_long in
      let found = some_smallest (keys t) (omega arith) in
      let m = found.0 in
      let s = found.1 in
      let differ : (i j : ℕ) → i < length (keys t) → j < length (keys t) → get_or (keys t) i 0 ≡ get_or (keys t) j 0 → i ≡ j =
      λ i j hi hj e. same_device t g i j (omega arith) (omega arith)
      (same_serial 0 15 (omega arith) (omega arith) (get_or t.marks i 0) (get_or t.marks j 0) (get_or t.serials i 0) (get_or t.serials j 0)
      (serial_below t g i (omega arith)) (serial_below t g j (omega arith)) (sym (at i (omega arith)) ∙ e ∙ at j (omega arith))) in
      let won = contest_law windows (keys t) m s (subst (λ (k : ℕ). k < 2 ^ windows) s.there (keys_below t g s.place s.inside)) in
      let here : (contest t).place ≡ position m (keys t) = ap (λ (d : Decided). d.place) won.decides in
      let mine : m ≡ key_at t (contest t).place =
      sym won.there ∙ ap (λ (i : ℕ). get_or (keys t) i 0) (sym here) ∙ at (contest t).place (omega (arith, won.inside)) in
      ap (remaining windows) (sym all_do) ∙ won.those ∙ one_equal m (keys t) differ s.place s.inside s.there ∙ ap (λ (k : ℕ). k ∷ []) mine

  dominant_is : (contest t).dominant ≡ dominant_windows windows (keys t)
  unfolding decided
  dominant_is = ap (dominant_windows windows) all_do

  -- the bytes of either answer
  either_bytes : (b : Bool) (d serial address : ℕ) → answer_bytes (pick b (Found d serial address) (End d)) ≡ replicate d fill ++ pick b (found_frame serial address) end_frame
  unfolding answer_bytes
  either_bytes true d serial address = refl
  either_bytes false d serial address = refl

  -- .. and what is read from them
  either_read : (b : Bool) (d serial address : ℕ) → d ≤ most_fill → serial < serial_limit
      → read_answer (answer_bytes (pick b (Found d serial address) (End d))) ≡ Ok (pick b (FoundRead d serial address) (EndRead d))
  unfolding answer_bytes
  either_read true d serial address few below = found_read_back d serial address few below
  either_read false d serial address few below = end_read_back d few

  alone : Contested t (contend t)
  alone =
      let some : devices t ≡ 0 → ⊥ = λ none. omega arith in
      let inside = place_inside t v some in
      let is =
      not_silent t some
      ∙ ap (λ (d : ℕ). pick (eqb (mark_at t (contest t).place) 0) (Found d (serial_at t (contest t).place) (address_at t (contest t).place)) (End d)) dominant_is in
      record {
        place = (contest t).place;
        inside = inside;
        alone = one_remains;
        answers = is;
        written = ap answer_bytes is ∙ either_bytes (eqb (mark_at t (contest t).place) 0) (dominant_windows windows (keys t)) (serial_at t (contest t).place) (address_at t (contest t).place);
        read = ap (λ (a : Answer). read_answer (answer_bytes a)) is
            ∙ either_read (eqb (mark_at t (contest t).place) 0) (dominant_windows windows (keys t)) (serial_at t (contest t).place) (address_at t (contest t).place)
            (dominant_le windows (keys t)) (serial_below t (tested t v) (contest t).place inside);
      }

pub contested : (request : Request) (t : Table) → valid t ≡ true → 0 < devices t → Contested (standing request t) (respond request t).answer
unfolding respond
contested request t v somebody =
    alone (standing request t) (standing_valid request t v) (omega (arith, standing_devices request t))
