-- The laws of any framing at the scan frames, for any two subcommands that a reader takes: a frame is read back behind any
-- bytes, and what was read is that frame.
-- Assumes nothing.
use mathlib.Core.Path.{◌≡◌, refl, sym, ap, ◌∙◌, subst}
use mathlib.Core.Bool.{Bool, true, false, ◌||◌}
use mathlib.Core.List.{List, [], ◌∷◌, ◌++◌}
use Prim.Native.Nat.{ℕ, ◌+◌}
use native.Mathlib.Omega.{arith}
use lib.Dec.{eqb}
use lib.ListN.{length, drop}
use borrow.Author.Tests.{eqb-true}
use Rattle.lists.specs.Tests.{same}
use Rattle.lists.proofs.All.{same_self, same_is}
use Rattle.framing.specs.Framing.{body, frame, framed, passed, framed_at}
use Rattle.framing.specs.Layout.{shortest, length_for, check_bytes, scan_framing, scan_first}
use Rattle.framing.proofs.Framing.{Sound, frame_read_back, exact, frame_exact, given_first}
use Rattle.framing.proofs.CheckBehind.{length_closed}

-- ---- what is written is read back

-- a frame with a subcommand that the reader takes, and with as many bytes as it carries
pub scan_read_back : (one other s : ℕ) (before carried : List ℕ) → (eqb s one || eqb s other) ≡ true → eqb (length carried + shortest) (length_for s) ≡ true
    → framed_at (scan_framing one other) (before ++ frame (scan_framing one other) scan_first s carried) (length before) ≡ framed scan_first s carried
unfolding passed frame check_bytes
scan_read_back one other s before carried takes fits =
    frame_read_back (scan_framing one other) before scan_first s carried (record { width = refl; marked = refl; taken = takes; fitting = fits }) refl
    (same_self (check_bytes (body scan_first s carried))) (omega (arith, length_closed (body scan_first s carried)))

-- ---- what is accepted is what would be written

-- no other check bytes pass
scan_check : (bytes check : List ℕ) → same check (check_bytes bytes) ≡ true → check ≡ check_bytes bytes
scan_check bytes check e = same_is check (check_bytes bytes) e

-- what was read is a frame with a subcommand that the reader takes, and as many bytes as it carries
module _ (one other : ℕ) (input : List ℕ) (at : ℕ) (first : List ℕ) (s : ℕ) (carried : List ℕ)
    (read : framed_at (scan_framing one other) input at ≡ framed first s carried) where
  pub scan_sound : Sound (scan_framing one other) first s carried
  scan_sound = (exact (scan_framing one other) (omega arith) input at first s carried read).sound

  pub scan_carries : length carried + shortest ≡ length_for s
  scan_carries = eqb-true (length carried + shortest) (length_for s) scan_sound.fitting

  pub scan_exact : drop at input ≡ frame (scan_framing one other) scan_first s carried
  scan_exact =
      frame_exact (scan_framing one other) (omega arith) input at first s carried read scan_check
      ∙ ap (λ (l : List ℕ). frame (scan_framing one other) l s carried) (given_first scan_first first (s ∷ carried) scan_sound.width scan_sound.marked)

-- what holds of the two subcommands that a reader takes holds of each that it accepts
pub taken_both : (P : ℕ → Type 0) (one other s : ℕ) → P one → P other → (eqb s one || eqb s other) ≡ true → P s
taken_both P one other s p q e = by (eqb s one) refl e
  where
    by : (t : Bool) → eqb s one ≡ t → (t || eqb s other) ≡ true → P s
    by true is e = subst P (sym (eqb-true s one is)) p
    by false is e = subst P (sym (eqb-true s other e)) q

-- a frame that carries nothing
pub nothing : (carried : List ℕ) → length carried + shortest ≡ shortest → carried ≡ []
nothing [] e = refl
nothing (x ∷ xs) e = let z : ⊥ = omega arith in absurd z
