-- A walk over a capture meets every byte once.
-- Assumes nothing.
use mathlib.Core.Path.{◌≡◌, refl, sym, ap, ◌∙◌, subst}
use mathlib.Core.Bool.{Bool}
use mathlib.Core.List.{List, ◌++◌, append_assoc}
use mathlib.Core.Logic.{⊎_elim}
use Prim.Native.Nat.{ℕ, zero, suc, ◌+◌, ◌-◌, ◌≤◌, ◌<◌, min}
use native.Mathlib.Omega.{arith}
use lib.Dec.{eqb}
use lib.ListN.{length, take, drop, length-drop, take-append-drop, drop_of_length-le}
use lib.Seq.{drop-drop}
use borrow.Author.Tests.{eq-eqb, ne_eqb}
use Rattle.lists.specs.Choice.{pick}
use Rattle.lists.proofs.Cases.{le_or_lt, same_or_not}
use Rattle.beginning.specs.Beginning.{piece, command_start}
use Rattle.beginning.proofs.Begun.{start_size, started_there}
use Rattle.listening.specs.Listening.{fresh, fed}
use Rattle.captures.specs.declared.Stretch.{Stretch}
use Rattle.captures.specs.Capture.{through_syn, stretch_from, next_exchange}
use Rattle.captures.proofs.Through.{through_size, through_some}
use Rattle.capturewalk.specs.Walk.{Part, exchange_of, left_of, Walked, ends, meets, part_of, walk_from, bytes_of, Idle, OneExchange, Each, at_end, then, AnyCapture}
use Rattle.capturewalk.proofs.Stretches.{none_idle, idle_before, one_exchange}

module _ (capture : List ℕ) (at : ℕ) (within : at ≤ length capture) where
  abbrev left : List ℕ
  left = drop at capture

  abbrev start : ℕ
  start = at + command_start left

  abbrev rest : List ℕ
  rest = drop start capture

  abbrev end : ℕ
  end = start + through_syn rest

  abbrev met : Part
  met = part_of capture at (record { start = start; end = end })

  -- ---- one step

  abbrev Step : ℕ → Stretch → Walked
  Step n s = pick (eqb s.start s.end) (ends left) (meets (part_of capture at s) (walk_from n capture s.end))

  is_next : next_exchange capture at ≡ record { start = start; end = end }
  unfolding next_exchange
  is_next = ap (stretch_from capture) (let e : min at (length capture) ≡ at = omega (arith, within) in e)

  step : (n : ℕ) → walk_from (suc n) capture at ≡ pick (eqb start end) (ends left) (meets met (walk_from n capture end))
  unfolding walk_from
  step n = ap (Step n) is_next

  pub stops : (n : ℕ) → start ≡ end → walk_from (suc n) capture at ≡ ends left
  stops n e = step n ∙ ap (λ (t : Bool). pick t (ends left) (meets met (walk_from n capture end))) (eq-eqb start end e)

  pub goes_on : (n : ℕ) → (start ≡ end → ⊥) → walk_from (suc n) capture at ≡ meets met (walk_from n capture end)
  goes_on n e = step n ∙ ap (λ (t : Bool). pick t (ends left) (meets met (walk_from n capture end))) (ne_eqb start end e)

  -- ---- where it stands

  pub start_within : start ≤ length capture
  start_within = omega (arith, within, start_size left, length-drop at capture)

  pub end_within : end ≤ length capture
  end_within = omega (arith, start_within, through_size rest, length-drop start capture)

  -- ---- its bytes

  idle_is : met.idle ≡ take (command_start left) left
  idle_is = ap (λ (k : ℕ). take k left) (let e : start - at ≡ command_start left = omega arith in e)

  stretch_is : met.stretch ≡ take (through_syn rest) rest
  stretch_is = ap (λ (k : ℕ). take k rest) (let e : end - start ≡ through_syn rest = omega arith in e)

  met_is : met ≡ record { idle = take (command_start left) left; stretch = take (through_syn rest) rest; used = (fed fresh (take (through_syn rest) rest)).used }
  met_is =
      ap (λ (x : List ℕ). record { idle = x; stretch = met.stretch; used = (fed fresh met.stretch).used }) idle_is
      ∙ ap (λ (x : List ℕ). record { idle = take (command_start left) left; stretch = x; used = (fed fresh x).used }) stretch_is

  pub behind_is : drop (through_syn rest) rest ≡ drop end capture
  behind_is = drop-drop (through_syn rest) start capture

  rest_is : drop (command_start left) left ≡ rest
  rest_is = drop-drop (command_start left) at capture

  no_piece : piece rest ≡ 0
  no_piece = ap piece (sym rest_is) ∙ started_there left

  both_parts : (u : ℕ) (s more : List ℕ) → take u s ++ (drop u s ++ more) ≡ s ++ more
  both_parts u s more = sym (append_assoc (take u s) (drop u s) more) ∙ ap (λ (x : List ℕ). x ++ more) (take-append-drop u s)

  pub met_bytes : (more : List ℕ) → more ≡ drop end capture → met.idle ++ (exchange_of met ++ (left_of met ++ more)) ≡ left
  met_bytes more is =
      ap (λ (x : List ℕ). met.idle ++ x) (both_parts met.used met.stretch more)
      ∙ ap (λ (x : List ℕ). met.idle ++ (x ++ more)) stretch_is
      ∙ ap (λ (x : List ℕ). met.idle ++ (take (through_syn rest) rest ++ x)) (is ∙ sym behind_is)
      ∙ ap (λ (x : List ℕ). met.idle ++ x) (take-append-drop (through_syn rest) rest)
      ∙ ap (λ (x : List ℕ). x ++ rest) idle_is
      ∙ ap (λ (x : List ℕ). take (command_start left) left ++ x) (sym rest_is)
      ∙ take-append-drop (command_start left) left

  -- ---- nothing is left but idle time, or there is an exchange

  pub only_idle : start ≡ end → Idle left
  only_idle e =
      ⊎_elim (λ (none : length rest ≤ 0). omega (arith, none, length-drop start capture, start_within, length-drop at capture, within))
      (λ (some : 0 < length rest). let some_through = through_some rest some in let f : ⊥ = omega (arith, e, some_through) in absurd f)
      (le_or_lt (length rest) 0)

  some_left : (start ≡ end → ⊥) → 0 < length rest
  some_left e =
      ⊎_elim (λ (none : length rest ≤ 0). let f : ⊥ = e (let z : start ≡ end = omega (arith, none, through_size rest) in z) in absurd f)
      (λ (some : 0 < length rest). some)
      (le_or_lt (length rest) 0)

  pub moves_on : (start ≡ end → ⊥) → at < end
  moves_on e = omega (arith, through_some rest (some_left e))

  pub one : (start ≡ end → ⊥) → (behind : List ℕ) → behind ≡ drop end capture → OneExchange met behind
  one e behind is =
      subst (OneExchange met) (behind_is ∙ sym is)
      (subst (λ (p : Part). OneExchange p (drop (through_syn rest) rest)) (sym met_is) (one_exchange rest (some_left e) no_piece (take (command_start left) left) (idle_before left)))

-- ---- the whole walk

walked_bytes : (n : ℕ) (capture : List ℕ) (at : ℕ) → at ≤ length capture → bytes_of (walk_from n capture at) ≡ drop at capture
unfolding bytes_of walk_from
walked_bytes zero capture at within = refl
walked_bytes (suc n) capture at within =
    ⊎_elim (λ (e : start capture at within ≡ end capture at within). ap bytes_of (stops capture at within n e))
    (λ (e : start capture at within ≡ end capture at within → ⊥).
    ap bytes_of (goes_on capture at within n e)
    ∙ met_bytes capture at within (bytes_of (walk_from n capture (end capture at within))) (walked_bytes n capture (end capture at within) (end_within capture at within)))
    (same_or_not (start capture at within) (end capture at within))

walked_each : (n : ℕ) (capture : List ℕ) (at : ℕ) → at ≤ length capture → length capture ≤ at + n → Each (walk_from n capture at)
unfolding walk_from
walked_each zero capture at within enough =
    let far : length capture ≤ at = omega (arith, enough) in
    at_end (drop at capture) (subst Idle (sym (drop_of_length-le capture far)) none_idle)
walked_each (suc n) capture at within enough =
    ⊎_elim
    (λ (e : start capture at within ≡ end capture at within). subst Each (sym (stops capture at within n e)) (at_end (drop at capture) (only_idle capture at within e)))
    (λ (e : start capture at within ≡ end capture at within → ⊥).
    let next = end capture at within in
    let inside = end_within capture at within in
    let w = walk_from n capture next in
    subst Each (sym (goes_on capture at within n e))
    (then (met capture at within) w (one capture at within e (bytes_of w) (walked_bytes n capture next inside))
    (walked_each n capture next inside (omega (arith, enough, moves_on capture at within e)))))
    (same_or_not (start capture at within) (end capture at within))

pub any_capture : AnyCapture
any_capture capture =
    record {
      every_byte = walked_bytes (length capture) capture 0 (omega arith);
      each = walked_each (length capture) capture 0 (omega arith) (omega arith);
    }
