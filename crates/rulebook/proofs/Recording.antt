-- A recording with its idle beginning: where its command starts, and that it is accepted exactly when the rule book has it.
-- Assumes nothing.
use mathlib.Core.Path.{◌≡◌, refl, sym, ap, ◌∙◌, subst}
use mathlib.Core.Bool.{true}
use mathlib.Core.List.{List, [], ◌∷◌, ◌++◌, append_assoc}
use mathlib.Core.Logic.{⊎_elim}
use Prim.Native.Nat.{ℕ, zero, suc, ◌+◌, ◌-◌, ◌≤◌, ◌<◌}
use native.Mathlib.Omega.{arith}
use lib.ListN.{length, get_or, take, drop, length-append, length-take, take-append-drop}
use lib.Seq.{take-suc, take-add, drop-append_seam, take-append-add}
use Rattle.lists.proofs.Cases.{same_or_not}
use Rattle.refusal.specs.Number.{syn_early, at_place}
use Rattle.escapes.specs.Escape.{esc, syn}
use Rattle.addresses.specs.declared.ExchangeKind.{ExchangeKind}
use Rattle.beginning.specs.Beginning.{piece, behind_pieces, command_start}
use Rattle.beginning.proofs.Pieces.{Begins, no_piece, alone as begins_alone, escape as begins_escape, source as begins_source, source_escape as begins_source_escape, begins, is_alone, is_escape, is_source, is_source_escape, in_range}
use Rattle.beginning.proofs.Begun.{none_left, one_left, start_none, start_size, start_behind}
use Rattle.attempts.specs.Attempt.{Attempt}
use Rattle.exchange.specs.Exchange.{accepted, rejected, on_first, on_command, tries_at, exchange_at, exchange, limit}
use Rattle.exchange.proofs.Restarting.{last_place, piece_fails}
use Rattle.rulebook.specs.Rules.{Idle, nothing, syn_alone, escape, source, source_escape}
use Rattle.rulebook.specs.Demand2.{Recorded}
use Rattle.rulebook.proofs.RuleBook.{rules_accepted, accepted_by_rules}

-- ---- idle time

-- the command starts behind it
idle_start : {before : List ℕ} → Idle before → (tail : List ℕ) → piece tail ≡ 0 → command_start (before ++ tail) ≡ length before
idle_start nothing tail none = start_none tail none
idle_start (syn_alone {raw} more) tail none =
    start_behind (syn ∷ []) (raw ++ tail) (omega arith) (is_alone syn 0 0 refl) ∙ omega (arith, idle_start more tail none)
idle_start (escape {raw} more) tail none =
    start_behind (esc ∷ syn ∷ []) (raw ++ tail) (omega arith) (is_escape esc syn 0 refl refl) ∙ omega (arith, idle_start more tail none)
idle_start (source {s} {raw} h more) tail none =
    start_behind (s ∷ syn ∷ []) (raw ++ tail) (omega arith) (is_source s syn 0 h refl) ∙ omega (arith, idle_start more tail none)
idle_start (source_escape {s} {raw} h more) tail none =
    start_behind (s ∷ esc ∷ syn ∷ []) (raw ++ tail) (omega arith) (is_source_escape s esc syn h refl refl) ∙ omega (arith, idle_start more tail none)

-- a piece and idle time behind it
one_piece : (run rest : List ℕ) → Idle rest → {n : ℕ} → Begins (get_or run 0 0) (get_or run 1 0) (get_or run 2 0) n → Idle (take n run ++ rest)
one_piece run rest more no_piece = more
one_piece run rest more (begins_alone e) =
    let first : take 1 run ≡ syn ∷ [] = take-suc run 0 0 (in_range run 0 syn e (omega arith)) ∙ ap (λ (x : ℕ). x ∷ []) e in
    subst (λ (l : List ℕ). Idle (l ++ rest)) (sym first) (syn_alone more)
one_piece run rest more (begins_escape e f) =
    let near = in_range run 1 syn f (omega arith) in
    let two : take 2 run ≡ get_or run 0 0 ∷ get_or run 1 0 ∷ [] = take-suc run 1 0 near ∙ ap (λ (l : List ℕ). l ++ get_or run 1 0 ∷ []) (take-suc run 0 0 (omega (arith, near))) in
    subst (λ (l : List ℕ). Idle (l ++ rest)) (sym (two ∙ ap (λ (x : ℕ). x ∷ get_or run 1 0 ∷ []) e ∙ ap (λ (x : ℕ). esc ∷ x ∷ []) f)) (escape more)
one_piece run rest more (begins_source h f) =
    let near = in_range run 1 syn f (omega arith) in
    let two : take 2 run ≡ get_or run 0 0 ∷ get_or run 1 0 ∷ [] = take-suc run 1 0 near ∙ ap (λ (l : List ℕ). l ++ get_or run 1 0 ∷ []) (take-suc run 0 0 (omega (arith, near))) in
    subst (λ (l : List ℕ). Idle (l ++ rest)) (sym (two ∙ ap (λ (x : ℕ). get_or run 0 0 ∷ x ∷ []) f)) (source h more)
one_piece run rest more (begins_source_escape h f g) =
    let near = in_range run 2 syn g (omega arith) in
    let two : take 2 run ≡ get_or run 0 0 ∷ get_or run 1 0 ∷ [] =
    take-suc run 1 0 (omega (arith, near)) ∙ ap (λ (l : List ℕ). l ++ get_or run 1 0 ∷ []) (take-suc run 0 0 (omega (arith, near))) in
    let three : take 3 run ≡ get_or run 0 0 ∷ get_or run 1 0 ∷ get_or run 2 0 ∷ [] = take-suc run 2 0 near ∙ ap (λ (l : List ℕ). l ++ get_or run 2 0 ∷ []) two in
    subst (λ (l : List ℕ). Idle (l ++ rest)) (sym (three ∙ ap (λ (x : ℕ). get_or run 0 0 ∷ x ∷ get_or run 2 0 ∷ []) f ∙ ap (λ (x : ℕ). get_or run 0 0 ∷ esc ∷ x ∷ []) g)) (source_escape h more)

-- and what stands before the command is idle
idle_before : (n : ℕ) (run : List ℕ) → Idle (take (behind_pieces n run) run)
unfolding behind_pieces
idle_before zero run = nothing
idle_before (suc n) run =
    ⊎_elim (λ (none : piece run ≡ 0). subst (λ (k : ℕ). Idle (take k run)) (sym (none_left (suc n) run none)) nothing)
    (λ (some : piece run ≡ 0 → ⊥).
    let rest = drop (piece run) run in
    subst (λ (l : List ℕ). Idle l) (sym (ap (λ (k : ℕ). take k run) (one_left n run some) ∙ take-add (piece run) (behind_pieces n rest) run))
    (one_piece run (take (behind_pieces n rest) rest) (idle_before n rest) (begins (get_or run 0 0) (get_or run 1 0) (get_or run 2 0))))
    (same_or_not (piece run) 0)

-- ---- the exchange behind it

-- an accepted exchange begins with no piece
not_idle : (run : List ℕ) (kind : ExchangeKind) (a b n : ℕ) (command first second : List ℕ) → exchange_at run 0 ≡ accepted kind a b n command first second → piece run ≡ 0
unfolding exchange_at tries_at
not_idle run kind a b n command first second e =
    ⊎_elim (λ (none : piece run ≡ 0). none)
    (λ (some : piece run ≡ 0 → ⊥).
    let fails : exchange_at run 0 ≡ rejected (at_place syn_early (last_place run)) =
    ap (λ (x : Attempt). on_command run (on_first true run x)) (piece_fails run (let h : 0 < piece run = omega (arith, some) in h)) in
    let z : ◌≡◌ {A = ℕ} 0 1 = cc in
    let g : ⊥ = omega arith in
    absurd g)
    (same_or_not (piece run) 0)

module _ (run : List ℕ) (kind : ExchangeKind) (a b n : ℕ) (command first second : List ℕ) where
  pub accepted_recorded : exchange run ≡ accepted kind a b n command first second → Recorded run kind a b n command first second
  accepted_recorded e =
      let at = command_start run in
      let found = accepted_by_rules run at kind a b n command first second e in
      let whole : run ≡ take at run ++ (found.0 ++ drop n run) = sym (take-append-drop at run) ∙ ap (λ (l : List ℕ). take at run ++ l) found.2 in
      let start : length (take at run) ≡ at = length-take at run ∙ omega (arith, start_size run) in
      record {
        before = take at run;
        raw = found.0;
        rest = drop n run;
        idle = idle_before (length run) run;
        by_rules = found.1;
        whole = whole;
        ends = found.3 ∙ ap (λ (k : ℕ). k + length found.0) (sym start);
      }

  pub recorded_accepted : Recorded run kind a b n command first second → exchange run ≡ accepted kind a b n command first second
  recorded_accepted r =
      let tail = r.raw ++ r.rest in
      let alone_accepted = rules_accepted tail 0 kind a b command first second r.raw r.rest r.by_rules refl in
      let none = not_idle tail kind a b (0 + length r.raw) command first second alone_accepted in
      let start : command_start run ≡ length r.before = ap command_start r.whole ∙ idle_start r.idle tail none in
      let there : drop (length r.before) run ≡ tail = ap (drop (length r.before)) r.whole ∙ drop-append_seam r.before tail in
      ap (exchange_at run) start
      ∙ rules_accepted run (length r.before) kind a b command first second r.raw r.rest r.by_rules there
      ∙ ap (λ (k : ℕ). accepted kind a b k command first second) (sym r.ends)

-- ---- the bytes that are read

module _ (run : List ℕ) (kind : ExchangeKind) (a b n : ℕ) (command first second : List ℕ) where
  -- what is recorded in the bytes that are read is recorded in the run
  pub recorded_longer : Recorded (take limit run) kind a b n command first second → Recorded run kind a b n command first second × (n ≤ limit)
  recorded_longer r =
      let more = drop limit run in
      let tail = r.raw ++ r.rest in (
        record {
          before = r.before;
          raw = r.raw;
          rest = r.rest ++ more;
          idle = r.idle;
          by_rules = r.by_rules;
          whole =
              sym (take-append-drop limit run) ∙ ap (λ (l : List ℕ). l ++ more) r.whole ∙ append_assoc r.before tail more
              ∙ ap (λ (l : List ℕ). r.before ++ l) (append_assoc r.raw r.rest more);
          ends = r.ends;
        },
        omega (arith, r.ends, ap length r.whole, length-append r.before tail, length-append r.raw r.rest, length-take limit run),
      )

  -- and the other way round, if it ends within them
  pub recorded_read : Recorded run kind a b n command first second → n ≤ limit → Recorded (take limit run) kind a b n command first second
  recorded_read r within =
      let left = limit - n in
      let all : limit ≡ length r.before + (length r.raw + left) = omega (arith, r.ends, within) in
      record {
        before = r.before;
        raw = r.raw;
        rest = take left r.rest;
        idle = r.idle;
        by_rules = r.by_rules;
        whole =
            ap (take limit) r.whole ∙ ap (λ (k : ℕ). take k (r.before ++ (r.raw ++ r.rest))) all
            ∙ take-append-add r.before (r.raw ++ r.rest) (length r.raw + left)
            ∙ ap (λ (l : List ℕ). r.before ++ l) (take-append-add r.raw r.rest left);
        ends = r.ends;
      }
