-- Rule E4: a logical byte of a raw run, at an absolute position, and those from a position on.
-- Assumes nothing.
use Rattle.std.specs.Prelude.{ℕ, zero, suc, ◌+◌, List, [], ◌∷◌, eqb, ltb, length, get_or, Result, Ok, Err}
use Rattle.lists.specs.Choice.{pick}
use Rattle.refusal.specs.Number.{run_ended, escape_wrong, syn_early, at_place}
use Rattle.refusal.specs.Numbers.{Numbers, accepted_with, refused_with}
use Rattle.refusal.specs.declared.Refusal.{Refusal}
use Rattle.escapes.specs.Escape.{esc, syn}

-- the byte and the position behind it, as numbers
abbrev pub logical_numbers : Result (ℕ × ℕ) Refusal → Numbers
logical_numbers (Ok (b, next)) = accepted_with (b ∷ next ∷ [])
logical_numbers (Err why) = refused_with why

-- rule N4, number 3: the run is over where a byte was due. Its place is the run's length
abbrev pub run_over : List ℕ → Refusal
run_over run = at_place run_ended (length run)

-- rule E4: behind A9, 00 makes A9 and 01 makes AA; AA is SYN here too, number 5; any other byte is number 4
unfoldable pub escape_at : List ℕ → ℕ → Result (ℕ × ℕ) Refusal
escape_at run at =
    pick (ltb at (length run))
    (pick (eqb (get_or run at 0) 0x00) (Ok (esc, (at + 1)))
    (pick (eqb (get_or run at 0) 0x01) (Ok (syn, (at + 1)))
    (pick (eqb (get_or run at 0) syn) (Err (at_place syn_early at)) (Err (at_place escape_wrong at)))))
    (Err (run_over run))

-- rule E4: A9 begins an escape, whose faults come first; AA is SYN where another byte was due; all else stands for itself
unfoldable pub logical_at : List ℕ → ℕ → Result (ℕ × ℕ) Refusal
logical_at run at =
    pick (ltb at (length run))
    (pick (eqb (get_or run at 0) esc) (escape_at run (at + 1))
    (pick (eqb (get_or run at 0) syn) (Err (at_place syn_early at)) (Ok ((get_or run at 0), (at + 1)))))
    (Err (run_over run))

-- a logical byte and what follows it; nothing where there is none
abbrev pub and_then : Result (ℕ × ℕ) Refusal → (ℕ → List ℕ) → List ℕ
and_then (Ok (b, next)) rest = b ∷ rest next
and_then (Err why) rest = []

-- n logical bytes from a position on, or those before the first refusal
unfoldable pub logicals_at : List ℕ → ℕ → ℕ → List ℕ
logicals_at run zero at = []
logicals_at run (suc n) at = and_then (logical_at run at) (logicals_at run n)
