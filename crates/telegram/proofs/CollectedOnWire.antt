-- What was collected stood on the wire, and what stands on the wire is collected.
-- Assumes nothing.
use Rattle.std.specs.Prelude.{Result, Ok, Err}
use Rattle.refusal.specs.declared.Refusal.{Refusal}
use mathlib.Core.Path.{◌≡◌, refl, sym, ap, ◌∙◌, subst}
use mathlib.Core.Bool.{Bool}
use mathlib.Core.List.{List, [], ◌∷◌, ◌++◌, append_assoc, append-nil}
use Prim.Native.Nat.{ℕ, zero, suc, ◌+◌, ◌≤◌}
use native.Mathlib.Omega.{arith}
use lib.Dec.{eqb}
use lib.ListN.{length, drop, length-append, length-drop}
use borrow.Author.Tests.{eqb-true, eq-eqb}
use Rattle.lists.specs.Choice.{pick}
use Rattle.lists.proofs.Cases.{pick_cases}
use Rattle.refusal.specs.Number.{at_place}
use Rattle.escapes.specs.Escape.{escaped, expanded}
use Rattle.escapes.specs.Logical.{logical_at}
use Rattle.escapes.proofs.LogicalBytes.{Stands, logical_stands}
use Rattle.escapes.proofs.EscapeRoundTrip.{read_back}
use Rattle.telegram.specs.Telegram.{field_at, fault_of, Telegram, read, unread, on_byte, collected}

-- no byte is faulty, the first of them being at this place of the telegram
abbrev pub Fine : Bool → ℕ → List ℕ → Type 0
Fine command place [] = Unit {0}
Fine command place (b ∷ bs) = (fault_of (field_at command place) b ≡ 0) × Fine command (suc place) bs

-- one byte more is one place on
longer : (so_far : List ℕ) (b : ℕ) → length (so_far ++ b ∷ []) ≡ suc (length so_far)
longer so_far b = omega (arith, length-append so_far (b ∷ []))

-- ---- soundness

pub record Gather (command : Bool) (run : List ℕ) (n : ℕ) (so_far : List ℕ) (at : ℕ) (s : List ℕ) (x : ℕ) : Type 0 where
  pub new : List ℕ
  pub bytes : s ≡ so_far ++ new
  pub count : length new ≡ n
  pub fine : Fine command (length so_far) new
  pub wire : drop at run ≡ expanded new ++ drop x run
  pub ends : x ≡ at + length (expanded new)
  pub within : at ≤ length run → x ≤ length run

abbrev pub Gathered : Bool → List ℕ → ℕ → List ℕ → ℕ → Telegram → Type 0
Gathered command run n so_far at (read s l x) = Gather command run n so_far at s x
Gathered command run n so_far at (unread why) = Unit {0}

-- one byte in front of what was gathered behind it
in_front_lem : (command : Bool) (run : List ℕ) (n : ℕ) (so_far : List ℕ) (at b next : ℕ) → Stands run at (Ok (b, next)) → fault_of (field_at command (length so_far)) b ≡ 0
    → (t : Telegram) → Gathered command run n (so_far ++ b ∷ []) next t → Gathered command run (suc n) so_far at t
unfolding expanded
in_front_lem command run n so_far at b next s fault (unread why) g = tt
in_front_lem command run n so_far at b next s fault (read bs l x) g =
    let whole : drop at run ≡ escaped b ++ (expanded g.new ++ drop x run) = s.2 ∙ ap (λ (r : List ℕ). escaped b ++ r) g.wire in
    let long = ap length s.2 ∙ length-append (escaped b) (drop next run) in
    record {
      new = b ∷ g.new;
      bytes = g.bytes ∙ append_assoc so_far (b ∷ []) g.new;
      count = ap suc g.count;
      fine = (fault, subst (λ (k : ℕ). Fine command k g.new) (longer so_far b) g.fine);
      wire = whole ∙ sym (append_assoc (escaped b) (expanded g.new) (drop x run));
      ends = omega (arith, g.ends, length-append (escaped b) (expanded g.new), long, length-drop at run, length-drop next run, s.0, s.1);
      within = λ h. g.within s.1;
    }

by_logical : (command : Bool) (run : List ℕ) (n : ℕ) (so_far : List ℕ) (at : ℕ) (rest : ℕ → ℕ → Telegram)
    → ((b next : ℕ) → Gathered command run n (so_far ++ b ∷ []) next (rest b next))
    → (l : Result (ℕ × ℕ) Refusal) → Stands run at l → Gathered command run (suc n) so_far at (on_byte (field_at command (length so_far)) at l rest)
by_logical command run n so_far at rest rec (Err why) s = tt
by_logical command run n so_far at rest rec (Ok (b, next)) s =
    let fault = fault_of (field_at command (length so_far)) b in
    pick_cases (Gathered command run (suc n) so_far at) (eqb fault 0) (rest b next) (unread (at_place fault at))
    (λ t. in_front_lem command run n so_far at b next s (eqb-true _ _ t) (rest b next) (rec b next)) (λ t. tt)

pub gathered : (command : Bool) (run : List ℕ) (n : ℕ) (so_far : List ℕ) (last at : ℕ) → Gathered command run n so_far at (collected command run n so_far last at)
unfolding collected expanded
gathered command run zero so_far last at =
    record { new = []; bytes = sym (append-nil so_far); count = refl; fine = tt; wire = refl; ends = omega arith; within = λ h. h }
gathered command run (suc n) so_far last at =
    by_logical command run n so_far at (λ b next. collected command run n (so_far ++ b ∷ []) at next)
    (λ b next. gathered command run n (so_far ++ b ∷ []) at next) (logical_at run at) (logical_stands run at)

pub gathered_read : (command : Bool) (run : List ℕ) (n : ℕ) (so_far : List ℕ) (last at : ℕ) (s : List ℕ) (l x : ℕ)
    → collected command run n so_far last at ≡ read s l x → Gather command run n so_far at s x
gathered_read command run n so_far last at s l x e = subst (Gathered command run n so_far at) e (gathered command run n so_far last at)

-- ---- completeness

pub record Found (command : Bool) (run new so_far : List ℕ) (last at : ℕ) (rest : List ℕ) : Type 0 where
  pub place : ℕ
  pub next : ℕ
  pub is : collected command run (length new) so_far last at ≡ read (so_far ++ new) place next
  pub behind : drop next run ≡ rest

pub found : (command : Bool) (run new so_far : List ℕ) (last at : ℕ) (rest : List ℕ) → Fine command (length so_far) new → drop at run ≡ expanded new ++ rest
    → Found command run new so_far last at rest
unfolding collected expanded
found command run [] so_far last at rest fine wire =
    record { place = last; next = at; is = ap (λ (s : List ℕ). read s last at) (sym (append-nil so_far)); behind = wire }
found command run (b ∷ bs) so_far last at rest fine wire =
    let back = read_back run at b (expanded bs ++ rest) (wire ∙ append_assoc (escaped b) (expanded bs) rest) in
    let then = found command run bs (so_far ++ b ∷ []) at back.0 rest (subst (λ (k : ℕ). Fine command k bs) (sym (longer so_far b)) fine.1) back.2 in
    let field = field_at command (length so_far) in
    record {
      place = then.place;
      next = then.next;
      is =
          ap (λ (l : Result (ℕ × ℕ) Refusal). on_byte field at l (λ b next. collected command run (length bs) (so_far ++ b ∷ []) at next)) back.1
          ∙ ap (λ t. pick t (collected command run (length bs) (so_far ++ b ∷ []) at back.0) (unread (at_place (fault_of field b) at))) (eq-eqb _ _ fine.0)
          ∙ then.is
          ∙ ap (λ (s : List ℕ). read s then.place then.next) (append_assoc so_far (b ∷ []) bs);
      behind = then.behind;
    }
