-- Laws of reading logical bytes one after another.
-- Assumes nothing.
use Rattle.std.specs.Prelude.{Result, Ok, Err}
use mathlib.Core.Path.{◌≡◌, refl, sym, ap, ap₂, ◌∙◌, subst}
use mathlib.Core.List.{List, [], ◌∷◌, ◌++◌}
use mathlib.Core.Bool.{Bool, true, false}
use Prim.Native.Nat.{ℕ, zero, suc, ◌+◌, ◌-◌, ◌≤◌, ◌<◌, min}
use native.Mathlib.Omega.{arith}
use lib.Dec.{eqb, ltb, leb}
use lib.ListN.{length, get_or, take, drop, set, length-drop}
use lib.Seq.{length-take-le, take_all}
use borrow.Author.Tests.{lt-ltb, le-ltb, ltb-true, leb-true, leb-false, eqb-true, eqb-false}
use Rattle.lists.specs.Starting.{starting}
use Rattle.lists.proofs.Cases.{pick_cases}
use Rattle.lists.proofs.Filling.{drop_next, head_within, head_is, rest_is, written_on, first_more, length_starting}
use Rattle.refusal.specs.Output.{Output, bytes, refused, written}
use Rattle.refusal.specs.declared.Refusal.{Refusal}
use Rattle.escapes.specs.Escape.{esc, syn, escaped}
use Rattle.escapes.proofs.Escaped.{escaped_plain}
use Rattle.escapes.specs.Logical.{escape_at, logical_at, and_then, logicals_at}
use Rattle.escapes.specs.Undo.{before, with_rest, undone_from, undone}

-- ---- what a logical byte says of the raw bytes: it takes at least one, none behind the end, and stands there escaped

abbrev pub Stands : List ℕ → ℕ → Result (ℕ × ℕ) Refusal → Type 0
Stands run at (Ok (b, next)) = (at < next) × (next ≤ length run) × (drop at run ≡ escaped b ++ drop next run)
Stands run at (Err why) = Unit {0}

-- the same of the second half of an escape, with the A9 before it
abbrev Follows : List ℕ → ℕ → Result (ℕ × ℕ) Refusal → Type 0
Follows run at (Ok (b, next)) = (at < next) × (next ≤ length run) × (esc ∷ drop at run ≡ escaped b ++ drop next run)
Follows run at (Err why) = Unit {0}

escape_follows : (run : List ℕ) (at : ℕ) → Follows run at (escape_at run at)
unfolding escape_at escaped
escape_follows run at =
    let x = get_or run at 0 in
    let F = Follows run at in
    pick_cases F (ltb at (length run)) _ _
    (λ t.
    let h : at < length run = ltb-true at (length run) t in
    let as_is : (b : ℕ) → x ≡ b → esc ∷ drop at run ≡ esc ∷ b ∷ drop (at + 1) run =
    λ b e. ap (λ (l : List ℕ). esc ∷ l) (drop_next run at h ∙ ap (λ (y : ℕ). y ∷ drop (at + 1) run) e) in
    pick_cases F (eqb x 0x00) _ _ (λ e. (omega arith, omega arith, as_is 0x00 (eqb-true x 0x00 e)))
    (λ _. pick_cases F (eqb x 0x01) _ _ (λ e. (omega arith, omega arith, as_is 0x01 (eqb-true x 0x01 e)))
    (λ _. pick_cases F (eqb x syn) _ _ (λ _. tt) (λ _. tt))))
    (λ _. tt)

whole_escape : (run : List ℕ) (at : ℕ) → drop at run ≡ esc ∷ drop (at + 1) run → (l : Result (ℕ × ℕ) Refusal) → Follows run (at + 1) l → Stands run at l
whole_escape run at e (Ok (b, next)) f = (omega arith, f.1, e ∙ f.2)
whole_escape run at e (Err why) f = tt

pub logical_stands : (run : List ℕ) (at : ℕ) → Stands run at (logical_at run at)
unfolding logical_at
logical_stands run at =
    let x = get_or run at 0 in
    let S = Stands run at in
    pick_cases S (ltb at (length run)) _ _
    (λ t.
    let h : at < length run = ltb-true at (length run) t in
    pick_cases S (eqb x esc) _ _
    (λ e. whole_escape run at (drop_next run at h ∙ ap (λ (y : ℕ). y ∷ drop (at + 1) run) (eqb-true x esc e)) (escape_at run (at + 1)) (escape_follows run (at + 1)))
    (λ no_esc. pick_cases S (eqb x syn) _ _ (λ _. tt)
    (λ no_syn. (
      omega arith,
      omega arith,
      drop_next run at h ∙ ap (λ (l : List ℕ). l ++ drop (at + 1) run) (sym (escaped_plain x (eqb-false x esc no_esc) (eqb-false x syn no_syn))),
    ))))
    (λ _. tt)

-- a byte that was read
pub stands : (run : List ℕ) (at b next : ℕ) → logical_at run at ≡ Ok (b, next) → Stands run at (Ok (b, next))
stands run at b next e = subst (Stands run at) e (logical_stands run at)

-- ---- n logical bytes have been read: the input has n fewer to come

module _ (raw : List ℕ) (n at : ℕ) where
  pub none_left : length raw ≤ at → (m : ℕ) → undone_from raw m at ≡ bytes []
  unfolding undone_from
  none_left h zero = refl
  none_left h (suc m) = simp (le-ltb _ _ h)

  module _ (read : n ≤ at) (more : at < length raw) where
    turn : undone_from raw (length raw - n) at ≡ with_rest (logical_at raw at) (undone_from raw (length raw - (n + 1)))
    unfolding undone_from
    turn =
        let one : length raw - n ≡ suc (length raw - (n + 1)) = omega arith in
        ap (λ (m : ℕ). undone_from raw m at) one ∙ simp (lt-ltb _ _ more)

    pub turn_byte : (b next : ℕ) → logical_at raw at ≡ Ok (b, next) → undone_from raw (length raw - n) at ≡ before b (undone_from raw (length raw - (n + 1)) next)
    turn_byte b next e = turn ∙ ap (λ (l : Result (ℕ × ℕ) Refusal). with_rest l (undone_from raw (length raw - (n + 1)))) e

    pub turn_refused : (why : Refusal) → logical_at raw at ≡ Err why → undone_from raw (length raw - n) at ≡ refused why
    turn_refused why e = turn ∙ ap (λ (l : Result (ℕ × ℕ) Refusal). with_rest l (undone_from raw (length raw - (n + 1)))) e

-- ---- the written, with n bytes counted already

abbrev pub counted : ℕ → Output → Result ℕ Refusal
counted n (bytes bs) = Ok (n + length bs)
counted n (refused why) = Err why

pub counted_none : (o : Output) → counted 0 o ≡ written o
counted_none (bytes bs) = ap Ok (omega arith)
counted_none (refused why) = refl

pub counted_one : (n b : ℕ) (o : Output) → counted n (before b o) ≡ counted (n + 1) o
counted_one n b (bytes bs) = ap Ok (omega arith)
counted_one n b (refused why) = refl

-- ---- what an accepted input has behind its first byte

pub before_bytes : (b : ℕ) (o : Output) (l : List ℕ) → before b o ≡ bytes l → (o ≡ bytes (drop 1 l)) × (l ≡ b ∷ drop 1 l)
before_bytes b (bytes bs) l e =
    let same : b ∷ bs ≡ l = cc in
    (ap (λ (x : List ℕ). bytes (drop 1 x)) same, sym same ∙ ap (λ (x : List ℕ). b ∷ drop 1 x) same)
before_bytes b (refused why) l e = let z : ◌≡◌ {A = ℕ} 0 1 = cc in let f : ⊥ = omega arith in absurd f

-- ---- the logical bytes from a position on

-- an accepted input's logical bytes are those from its start
behind_byte : (raw : List ℕ) (rest : ℕ → Output) (m at : ℕ) (bs : List ℕ)
    → ((next : ℕ) (cs : List ℕ) → rest next ≡ bytes cs → logicals_at raw (length cs) next ≡ cs)
    → (l : Result (ℕ × ℕ) Refusal) → logical_at raw at ≡ l → with_rest l rest ≡ bytes bs → logicals_at raw (length bs) at ≡ bs
unfolding logicals_at
behind_byte raw rest m at bs then (Err why) is e = let z : ◌≡◌ {A = ℕ} 0 1 = cc in let f : ⊥ = omega arith in absurd f
behind_byte raw rest m at bs then (Ok (b, next)) is e =
    let parts = before_bytes b (rest next) bs e in
    ap (λ (l : List ℕ). logicals_at raw (length l) at) parts.1
    ∙ ap (λ (l : Result (ℕ × ℕ) Refusal). and_then l (logicals_at raw (length (drop 1 bs)))) is
    ∙ ap (λ (l : List ℕ). b ∷ l) (then next (drop 1 bs) parts.0)
    ∙ sym parts.1

from_there : (raw : List ℕ) (m at : ℕ) (bs : List ℕ) → undone_from raw m at ≡ bytes bs → logicals_at raw (length bs) at ≡ bs
unfolding undone_from logicals_at
from_there raw zero at bs e = let none : [] ≡ bs = cc in ap (λ (l : List ℕ). logicals_at raw (length l) at) (sym none) ∙ none
from_there raw (suc m) at bs e =
    pick_cases (λ (o : Output). o ≡ bytes bs → logicals_at raw (length bs) at ≡ bs) (ltb at (length raw)) _ _
    (λ _ e. behind_byte raw (undone_from raw m) m at bs (λ next cs f. from_there raw m next cs f) (logical_at raw at) refl e)
    (λ _ e. let none : [] ≡ bs = cc in ap (λ (l : List ℕ). logicals_at raw (length l) at) (sym none) ∙ none) e

pub undone_logicals : (raw bs : List ℕ) → undone raw ≡ bytes bs → logicals_at raw (length bs) 0 ≡ bs
unfolding undone
undone_logicals raw bs e = from_there raw (length raw) 0 bs e

-- one turn of the loop that puts them: what the next logical byte makes of those to come
module _ (run : List ℕ) (n at : ℕ) (due : 0 < n) where
  by_logical : (l : Result (ℕ × ℕ) Refusal) → logical_at run at ≡ l → logicals_at run n at ≡ and_then l (logicals_at run (n - 1))
  unfolding logicals_at
  by_logical l e =
      let one : n ≡ suc (n - 1) = omega arith in
      ap (λ (m : ℕ). logicals_at run m at) one ∙ ap (λ (x : Result (ℕ × ℕ) Refusal). and_then x (logicals_at run (n - 1))) e

  pub next_logical : (b next : ℕ) → logical_at run at ≡ Ok (b, next) → logicals_at run n at ≡ b ∷ logicals_at run (n - 1) next
  next_logical b next e = by_logical (Ok (b, next)) e

  pub no_logical : (why : Refusal) → logical_at run at ≡ Err why → logicals_at run n at ≡ []
  no_logical why e = by_logical (Err why) e

pub none_due : (run : List ℕ) (n at : ℕ) → n ≤ 0 → logicals_at run n at ≡ []
unfolding logicals_at
none_due run n at h =
    let none : n ≡ 0 = omega arith in
    ap (λ (m : ℕ). logicals_at run m at) none

-- n logical bytes are due, of which the output starts with the first i, as far as it holds them
pub record Putting (run old out : List ℕ) (n at i next : ℕ) : Type 0 where
  pub within : i ≤ length (logicals_at run n at)
  pub held : i ≤ length old
  pub rest : drop i (logicals_at run n at) ≡ logicals_at run (n - i) next
  pub output : out ≡ starting (take i (logicals_at run n at)) old

module _ (run old out : List ℕ) (n at i next : ℕ) (p : Putting run old out n at i next) where
  pub putting_length : length out ≡ length old
  putting_length =
      let all = logicals_at run n at in
      let short : length (take i all) ≡ i = length-take-le i all p.within in
      ap length p.output ∙ length_starting (take i all) old (omega (arith, p.held))

  -- the output is full
  pub put_full : length old ≤ i → out ≡ starting (take (length old) (logicals_at run n at)) old
  put_full h =
      let all : i ≡ length old = omega (arith, p.held) in
      p.output ∙ ap (λ (k : ℕ). starting (take k (logicals_at run n at)) old) all

  -- none is left
  pub put_over : logicals_at run (n - i) next ≡ [] → out ≡ starting (take (length old) (logicals_at run n at)) old
  put_over none =
      let all = logicals_at run n at in
      let gone : length all ≤ i = omega (arith, length-drop i all, ap length (p.rest ∙ none)) in
      p.output ∙ ap (λ (l : List ℕ). starting l old) (take_all i all gone ∙ sym (take_all (length old) all (omega (arith, p.held))))

  -- all turns are done
  pub put_done : min n (length old) ≤ i → out ≡ starting (take (length old) (logicals_at run n at)) old
  put_done done = by (leb n i) refl
    where
      by : (t : Bool) → leb n i ≡ t → out ≡ starting (take (length old) (logicals_at run n at)) old
      by true e = put_over (none_due run (n - i) next (omega (arith, leb-true n i e)))
      by false e = put_full (omega (arith, leb-false n i e, done))

  -- one more
  pub put_next : i < n → i < length old → (b behind : ℕ) → logical_at run next ≡ Ok (b, behind) → Putting run old (set out i b) n at (i + 1) behind
  put_next more room b behind e =
      let all = logicals_at run n at in
      let due : drop i all ≡ b ∷ logicals_at run (n - i - 1) behind = p.rest ∙ next_logical run (n - i) next (omega arith) b behind e in
      let h : i < length all = head_within all i b _ due in
      let less : n - i - 1 ≡ n - (i + 1) = omega arith in
      record {
        within = omega arith;
        held = omega arith;
        rest = rest_is all i b _ due ∙ ap (λ (m : ℕ). logicals_at run m behind) less;
        output =
            ap₂ (λ (l : List ℕ) (x : ℕ). set l i x) p.output (sym (head_is all i b _ due))
            ∙ written_on (take i all) old (get_or all i 0) i (length-take-le i all (omega arith)) room
            ∙ ap (λ (l : List ℕ). starting l old) (first_more all i h);
      }
