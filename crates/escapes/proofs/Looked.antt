-- How far reading looks: the position behind the byte that decides an answer. On a run that ends before it the answer is the
-- refusal by the run's end, and on any longer one it is the same. Here for logical bytes; what reads telegrams and attempts
-- carries it on.
-- Assumes nothing.
use Rattle.std.specs.Prelude.{Result, Ok, Err}
use Rattle.refusal.specs.declared.Refusal.{Refusal}
use mathlib.Core.Path.{◌≡◌, refl, sym, ap, ◌∙◌, subst}
use mathlib.Core.Bool.{Bool, true, false}
use mathlib.Core.List.{List, ◌++◌}
use mathlib.Core.Logic.{◌⊎◌, inl, inr, ⊎_elim}
use Prim.Native.Nat.{ℕ, ◌+◌, ◌≤◌, ◌<◌}
use native.Mathlib.Omega.{arith}
use lib.Dec.{eqb, ltb}
use lib.ListN.{length, get_or, length-append, get_or-append}
use borrow.Author.Tests.{lt-ltb, le-ltb, ltb-true, ltb-false}
use Rattle.lists.specs.Choice.{pick}
use Rattle.lists.proofs.Cases.{pick_cases, le_or_lt}
use Rattle.refusal.specs.Number.{source_wrong, escape_wrong, syn_early, at_place}
use Rattle.escapes.specs.Escape.{esc, syn}
use Rattle.escapes.specs.Logical.{run_over, escape_at, logical_at}

-- ---- the claim, for any kind of answer

-- the answer now, on a run of n bytes, and the answer later, on a longer one, which is decided before position k
abbrev pub Looks : {A : Type 0} → ℕ → ℕ → A → A → A → Type 0
Looks {A} n k ended now later = ((now ≡ ended) × (n < k)) ⊎ ((later ≡ now) × (k ≤ n))

-- one raw byte is looked at
pub looks_byte : {A : Type 0} (looked : A → ℕ) (run more : List ℕ) (at : ℕ) (ended ended' : A) (f f' : ℕ → A)
    → ((b : ℕ) → at < length (run ++ more) → at < looked (f' b)) → length (run ++ more) < looked ended'
    → ((b : ℕ) → at < length run → Looks (length run) (looked (f' b)) ended (f b) (f' b))
    → Looks (length run) (looked (pick (ltb at (length (run ++ more))) (f' (get_or (run ++ more) at 0)) ended')) ended
    (pick (ltb at (length run)) (f (get_or run at 0)) ended) (pick (ltb at (length (run ++ more))) (f' (get_or (run ++ more) at 0)) ended')
looks_byte looked run more at ended ended' f f' behind over each =
    let b = get_or run at 0 in
    let b' = get_or (run ++ more) at 0 in
    let later = pick (ltb at (length (run ++ more))) (f' b') ended' in
    ⊎_elim
    (λ (h : length run ≤ at).
    inl (
      ap (λ t. pick t (f b) ended) (le-ltb at (length run) h),
      pick_cases (λ x. length run < looked x) (ltb at (length (run ++ more))) (f' b') ended' (λ t. omega (arith, behind b' (ltb-true _ _ t))) (λ _. omega (arith, over, length-append run more)),
    ))
    (λ (h : at < length run).
    let within : at < length (run ++ more) = omega (arith, length-append run more) in
    let now_is : pick (ltb at (length run)) (f b) ended ≡ f b = ap (λ t. pick t (f b) ended) (lt-ltb at (length run) h) in
    let later_is : later ≡ f' b =
    ap (λ t. pick t (f' b') ended') (lt-ltb at (length (run ++ more)) within) ∙ ap f' (get_or-append run more 0 at h) in
    subst (λ x. Looks (length run) (looked x) ended (pick (ltb at (length run)) (f b) ended) x) (sym later_is)
    (subst (λ x. Looks (length run) (looked (f' b)) ended x (f' b)) (sym now_is) (each b h)))
    (le_or_lt (length run) at)

-- ---- a logical byte

-- behind the byte that decides it
abbrev pub looked_byte : Result (ℕ × ℕ) Refusal → ℕ
looked_byte (Ok (b, next)) = next
looked_byte (Err why) = why.place + 1

-- where it stands, and how far it reaches: two raw bytes where it is escaped. Its own refusals are 3, 4 and 5
abbrev pub Reached : List ℕ → ℕ → Result (ℕ × ℕ) Refusal → Type 0
Reached run at (Ok (b, next)) = next ≡ at + 1 + pick (eqb (get_or run at 0) esc) 1 0
Reached run at (Err why) = (why.number < source_wrong) × (at ≤ length run → (at ≤ why.place) × (why.place ≤ at + 1)) × (0 < why.number)

-- the second half of an escape
abbrev Half : List ℕ → ℕ → Result (ℕ × ℕ) Refusal → Type 0
Half run at (Ok (b, next)) = next ≡ at + 1
Half run at (Err why) = (why.number < source_wrong) × (at ≤ length run → why.place ≡ at) × (0 < why.number)

half_reached : (run : List ℕ) (at : ℕ) → Half run at (escape_at run at)
unfolding escape_at
half_reached run at =
    let x = get_or run at 0 in
    let P = Half run at in
    pick_cases P (ltb at (length run)) _ _
    (λ _. pick_cases P (eqb x 0x00) _ _ (λ _. refl)
    (λ _. pick_cases P (eqb x 0x01) _ _ (λ _. refl)
    (λ _. pick_cases P (eqb x syn) _ _ (λ _. (omega arith, λ _. refl, omega arith)) (λ _. (omega arith, λ _. refl, omega arith)))))
    (λ t. (omega arith, λ (h : at ≤ length run). (let over = ltb-false at (length run) t in omega arith), omega arith))

whole_reached : (run : List ℕ) (at : ℕ) → at < length run → eqb (get_or run at 0) esc ≡ true → (l : Result (ℕ × ℕ) Refusal) → Half run (at + 1) l → Reached run at l
whole_reached run at within e (Ok (b, next)) h =
    let two : ◌≡◌ {A = ℕ} (pick (eqb (get_or run at 0) esc) 1 0) 1 = ap (λ (t : Bool). pick {A = ℕ} t 1 0) e in omega (arith, h, two)
whole_reached run at within e (Err why) h = (h.0, λ _. (let there = h.1 (omega arith) in (omega arith, omega arith)), h.2)

pub reached : (run : List ℕ) (at : ℕ) → Reached run at (logical_at run at)
unfolding logical_at
reached run at =
    let x = get_or run at 0 in
    let P = Reached run at in
    pick_cases P (ltb at (length run)) _ _
    (λ t.
    pick_cases P (eqb x esc) _ _ (λ e. whole_reached run at (ltb-true _ _ t) e (escape_at run (at + 1)) (half_reached run (at + 1)))
    (λ plain.
    let one : ◌≡◌ {A = ℕ} (pick (eqb x esc) 1 0) 0 = ap (λ (t : Bool). pick {A = ℕ} t 1 0) plain in
    pick_cases P (eqb x syn) _ _ (λ _. (omega arith, λ _. (omega arith, omega arith), omega arith)) (λ _. omega (arith, one))))
    (λ t. (omega arith, λ (h : at ≤ length run). (let over = ltb-false at (length run) t in (omega arith, omega arith)), omega arith))

-- what is known of it by its position alone
half_behind : (run : List ℕ) (at : ℕ) → at ≤ length run → (l : Result (ℕ × ℕ) Refusal) → Half run at l → at < looked_byte l
half_behind run at within (Ok (b, next)) h = omega (arith, h)
half_behind run at within (Err why) h = omega (arith, h.1 within)

module _ (run more : List ℕ) where
  half_looks : (at : ℕ) → Looks (length run) (looked_byte (escape_at (run ++ more) at)) (Err (run_over run)) (escape_at run at) (escape_at (run ++ more) at)
  unfolding escape_at
  half_looks at =
      let f : ℕ → Result (ℕ × ℕ) Refusal =
      λ b. pick (eqb b 0x00) (Ok (esc, (at + 1))) (pick (eqb b 0x01) (Ok (syn, (at + 1))) (pick (eqb b syn) (Err (at_place syn_early at)) (Err (at_place escape_wrong at)))) in
      let one : (b : ℕ) → looked_byte (f b) ≡ at + 1 =
      λ b.
      let P : Result (ℕ × ℕ) Refusal → Type 0 = λ l. looked_byte l ≡ at + 1 in
      pick_cases P (eqb b 0x00) _ _ (λ _. refl) (λ _. pick_cases P (eqb b 0x01) _ _ (λ _. refl) (λ _. pick_cases P (eqb b syn) _ _ (λ _. refl) (λ _. refl))) in
      looks_byte looked_byte run more at (Err (run_over run)) (Err (run_over (run ++ more))) f f
      (λ b _. omega (arith, one b)) (omega arith) (λ b h. inr (refl, omega (arith, one b)))

  pub logical_looks : (at : ℕ) → Looks (length run) (looked_byte (logical_at (run ++ more) at)) (Err (run_over run)) (logical_at run at) (logical_at (run ++ more) at)
  unfolding logical_at
  logical_looks at =
      let plain : ℕ → Result (ℕ × ℕ) Refusal = λ b. pick (eqb b syn) (Err (at_place syn_early at)) (Ok (b, (at + 1))) in
      let f : List ℕ → ℕ → Result (ℕ × ℕ) Refusal = λ r b. pick (eqb b esc) (escape_at r (at + 1)) (plain b) in
      let one : (b : ℕ) → looked_byte (plain b) ≡ at + 1 =
      λ b. pick_cases (λ l. looked_byte l ≡ at + 1) (eqb b syn) _ _ (λ _. refl) (λ _. refl) in
      looks_byte looked_byte run more at (Err (run_over run)) (Err (run_over (run ++ more))) (f run) (f (run ++ more))
      (λ b h.
      pick_cases (λ l. at < looked_byte l) (eqb b esc) _ _
      (λ _. let far = half_behind (run ++ more) (at + 1) (omega arith) (escape_at (run ++ more) (at + 1)) (half_reached (run ++ more) (at + 1)) in omega arith)
      (λ _. omega (arith, one b)))
      (omega arith)
      (λ b h. by_kind b h (eqb b esc))
    where
      by_kind : (b : ℕ) → at < length run → (t : Bool)
          → Looks (length run) (looked_byte (pick t (escape_at (run ++ more) (at + 1)) (pick (eqb b syn) (Err (at_place syn_early at)) (Ok (b, (at + 1)))))) (Err (run_over run))
          (pick t (escape_at run (at + 1)) (pick (eqb b syn) (Err (at_place syn_early at)) (Ok (b, (at + 1)))))
          (pick t (escape_at (run ++ more) (at + 1)) (pick (eqb b syn) (Err (at_place syn_early at)) (Ok (b, (at + 1)))))
      by_kind b h true = half_looks (at + 1)
      by_kind b h false =
          inr (refl, let one : looked_byte (pick (eqb b syn) (Err (at_place syn_early at)) (Ok (b, (at + 1)))) ≡ at + 1 = pick_cases (λ l. looked_byte l ≡ at + 1) (eqb b syn) _ _ (λ _. refl) (λ _. refl) in omega (arith, one))
