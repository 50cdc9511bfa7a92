-- Bytes that are thrown away: a piece of the beginning one byte after the other, and piece after piece; and that the attempt on them
-- is refused.
-- Assumes nothing.
use mathlib.Core.Path.{◌≡◌, refl, sym, ap, ◌∙◌, subst}
use mathlib.Core.Bool.{Bool, true}
use mathlib.Core.List.{List, [], ◌∷◌, ◌++◌, append_assoc}
use mathlib.Core.Logic.{⊎_elim}
use Prim.Native.Nat.{ℕ, zero, suc, ◌+◌, ◌-◌, ◌≤◌, ◌<◌}
use native.Mathlib.Omega.{arith}
use lib.Dec.{eqb, ltb}
use lib.ListN.{length, take, drop, length-append, length-drop, take-append-drop}
use lib.Seq.{drop-append-le, drop-drop}
use borrow.Author.Tests.{lt-ltb, eqb-true, ne_eqb}
use Rattle.lists.specs.Choice.{pick}
use Rattle.lists.proofs.Cases.{by_test, le_or_lt, same_or_not}
use Rattle.refusal.specs.Number.{syn_early, at_place}
use Rattle.escapes.specs.Logical.{run_over}
use Rattle.beginning.specs.Beginning.{piece, behind_pieces, command_start, passed_over}
use Rattle.beginning.proofs.Pieces.{piece_size, longer, shorter}
use Rattle.beginning.proofs.Begun.{none_left, one_left, passed_none, passed_some, passed_within, passed_size}
use Rattle.attempts.specs.Attempt.{Attempt, taken, nacked, failed, attempt_at}
use Rattle.exchange.proofs.Restarting.{last_place, piece_fails}
use Rattle.listening.specs.declared.Listening.{Listening}
use Rattle.listening.specs.declared.Fed.{Fed}
use Rattle.listening.specs.Listening.{first_command, first_reply, syn_due, in_hand, in_hand_now, goes_on, is_command, on_attempt, hear, after, listened}
use Rattle.listening.proofs.Undecided.{in_hand_now_lem}
use Rattle.listening.proofs.Restart.{restarts_of, restarts_not, not_yet}
use Rattle.feeding.specs.Inner.{thrown_by, begins_anew, unless_thrown}
use Rattle.feeding.proofs.AtOnce.{heard_with, NoRestart, first_byte, hears}

-- ---- one piece

-- the state behind so many bytes of the recording, with nothing in hand
abbrev pub anew : Listening → ℕ → Listening
anew s start = goes_on s start first_command

one_after : (j : ℕ) (f : Fed) → after 1 (after j f) ≡ after (suc j) f
one_after j f = ap (λ (k : ℕ). record { state = f.state; used = k }) (let e : 1 + (j + f.used) ≡ suc j + f.used = omega arith in e)

module _ (s : Listening) (first : s.due ≡ first_command) (hand : List ℕ) (is : in_hand s ≡ hand) (b : ℕ) where
  abbrev c : List ℕ
  c = hand ++ b ∷ []

  tries : ltb s.due syn_due ≡ true
  tries = lt-ltb s.due syn_due (omega (arith, first))

  heard_as : hear s b ≡ heard_with s c
  heard_as = hears s tries b ∙ ap (λ (h : List ℕ). heard_with s (h ++ b ∷ [])) is

  -- the byte ends the piece
  ends_piece : piece c ≡ length c → hear s b ≡ anew s (s.start + length c)
  ends_piece whole =
      heard_as ∙ ap (λ (t : Bool). pick t (anew s (s.start + length c)) (on_attempt s c (attempt_at (is_command s) c 0))) (restarts_of s c first whole)

  -- or it does not yet
  not_ended : attempt_at true c 0 ≡ failed (run_over c) → (piece c ≡ length c → ⊥) → hear s b ≡ in_hand_now s c
  not_ended undecided not_whole =
      heard_as
      ∙ ap (λ (t : Bool). pick t (anew s (s.start + length c)) (on_attempt s c (attempt_at (is_command s) c 0))) (restarts_not s c (λ _. not_whole))
      ∙ ap (λ (t : Bool). on_attempt s c (attempt_at t c 0)) (lt-ltb s.due first_reply (omega (arith, first)))
      ∙ ap (on_attempt s c) undecided

-- the bytes that end the piece in hand
pub thrown : (run : List ℕ) (s : Listening) → s.due ≡ first_command → (hand : List ℕ) → in_hand s ≡ hand → (j : ℕ) → piece (hand ++ run) ≡ length hand + suc j
    → listened s run ≡ after (suc j) (listened (anew s (s.start + length hand + suc j)) (drop (suc j) run))
thrown [] s first hand is j e = let f : ⊥ = omega (arith, e, piece_within) in absurd f
  where
    piece_within : piece (hand ++ []) ≤ length hand
    piece_within = omega (arith, piece_size (hand ++ []), length-append hand [])
thrown (b ∷ bs) s first hand is zero e =
    let c = hand ++ b ∷ [] in
    let one : length c ≡ length hand + 1 = length-append hand (b ∷ []) in
    let all : piece (c ++ bs) ≡ length c = ap piece (append_assoc hand (b ∷ []) bs) ∙ e ∙ omega (arith, one) in
    let whole : piece c ≡ length c = shorter c bs (omega (arith, all)) ∙ all in
    let start : s.start + length c ≡ s.start + length hand + 1 = omega (arith, one) in
    first_byte s (tries s first hand is b) b bs
    ∙ ap (λ (x : Listening). after 1 (listened x bs)) (ends_piece s first hand is b whole ∙ ap (anew s) start)
thrown (b ∷ bs) s first hand is (suc j) e =
    let c = hand ++ b ∷ [] in
    let one : length c ≡ length hand + 1 = length-append hand (b ∷ []) in
    let all : piece (c ++ bs) ≡ length c + suc j = ap piece (append_assoc hand (b ∷ []) bs) ∙ e ∙ omega (arith, one) in
    let undecided = not_yet c bs (omega (arith, all)) in
    let not_whole : piece c ≡ length c → ⊥ = λ w. let l = longer c bs (omega (arith, w, one)) in omega (arith, l, w, all) in
    let then = thrown bs (in_hand_now s c) first c (in_hand_now_lem s c) j all in
    let start : s.start + length c + suc j ≡ s.start + length hand + suc (suc j) = omega (arith, one) in
    first_byte s (tries s first hand is b) b bs
    ∙ ap (λ (x : Listening). after 1 (listened x bs)) (not_ended s first hand is b undecided not_whole)
    ∙ ap (after 1) then
    ∙ one_after (suc j) (listened (anew s (s.start + length c + suc j)) (drop (suc j) bs))
    ∙ ap (λ (k : ℕ). after (suc (suc j)) (listened (anew s k) (drop (suc j) bs))) start

-- ---- piece after piece

none_after : (s : Listening) (start k : ℕ) (run : List ℕ) → k ≡ 0 → listened (anew s start) run ≡ after k (listened (anew s (start + k)) (drop k run))
none_after s start k run z =
    let f = listened (anew s start) run in
    let used : f.used ≡ 0 + f.used = omega arith in
    let same : start ≡ start + 0 = omega arith in
    ap (λ (n : ℕ). record { state = f.state; used = n }) used
    ∙ ap (λ (n : ℕ). after 0 (listened (anew s n) run)) same
    ∙ ap (λ (n : ℕ). after n (listened (anew s (start + n)) (drop n run))) (sym z)

-- the pieces that a part of the run begins with
pieces_thrown : (n : ℕ) (r rest : List ℕ) (s : Listening) (start : ℕ)
    → listened (anew s start) (r ++ rest) ≡ after (behind_pieces n r) (listened (anew s (start + behind_pieces n r)) (drop (behind_pieces n r) (r ++ rest)))
unfolding behind_pieces
pieces_thrown zero r rest s start = none_after s start 0 (r ++ rest) refl
pieces_thrown (suc n) r rest s start =
    ⊎_elim (λ (e : piece r ≡ 0). none_after s start (behind_pieces (suc n) r) (r ++ rest) (none_left (suc n) r e))
    (λ (e : piece r ≡ 0 → ⊥).
    let p = piece r in
    let left = drop p r in
    let k = behind_pieces n left in
    let some : suc (p - 1) ≡ p = omega (arith, e) in
    let there : 0 < p = omega (arith, e) in
    let cut : drop p (r ++ rest) ≡ left ++ rest = drop-append-le p r rest (piece_size r) in
    let one : listened (anew s start) (r ++ rest) ≡ after p (listened (anew s (start + p)) (left ++ rest)) =
    thrown (r ++ rest) (anew s start) refl [] refl (p - 1) (omega (arith, there, longer r rest there))
    ∙ ap (λ (x : ℕ). after x (listened (anew s (start + 0 + x)) (drop x (r ++ rest)))) some
    ∙ ap (λ (l : List ℕ). after p (listened (anew s (start + 0 + p)) l)) cut
    ∙ ap (λ (x : ℕ). after p (listened (anew s x) (left ++ rest))) (let z : start + 0 + p ≡ start + p = omega arith in z) in
    let f = listened (anew s (start + p + k)) (drop k (left ++ rest)) in
    let sum : p + (k + f.used) ≡ p + k + f.used = omega arith in
    let far : start + p + k ≡ start + (p + k) = omega arith in
    one
    ∙ ap (after p) (pieces_thrown n left rest s (start + p))
    ∙ ap (λ (x : ℕ). record { state = f.state; used = x }) sum
    ∙ ap (λ (l : List ℕ). after (p + k) (listened (anew s (start + p + k)) (drop k l))) (sym cut)
    ∙ ap (λ (l : List ℕ). after (p + k) (listened (anew s (start + p + k)) l)) (drop-drop k p (r ++ rest))
    ∙ ap (λ (x : ℕ). after (p + k) (listened (anew s x) (drop (p + k) (r ++ rest)))) far
    ∙ ap (λ (x : ℕ). after x (listened (anew s (start + x)) (drop x (r ++ rest)))) (sym (one_left n r e)))
    (same_or_not (piece r) 0)

-- ---- with bytes in hand

module _ (s : Listening) (first : s.due ≡ first_command) (hand r : List ℕ) (i : ℕ) (is : i ≡ passed_over hand r) where
  abbrev ends : ℕ
  ends = piece (hand ++ r) - length hand

  -- nothing is thrown away
  pub none_passed : i ≡ 0 → NoRestart s hand r
  none_passed none _ =
      ⊎_elim (λ (h : piece (hand ++ r) ≤ length hand). h)
      (λ (h : length hand < piece (hand ++ r)). let some = passed_some hand r ends refl (λ e. omega (arith, e, h)) in let f : ⊥ = omega (arith, some, is, none, h) in absurd f)
      (le_or_lt (piece (hand ++ r)) (length hand))

  some_ends : (i ≡ 0 → ⊥) → ends ≡ 0 → ⊥
  some_ends some e = some (is ∙ passed_none hand r ends refl e)

  -- what is in hand is thrown away, and so many bytes of the run with it
  pub all_passed : (i ≡ 0 → ⊥) → (rest : List ℕ)
      → listened (in_hand_now s hand) (r ++ rest) ≡ after i (listened (anew s (s.start + length hand + i)) (drop i (r ++ rest)))
  all_passed some rest =
      let left = drop ends r in
      let k = command_start left in
      let there = some_ends some in
      let one : suc (ends - 1) ≡ ends = omega (arith, there) in
      let sum : i ≡ ends + k = is ∙ passed_some hand r ends refl there in
      let whole : piece (hand ++ (r ++ rest)) ≡ piece (hand ++ r) =
      ap piece (sym (append_assoc hand r rest)) ∙ longer (hand ++ r) rest (let h : 0 < piece (hand ++ r) = omega (arith, there) in h) in
      let cut : drop ends (r ++ rest) ≡ left ++ rest = drop-append-le ends r rest (passed_within hand r ends refl) in
      let from = s.start + length hand in
      let f = listened (anew s (from + ends + k)) (drop k (left ++ rest)) in
      thrown (r ++ rest) (in_hand_now s hand) first hand (in_hand_now_lem s hand) (ends - 1) (omega (arith, there, whole))
      ∙ ap (λ (x : ℕ). after x (listened (anew s (from + x)) (drop x (r ++ rest)))) one
      ∙ ap (λ (l : List ℕ). after ends (listened (anew s (from + ends)) l)) cut
      ∙ ap (after ends) (pieces_thrown (length left) left rest s (from + ends))
      ∙ ap (λ (x : ℕ). record { state = f.state; used = x }) (let z : ends + (k + f.used) ≡ ends + k + f.used = omega arith in z)
      ∙ ap (λ (l : List ℕ). after (ends + k) (listened (anew s (from + ends + k)) (drop k l))) (sym cut)
      ∙ ap (λ (l : List ℕ). after (ends + k) (listened (anew s (from + ends + k)) l)) (drop-drop k ends (r ++ rest))
      ∙ ap (λ (x : ℕ). after (ends + k) (listened (anew s x) (drop (ends + k) (r ++ rest)))) (let z : from + ends + k ≡ from + (ends + k) = omega arith in z)
      ∙ ap (λ (x : ℕ). after x (listened (anew s (from + x)) (drop x (r ++ rest)))) (sym sum)

-- ---- what is thrown away of the bytes that are there

-- an attempt that is not refused with number 5
abbrev NotEarly : Attempt → Type 0
NotEarly (taken t next) = Unit {0}
NotEarly (nacked t place) = Unit {0}
NotEarly (failed why) = why.number ≡ syn_early → ⊥

module _ (due : ℕ) (c : List ℕ) (held : ℕ) where
  abbrev thrown_here : ℕ
  thrown_here = thrown_by due c held

  -- something only before the first command
  pub thrown_first : (thrown_here ≡ 0 → ⊥) → (due ≡ first_command) × (thrown_here ≡ passed_over (take held c) (drop held c))
  thrown_first some =
      by_test (eqb due first_command)
      (λ y. (eqb-true due first_command y, ap (λ (t : Bool). pick t (passed_over (take held c) (drop held c)) 0) y))
      (λ y. absurd (some (ap (λ (t : Bool). pick t (passed_over (take held c) (drop held c)) 0) y)))

  -- no more than there is
  pub thrown_most : held ≤ length c → held + thrown_here ≤ length c
  thrown_most within =
      ⊎_elim (λ (z : thrown_here ≡ 0). omega (arith, z))
      (λ (some : thrown_here ≡ 0 → ⊥). omega (arith, (thrown_first some).1, passed_size (take held c) (drop held c), length-drop held c))
      (same_or_not thrown_here 0)

  -- a piece stands there, and so the attempt is refused with number 5
  thrown_fails : (thrown_here ≡ 0 → ⊥) → attempt_at (ltb due first_reply) c 0 ≡ failed (at_place syn_early (last_place c))
  thrown_fails some =
      let first = thrown_first some in
      let hand = take held c in
      let rest = drop held c in
      let ends = piece (hand ++ rest) - length hand in
      let there : ends ≡ 0 → ⊥ = λ e. some (first.1 ∙ passed_none hand rest ends refl e) in
      let begins : 0 < piece (hand ++ rest) = omega (arith, there) in
      ap (λ (t : Bool). attempt_at t c 0) (lt-ltb due first_reply (omega (arith, first.0)))
      ∙ piece_fails c (subst (λ (l : List ℕ). 0 < piece l) (take-append-drop held c) begins)

  -- any other attempt throws nothing away
  pub none_thrown : (a : Attempt) → a ≡ attempt_at (ltb due first_reply) c 0 → NotEarly a → thrown_here ≡ 0
  none_thrown a is other =
      ⊎_elim (λ (z : thrown_here ≡ 0). z) (λ (some : thrown_here ≡ 0 → ⊥). absurd (subst NotEarly (is ∙ thrown_fails some) other refl)) (same_or_not thrown_here 0)

-- ---- what an attempt makes, unless bytes are thrown away

module _ (s : Listening) (c : List ℕ) (held : ℕ) (f : Fed) where
  abbrev by_thrown : ℕ → Fed
  by_thrown thrown = pick (eqb thrown 0) f (begins_anew s (held + thrown))

  pub unless_none : thrown_by s.due c held ≡ 0 → f ≡ unless_thrown s c held f
  unless_none none = ap by_thrown (sym none)

  pub unless_some : (thrown : ℕ) → thrown ≡ thrown_by s.due c held → (thrown ≡ 0 → ⊥) → begins_anew s (held + thrown) ≡ unless_thrown s c held f
  unless_some thrown is some = sym (ap (λ (b : Bool). pick b f (begins_anew s (held + thrown))) (ne_eqb thrown 0 some)) ∙ ap by_thrown is
