-- One exchange of a capture with the idle time before it.
-- Assumes nothing.
use mathlib.Core.Path.{◌≡◌, sym, ap, ◌∙◌, subst}
use mathlib.Core.List.{List, [], ◌++◌}
use mathlib.Core.Logic.{◌⊎◌, inl, inr, ⊎_elim}
use Prim.Native.Nat.{ℕ, zero, suc, ◌+◌, ◌-◌, ◌≤◌, ◌<◌, min}
use native.Mathlib.Omega.{arith}
use lib.ListN.{length, get_or, take, drop, length-take, length-drop, length-append, take-append-drop, drop_of_length-le}
use lib.Seq.{length-take-le, take_all, take-add, get_or-take}
use Rattle.lists.proofs.Cases.{le_or_lt, same_or_not}
use Rattle.escapes.specs.Escape.{syn}
use Rattle.addresses.specs.declared.ExchangeKind.{ExchangeKind}
use Rattle.beginning.specs.Beginning.{piece, command_start}
use Rattle.beginning.proofs.Pieces.{piece_size, shorter, shorter_most}
use Rattle.beginning.proofs.Begun.{start_none, start_some, start_behind}
use Rattle.exchange.specs.Exchange.{limit, accepted, exchange}
use Rattle.listening.specs.Listening.{fresh, fed}
use Rattle.cuts.specs.Cuts.{Open}
use Rattle.captures.specs.Capture.{through_syn}
use Rattle.captures.proofs.Through.{through_size, through_some, through_before, through_last}
use Rattle.capturewalk.specs.Walk.{Idle, OneExchange}
use Rattle.capturewalk.proofs.Accepted.{Ends, ends_by_syn}
use Rattle.capturewalk.proofs.OneRun.{decided, known_longer, some_used}
use Rattle.capturewalk.proofs.SynDecides.{syn_decides}

-- ---- idle time

pub none_idle : Idle []
none_idle = start_none [] (let e : piece [] ≡ 0 = omega (arith, piece_size []) in e)

-- a piece, and idle time behind it
one_more : (c : List ℕ) → (piece c ≡ 0 → ⊥) → Idle (take (command_start (drop (piece c) c)) (drop (piece c) c)) → Idle (take (piece c + command_start (drop (piece c) c)) c)
one_more c e behind =
    let k = piece c in
    let bytes = take k c in
    let rest = drop k c in
    let j = command_start rest in
    let size : length bytes ≡ k = length-take-le k c (piece_size c) in
    let both : bytes ++ rest ≡ c = take-append-drop k c in
    let is : piece bytes ≡ length bytes = shorter bytes rest (omega (arith, ap piece both, size)) ∙ ap piece both ∙ sym size in
    subst Idle (sym (take-add k j c))
    (start_behind bytes (take j rest) (omega (arith, size, e)) is ∙ ap (λ (x : ℕ). length bytes + x) behind ∙ sym (length-append bytes (take j rest)))

-- the bytes before a command are idle time
idle_within : (n : ℕ) (c : List ℕ) → length c ≤ n → Idle (take (command_start c) c)
idle_within zero c h =
    let none : command_start c ≡ 0 = start_none c (let e : piece c ≡ 0 = omega (arith, piece_size c) in e) in
    subst (λ (k : ℕ). Idle (take k c)) (sym none) none_idle
idle_within (suc n) c h =
    ⊎_elim (λ (e : piece c ≡ 0). subst (λ (k : ℕ). Idle (take k c)) (sym (start_none c e)) none_idle)
    (λ (e : piece c ≡ 0 → ⊥).
    subst (λ (k : ℕ). Idle (take k c)) (sym (start_some c (omega (arith, e)))) (one_more c e (idle_within n (drop (piece c) c) (omega (arith, e, length-drop (piece c) c)))))
    (same_or_not (piece c) 0)

pub idle_before : (c : List ℕ) → Idle (take (command_start c) c)
idle_before c = idle_within (length c) c (omega arith)

-- ---- a stretch

-- where the number of bytes read, of which there are no more than the limit, is that of all
module _ (next t most size : ℕ) (positive : 0 < next) (within : next ≤ t) (is : t ≡ min most size) where
  below_limit : next - 1 < most
  below_limit = omega (arith, positive, within, is)

  last_place : next < size → next - 1 + 1 < size
  last_place h = omega (arith, positive, h)

  no_more : size ≤ next → next ≡ size
  no_more h = omega (arith, within, is, h)

  whole_read : next ≡ size → t ≡ size
  whole_read h = omega (arith, within, is, h)

module _ (r : List ℕ) (some : 0 < length r) where
  abbrev pub st : List ℕ
  st = take (through_syn r) r

  size : length st ≡ through_syn r
  size = length-take-le (through_syn r) r (through_size r)

  st_some : 0 < length st
  st_some = omega (arith, size, through_some r some)

  there : (i : ℕ) → i < through_syn r → get_or st i 0 ≡ get_or r i 0
  there i h = get_or-take (through_syn r) r i 0 h

  last_alone : (i : ℕ) → i + 1 < length st → get_or st i 0 ≡ syn → ⊥
  last_alone i h is = through_before r i (omega (arith, size, h)) (sym (there i (omega (arith, size, h))) ∙ is)

  syn_or_end : (get_or st (length st - 1) 0 ≡ syn) ⊎ (drop (through_syn r) r ≡ [])
  syn_or_end =
      ⊎_elim
      (λ (is : get_or r (through_syn r - 1) 0 ≡ syn).
      inl (ap (λ (n : ℕ). get_or st (n - 1) 0) size ∙ there (through_syn r - 1) (omega (arith, through_some r some)) ∙ is))
      (λ (all : through_syn r ≡ length r). let far : length r ≤ through_syn r = omega (arith, all) in inr (drop_of_length-le r far))
      (through_last r)

  module _ (kind : ExchangeKind) (commands replies next : ℕ) (command first second : List ℕ) where
    abbrev Told : List ℕ → Type 0
    Told bytes = exchange (take limit bytes) ≡ accepted kind commands replies next command first second

    read_through : (bytes : List ℕ) → Told bytes → (0 < next) × (next ≤ length (take limit bytes)) × (get_or (take limit bytes) (next - 1) 0 ≡ syn)
    read_through bytes is = subst (Ends (take limit bytes)) is (ends_by_syn (take limit bytes))

    reads_all : Told st → next ≡ length st
    reads_all is =
        let e = read_through st is in
        let most = length-take limit st in
        let short = below_limit next (length (take limit st)) limit (length st) e.0 e.1 most in
        ⊎_elim (λ (h : length st ≤ next). no_more next (length (take limit st)) limit (length st) e.0 e.1 most h)
        (λ (h : next < length st).
        absurd (last_alone (next - 1) (last_place next (length (take limit st)) limit (length st) e.0 e.1 most h) (sym (get_or-take limit st (next - 1) 0 short) ∙ e.2)))
        (le_or_lt (length st) next)

    -- a part of it is not accepted
    too_few : Told st → (u : ℕ) → u < length st → (Open (exchange (take limit (take u st))) → ⊥) → ⊥
    too_few is u h known =
        let part = take u st in
        let same : Told part = sym (known_longer part (drop u st) known) ∙ ap (λ (x : List ℕ). exchange (take limit x)) (take-append-drop u st) ∙ is in
        let e = read_through part same in
        not_so next (length (take limit part)) limit (length part) u (length st) e.1 (length-take limit part) (length-take-le u st (le_of_lt u (length st) h)) h (reads_all is)
      where
        le_of_lt : (a b : ℕ) → a < b → a ≤ b
        le_of_lt a b h = omega (arith, h)

        not_so : (next t most n u all : ℕ) → next ≤ t → t ≡ min most n → n ≡ u → u < all → next ≡ all → ⊥
        not_so next t most n u all within is e h whole = omega (arith, within, is, e, h, whole)

    all_used : Told st → length st ≤ (fed fresh st).used
    all_used is =
        ⊎_elim (λ (h : length st ≤ (fed fresh st).used). h)
        (λ (h : (fed fresh st).used < length st).
        absurd (too_few is (fed fresh st).used h (known h)))
        (le_or_lt (length st) (fed fresh st).used)
      where
        few : (u t all : ℕ) → u < all → t ≡ all → u < t
        few u t all h e = omega (arith, h, e)

        short_part : (u t most all : ℕ) → u < all → t ≡ all → t ≡ min most all → u ≤ most
        short_part u t most all h e m = omega (arith, h, e, m)

        known : (fed fresh st).used < length st → Open (exchange (take limit (take (fed fresh st).used st))) → ⊥
        known h o =
            let u = (fed fresh st).used in
            let e = read_through st is in
            let most = length-take limit st in
            let read_all = whole_read next (length (take limit st)) limit (length st) e.0 e.1 most (reads_all is) in
            (decided st).then (few u (length (take limit st)) (length st) h read_all)
            (subst (λ (x : List ℕ). Open (exchange x)) (take_all limit (take u st) (subst (λ (n : ℕ). n ≤ limit) (sym (length-take-le u st (few_le u (length st) h))) (short_part u (length (take limit st)) limit (length st) h read_all most))) o)
          where
            few_le : (a b : ℕ) → a < b → a ≤ b
            few_le a b h = omega (arith, h)

  whole : (kind : ExchangeKind) (commands replies next : ℕ) (command first second : List ℕ)
      → exchange (take limit st) ≡ accepted kind commands replies next command first second
      → (next ≡ length st) × (drop (fed fresh st).used st ≡ [])
  whole kind commands replies next command first second is =
      (reads_all kind commands replies next command first second is, drop_of_length-le st (all_used kind commands replies next command first second is))

  used_some : 0 < length (take (fed fresh st).used st)
  used_some = by (fed fresh st).used (length st) (length (take (fed fresh st).used st)) (some_used st (read_some limit (length st) (length (take limit st)) st_some (length-take limit st) (omega arith))) st_some (length-take (fed fresh st).used st)
    where
      by : (u all n : ℕ) → 0 < u → 0 < all → n ≡ min u all → 0 < n
      by u all n a b e = omega (arith, a, b, e)

      read_some : (most all n : ℕ) → 0 < all → n ≡ min most all → 0 < most → 0 < n
      read_some most all n a e b = omega (arith, a, e, b)

  -- where a command starts with the rest, it starts with the stretch
  starts : piece r ≡ 0 → command_start st ≡ 0
  starts none =
      let both : st ++ drop (through_syn r) r ≡ r = take-append-drop (through_syn r) r in
      let most : piece st ≤ 0 = shorter_most st (drop (through_syn r) r) 0 (omega (arith, ap piece both, none)) in
      start_none st (let e : piece st ≡ 0 = omega (arith, most) in e)

  pub one_exchange : piece r ≡ 0 → (idle : List ℕ) → Idle idle → OneExchange (record { idle = idle; stretch = st; used = (fed fresh st).used }) (drop (through_syn r) r)
  one_exchange none idle is_idle =
      record {
        idle_before = is_idle;
        some = used_some;
        decided = decided st;
        no_syn = last_alone;
        syn_ends = syn_or_end;
        syn_decides = λ short is o. syn_decides st st_some is (starts none) (subst (λ (x : List ℕ). Open (exchange x)) (take_all limit st short) o);
        accepted_whole = whole;
        alone = known_longer st (drop (through_syn r) r);
      }
