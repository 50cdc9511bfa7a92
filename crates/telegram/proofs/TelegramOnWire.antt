-- A telegram that was read stands whole on the wire, and one that stands whole on the wire is read.
-- Assumes nothing.
use mathlib.Core.Path.{◌≡◌, sym, ap, ◌∙◌, subst}
use mathlib.Core.Bool.{Bool}
use mathlib.Core.List.{List, [], ◌++◌, append_assoc}
use Prim.Native.Nat.{ℕ, ◌+◌, ◌≤◌, ◌<◌}
use native.Mathlib.Omega.{arith}
use lib.ListN.{length, get_or, drop, length-append}
use Rattle.escapes.specs.Escape.{expanded}
use Rattle.escapes.proofs.Escaped.{expanded_append}
use Rattle.telegram.specs.Telegram.{head_of, length_place, Telegram, read, unread, collected, on_head, telegram_at}
use Rattle.telegram.proofs.CollectedOnWire.{Fine, Gather, Gathered, gathered, found}
use Rattle.telegram.proofs.HeadJudged.{all_fine}

-- a whole telegram: the head without fault, and behind it as many bytes as LEN says and the check byte
pub record Whole (command : Bool) (telegram : List ℕ) : Type 0 where
  pub front : List ℕ
  pub behind : List ℕ
  pub bytes : telegram ≡ front ++ behind
  pub count : length front ≡ head_of command
  pub fine : Fine command 0 front
  pub size : length behind ≡ get_or front (length_place command) 0 + 1

-- ---- read means that it stands there

pub record Stood (command : Bool) (run : List ℕ) (at : ℕ) (telegram : List ℕ) (next : ℕ) : Type 0 where
  pub whole : Whole command telegram
  pub wire : drop at run ≡ expanded telegram ++ drop next run
  pub ends : next ≡ at + length (expanded telegram)
  pub within : at ≤ length run → next ≤ length run

abbrev Standing : Bool → List ℕ → ℕ → Telegram → Type 0
Standing command run at (read s l x) = Stood command run at s x
Standing command run at (unread why) = Unit {0}

joined : (command : Bool) (run : List ℕ) (at : ℕ) (s : List ℕ) (next : ℕ) → Gather command run (head_of command) [] at s next
    → (t : Telegram) → Gathered command run (get_or s (length_place command) 0 + 1) s next t → Standing command run at t
joined command run at s next g (unread why) h = tt
joined command run at s next g (read s' l x) h =
    let both : expanded s' ≡ expanded g.new ++ expanded h.new =
    ap expanded (h.bytes ∙ ap (λ (l : List ℕ). l ++ h.new) g.bytes) ∙ expanded_append g.new h.new in
    record {
      whole =
          record {
            front = g.new;
            behind = h.new;
            bytes = h.bytes ∙ ap (λ (l : List ℕ). l ++ h.new) g.bytes;
            count = g.count;
            fine = g.fine;
            size = h.count ∙ ap (λ (l : List ℕ). get_or l (length_place command) 0 + 1) g.bytes;
          };
      wire =
          g.wire ∙ ap (λ (l : List ℕ). expanded g.new ++ l) h.wire
          ∙ sym (append_assoc (expanded g.new) (expanded h.new) (drop x run)) ∙ ap (λ (l : List ℕ). l ++ drop x run) (sym both);
      ends = omega (arith, g.ends, h.ends, ap length both, length-append (expanded g.new) (expanded h.new));
      within = λ k. h.within (g.within k);
    }

by_head : (command : Bool) (run : List ℕ) (at : ℕ) (t : Telegram) → Gathered command run (head_of command) [] at t → Standing command run at (on_head command run t)
by_head command run at (unread why) g = tt
by_head command run at (read s l x) g = joined command run at s x g (collected command run (get_or s (length_place command) 0 + 1) s l x) (gathered command run (get_or s (length_place command) 0 + 1) s l x)

pub stood : (command : Bool) (run : List ℕ) (at : ℕ) (s : List ℕ) (l x : ℕ) → telegram_at command run at ≡ read s l x → Stood command run at s x
unfolding telegram_at
stood command run at s l x e = subst (Standing command run at) e (by_head command run at (collected command run (head_of command) [] at at) (gathered command run (head_of command) [] at at))

-- ---- what stands there is read

pub record Readable (command : Bool) (run : List ℕ) (at : ℕ) (telegram rest : List ℕ) : Type 0 where
  pub check_place : ℕ
  pub next : ℕ
  pub is : telegram_at command run at ≡ read telegram check_place next
  pub left : drop next run ≡ rest

pub readable : (command : Bool) (run : List ℕ) (at : ℕ) (telegram rest : List ℕ) → Whole command telegram → drop at run ≡ expanded telegram ++ rest
    → Readable command run at telegram rest
unfolding telegram_at
readable command run at telegram rest w wire =
    let front = w.front in
    let behind = w.behind in
    let apart : drop at run ≡ expanded front ++ (expanded behind ++ rest) =
    wire ∙ ap (λ (l : List ℕ). expanded l ++ rest) w.bytes ∙ ap (λ (l : List ℕ). l ++ rest) (expanded_append front behind)
    ∙ append_assoc (expanded front) (expanded behind) rest in
    let f = found command run front [] at at (expanded behind ++ rest) w.fine apart in
    let g = found command run behind front f.place f.next rest (all_fine command (length front) behind (omega (arith, w.count))) f.behind in
    record {
      check_place = g.place;
      next = g.next;
      is =
          ap (λ (n : ℕ). on_head command run (collected command run n [] at at)) (sym w.count)
          ∙ ap (on_head command run) f.is
          ∙ ap (λ (n : ℕ). collected command run n front f.place f.next) (sym w.size)
          ∙ g.is
          ∙ ap (λ (s : List ℕ). read s g.place g.next) (sym w.bytes);
      left = g.behind;
    }

-- a telegram is longer than its head
pub whole_longer : (command : Bool) (telegram : List ℕ) → Whole command telegram → head_of command < length telegram
whole_longer command telegram w = omega (arith, ap length w.bytes, length-append w.front w.behind, w.count, w.size)
