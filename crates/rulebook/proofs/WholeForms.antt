-- The telegrams of the rule book are the whole telegrams of the reader.
-- Assumes nothing.
use mathlib.Core.Path.{◌≡◌, refl, sym, ap, ◌∙◌, subst}
use mathlib.Core.Bool.{Bool, true, false}
use mathlib.Core.List.{List, [], ◌∷◌, ◌++◌}
use Prim.Native.Nat.{ℕ, suc, ◌+◌, ◌≤◌}
use native.Mathlib.Omega.{arith}
use lib.ListN.{length, get_or, take, drop, length-append, take-append-drop}
use lib.Seq.{length-take-le, drop-cons, drop-length}
use borrow.Author.Tests.{le-leb}
use Rattle.lists.specs.Choice.{pick}
use Rattle.refusal.specs.Number.{source_wrong, destination_wrong, length_over}
use Rattle.addresses.specs.Address.{initiator, reserved}
use Rattle.telegram.specs.Telegram.{longest, SRC, DST, LEN, unjudged, field_at, fault_of}
use Rattle.telegram.proofs.CollectedOnWire.{Fine}
use Rattle.telegram.proofs.HeadJudged.{fine_source, fine_destination, fine_length}
use Rattle.telegram.proofs.TelegramOnWire.{Whole}
use Rattle.rulebook.specs.Rules.{CommandForm, ReplyForm, Form}

-- ---- no fault in a head, field by field

source_fine : (b : ℕ) → initiator b ≡ true → fault_of SRC b ≡ 0
unfolding fault_of
source_fine b e = ap (λ x. pick x 0 source_wrong) e

destination_fine : (b : ℕ) → reserved b ≡ false → fault_of DST b ≡ 0
unfolding fault_of
destination_fine b e = ap (λ x. pick x destination_wrong 0) e

length_fine : (b : ℕ) → b ≤ longest → fault_of LEN b ≡ 0
unfolding fault_of
length_fine b h = ap (λ x. pick x 0 length_over) (le-leb b longest h)

unjudged_fine : (b : ℕ) → fault_of unjudged b ≡ 0
unfolding fault_of
unjudged_fine b = refl

-- ---- a list of n + 1 bytes is n bytes and a last one

pub last_apart : (l : List ℕ) (n : ℕ) → length l ≡ n + 1 → l ≡ take n l ++ get_or l n 0 ∷ []
last_apart l n e =
    sym (take-append-drop n l)
    ∙ ap (λ (x : List ℕ). take n l ++ x) (drop-cons l n 0 (omega arith) ∙ ap (λ (x : List ℕ). get_or l n 0 ∷ x) (nothing_left l (suc n) (omega arith)))
  where
    nothing_left : (l : List ℕ) (k : ℕ) → length l ≡ k → drop k l ≡ []
    nothing_left l k h = ap (λ (m : ℕ). drop m l) (sym h) ∙ drop-length l

taken_length : (l : List ℕ) (n : ℕ) → length l ≡ n + 1 → length (take n l) ≡ n
taken_length l n e = length-take-le n l (omega arith)

-- ---- from the reader to the rule book

five : (telegram front behind : List ℕ) → telegram ≡ front ++ behind → length front ≡ 5 → Fine true 0 front → length behind ≡ get_or front 4 0 + 1 → CommandForm telegram
unfolding field_at
five telegram (s ∷ d ∷ p ∷ q ∷ n ∷ []) behind e c fine size =
    record {
      source = s;
      destination = d;
      primary = p;
      secondary = q;
      payload = take n behind;
      check = get_or behind n 0;
      bytes =
          e ∙ ap (λ (l : List ℕ). s ∷ d ∷ p ∷ q ∷ n ∷ l) (last_apart behind n size)
          ∙ ap (λ (k : ℕ). s ∷ d ∷ p ∷ q ∷ k ∷ (take n behind ++ get_or behind n 0 ∷ [])) (sym (taken_length behind n size));
      from_initiator = fine_source s fine.0;
      not_reserved = fine_destination d fine.1.0;
      short = subst (λ (k : ℕ). k ≤ longest) (sym (taken_length behind n size)) (fine_length n fine.1.1.1.1.0);
    }
five telegram [] behind e c fine size = let f : ⊥ = omega arith in absurd f
five telegram (s ∷ []) behind e c fine size = let f : ⊥ = omega arith in absurd f
five telegram (s ∷ d ∷ []) behind e c fine size = let f : ⊥ = omega arith in absurd f
five telegram (s ∷ d ∷ p ∷ []) behind e c fine size = let f : ⊥ = omega arith in absurd f
five telegram (s ∷ d ∷ p ∷ q ∷ []) behind e c fine size = let f : ⊥ = omega arith in absurd f
five telegram (s ∷ d ∷ p ∷ q ∷ n ∷ x ∷ xs) behind e c fine size = let f : ⊥ = omega arith in absurd f

one : (telegram front behind : List ℕ) → telegram ≡ front ++ behind → length front ≡ 1 → Fine false 0 front → length behind ≡ get_or front 0 0 + 1 → ReplyForm telegram
unfolding field_at
one telegram (n ∷ []) behind e c fine size =
    record {
      payload = take n behind;
      check = get_or behind n 0;
      bytes =
          e ∙ ap (λ (l : List ℕ). n ∷ l) (last_apart behind n size)
          ∙ ap (λ (k : ℕ). k ∷ (take n behind ++ get_or behind n 0 ∷ [])) (sym (taken_length behind n size));
      short = subst (λ (k : ℕ). k ≤ longest) (sym (taken_length behind n size)) (fine_length n fine.0);
    }
one telegram [] behind e c fine size = let f : ⊥ = omega arith in absurd f
one telegram (n ∷ x ∷ xs) behind e c fine size = let f : ⊥ = omega arith in absurd f

pub form_of : (command : Bool) (telegram : List ℕ) → Whole command telegram → Form command telegram
form_of true telegram w = five telegram w.front w.behind w.bytes w.count w.fine w.size
form_of false telegram w = one telegram w.front w.behind w.bytes w.count w.fine w.size

-- ---- from the rule book to the reader

pub one_longer : (payload : List ℕ) (check : ℕ) → length (payload ++ check ∷ []) ≡ length payload + 1
one_longer payload check = length-append payload (check ∷ [])

pub whole_of : (command : Bool) (telegram : List ℕ) → Form command telegram → Whole command telegram
unfolding field_at
whole_of true telegram f =
    record {
      front = f.source ∷ f.destination ∷ f.primary ∷ f.secondary ∷ length f.payload ∷ [];
      behind = f.payload ++ f.check ∷ [];
      bytes = f.bytes;
      count = refl;
      fine = (
        source_fine f.source f.from_initiator,
        (
          destination_fine f.destination f.not_reserved,
          (unjudged_fine f.primary, (unjudged_fine f.secondary, (length_fine (length f.payload) f.short, tt))),
        ),
      );
      size = one_longer f.payload f.check;
    }
whole_of false telegram f =
    record {
      front = length f.payload ∷ [];
      behind = f.payload ++ f.check ∷ [];
      bytes = f.bytes;
      count = refl;
      fine = (length_fine (length f.payload) f.short, tt);
      size = one_longer f.payload f.check;
    }
