-- What is known of a telegram that was read: its bytes are the logical bytes from its position on, it has room, its check is
-- that of the raw bytes before the check byte, and DST is a command's second raw byte.
-- Assumes nothing.
use Rattle.std.specs.Prelude.{Result, Ok, Err}
use mathlib.Core.Path.{◌≡◌, refl, sym, ap, ap₂, ◌∙◌}
use mathlib.Core.Bool.{Bool, true, false}
use mathlib.Core.List.{List, [], ◌∷◌, ◌++◌, append_assoc}
use Prim.Native.Nat.{ℕ, zero, suc, ◌+◌, ◌-◌, ◌≤◌, ◌<◌}
use native.Mathlib.Omega.{arith}
use lib.Dec.{eqb, lit≤}
use lib.ListN.{length, get_or, take, drop, replicate, length-append, length-drop}
use lib.Seq.{take_at, take-append_seam}
use borrow.Author.Tests.{ne_eqb}
use Rattle.lists.specs.Choice.{pick}
use Rattle.lists.proofs.Cases.{pick_cases}
use Rattle.lists.specs.Starting.{starting}
use Rattle.lists.proofs.Filling.{head_within, head_is, rest_is, put_whole}
use Rattle.refusal.specs.Number.{at_place}
use Rattle.refusal.specs.declared.Refusal.{Refusal}
use Rattle.escapes.specs.Escape.{escaped, expanded}
use Rattle.escapes.specs.Logical.{logical_at, and_then, logicals_at}
use Rattle.escapes.proofs.Escaped.{expanded_append}
use Rattle.escapes.proofs.EscapeRoundTrip.{read_back, expanded_longer}
use Rattle.checkbyte.specs.Check.{ebus_bytes, ebus_check}
use Rattle.telegram.specs.declared.Extent.{Extent}
use Rattle.telegram.specs.Telegram.{command_head, head_of, length_place, command_room, room_of, destination_of, last_of, check_right, Field, field_at, fault_of, Telegram, read, unread, on_byte, collected, on_head, telegram_at}
use Rattle.telegram.specs.View.{extent_of, telegram_of}
use Rattle.telegram.proofs.CollectedOnWire.{Fine, gathered_read}
use Rattle.telegram.proofs.HeadJudged.{fine_source, fine_destination, source_plain, destination_plain, head_length}
use Rattle.telegram.proofs.TelegramOnWire.{Whole, Stood, stood, whole_longer}

-- what every telegram needs has room in a command's buffer
pub fits_array : (command : Bool) (n : ℕ) → n ≤ room_of command → n ≤ command_room
fits_array true n h = h
fits_array false n h = omega arith

-- a head has at least LEN, and at most what a command's has
pub some_head : (command : Bool) → (1 ≤ head_of command) × (head_of command ≤ command_head)
some_head true = (lit≤ tt, lit≤ tt)
some_head false = (lit≤ tt, lit≤ tt)

-- ---- what an extent says of the telegram

pub record Told (t : Telegram) (e : Extent) : Type 0 where
  pub bytes : List ℕ
  pub is : t ≡ read bytes e.last e.next
  pub size : length bytes ≡ e.len
  pub final : last_of bytes ≡ e.value

pub told_read : (t : Telegram) (e : Extent) → Ok e ≡ extent_of t → Told t e
told_read (read s l x) e is =
    let same : e ≡ record { len = length s; value = last_of s; last = l; next = x } = cc in
    record {
      bytes = s;
      is = ap (λ (k : Extent). read s k.last k.next) (sym same);
      size = ap (λ (k : Extent). k.len) (sym same);
      final = ap (λ (k : Extent). k.value) (sym same);
    }
told_read (unread why) e is = let z : ◌≡◌ {A = ℕ} 0 1 = cc in let f : ⊥ = omega arith in absurd f

pub told_unread : (t : Telegram) (why : Refusal) → Err why ≡ extent_of t → t ≡ unread why
told_unread (read s l x) why is = cc
told_unread (unread same) why is = cc

-- ---- the head, and what is collected behind it

pub record HeadTold (command : Bool) (run : List ℕ) (at : ℕ) (head : Extent) : Type 0 where
  pub bytes : List ℕ
  pub size : length bytes ≡ head.len
  pub final : last_of bytes ≡ head.value
  pub whole : head.len ≡ head_of command
  pub then : telegram_at command run at ≡ collected command run (head.value + 1) bytes head.last head.next

-- LEN is the last byte of a whole head
pub head_told : (command : Bool) (run : List ℕ) (at : ℕ) (head : Extent) → Ok head ≡ extent_of (collected command run (head_of command) [] at at)
    → HeadTold command run at head
unfolding telegram_at
head_told command run at head is =
    let t = told_read (collected command run (head_of command) [] at at) head is in
    let g = gathered_read command run (head_of command) [] at at t.bytes head.last head.next t.is in
    let count : length t.bytes ≡ head_of command = ap length g.bytes ∙ g.count in
    record {
      bytes = t.bytes;
      size = t.size;
      final = t.final;
      whole = sym t.size ∙ count;
      then =
          ap (on_head command run) t.is
          ∙ ap (λ (n : ℕ). collected command run (n + 1) t.bytes head.last head.next)
          (ap (λ (k : ℕ). get_or t.bytes (k - 1) 0) (sym count) ∙ t.final);
    }

-- a refusal in the head is the telegram's
pub head_refused : (command : Bool) (run : List ℕ) (at : ℕ) (why : Refusal) → Err why ≡ extent_of (collected command run (head_of command) [] at at)
    → Err why ≡ extent_of (telegram_at command run at)
unfolding telegram_at
head_refused command run at why is =
    ap (λ (t : Telegram). extent_of (on_head command run t)) (sym (told_unread (collected command run (head_of command) [] at at) why is))

-- ---- the bytes

pub on_wire_lem : (run s : List ℕ) (at : ℕ) (rest : List ℕ) → drop at run ≡ expanded s ++ rest → logicals_at run (length s) at ≡ s
unfolding expanded logicals_at
on_wire_lem run [] at rest e = refl
on_wire_lem run (b ∷ s) at rest e =
    let back = read_back run at b (expanded s ++ rest) (e ∙ append_assoc (escaped b) (expanded s) rest) in
    ap (λ (l : Result (ℕ × ℕ) Refusal). and_then l (logicals_at run (length s))) back.1 ∙ ap (λ (l : List ℕ). b ∷ l) (on_wire_lem run s back.0 rest back.2)

module _ (command : Bool) (run : List ℕ) (at : ℕ) (s : List ℕ) (l x : ℕ) (e : telegram_at command run at ≡ read s l x) where
  stands : Stood command run at s x
  stands = stood command run at s l x e

  pub telegram_bytes : logicals_at run (length s) at ≡ s
  telegram_bytes = on_wire_lem run s at (drop x run) stands.wire

  -- it starts within the run
  pub started : at ≤ length run
  started =
      omega (arith, whole_longer command s stands.whole, expanded_longer s, length-drop at run, ap length stands.wire, length-append (expanded s) (drop x run))

  pub telegram_room : length s ≤ room_of command
  telegram_room = by_command command stands.whole
    where
      by_command : (c : Bool) → Whole c s → length s ≤ room_of c
      by_command true w = omega (arith, ap length w.bytes, length-append w.front w.behind, w.count, w.size, head_length true w.front w.count w.fine)
      by_command false w = omega (arith, ap length w.bytes, length-append w.front w.behind, w.count, w.size, head_length false w.front w.count w.fine)

-- the bytes put into an array of zeros, beside the extent, are the telegram by value
pub by_value : (command : Bool) (run : List ℕ) (at : ℕ) (t : Telegram) → telegram_at command run at ≡ t → (e : Extent) → Ok e ≡ extent_of t → (array : List ℕ)
    → array ≡ starting (take command_room (logicals_at run e.len at)) (replicate command_room 0)
    → Ok (record { bytes = array; len = e.len; last = e.last; next = e.next }) ≡ telegram_of t
by_value command run at (unread why) is e told array put = cc
by_value command run at (read s l x) is e told array put =
    let room : length s ≤ command_room = fits_array command (length s) (telegram_room command run at s l x is) in
    let same : e ≡ record { len = length s; value = last_of s; last = l; next = x } = cc in
    ap₂ (λ (b : List ℕ) (k : Extent). Ok (record { bytes = b; len = k.len; last = k.last; next = k.next }))
    (put ∙ ap (λ (k : Extent). starting (take command_room (logicals_at run k.len at)) (replicate command_room 0)) same
    ∙ ap (λ (b : List ℕ). starting (take command_room b) (replicate command_room 0)) (telegram_bytes command run at s l x is)
    ∙ put_whole s (replicate command_room 0) room) same

pub unread_by_value : (t : Telegram) (why : Refusal) → Err why ≡ extent_of t → Err why ≡ telegram_of t
unread_by_value (read s l x) why told = cc
unread_by_value (unread same) why told = cc

-- ---- DST

second_raw : (run : List ℕ) (at : ℕ) (front s rest : List ℕ) → length front ≡ 5 → Fine true 0 front → s ≡ front ++ rest → (behind : List ℕ) → drop at run ≡ expanded s ++ behind
    → (at + 1 < length run) × (destination_of s ≡ get_or run (at + 1) 0)
unfolding field_at expanded
second_raw run at [] s rest n fine is behind wire = let f : ⊥ = omega arith in absurd f
second_raw run at (a ∷ []) s rest n fine is behind wire = let f : ⊥ = omega arith in absurd f
second_raw run at (a ∷ b ∷ front) s rest n fine is behind wire =
    let plain_a = source_plain a (fine_source a fine.0) in
    let plain_b = destination_plain b (fine_destination b fine.1.0) in
    let tail = expanded (front ++ rest) in
    let raw : drop at run ≡ a ∷ b ∷ (tail ++ behind) =
    wire ∙ ap (λ (l : List ℕ). expanded l ++ behind) is
    ∙ ap (λ (l : List ℕ). (l ++ (escaped b ++ tail)) ++ behind) plain_a
    ∙ ap (λ (l : List ℕ). a ∷ ((l ++ tail) ++ behind)) plain_b in
    let one : drop (at + 1) run ≡ b ∷ (tail ++ behind) = rest_is run at a (b ∷ (tail ++ behind)) raw in
    (head_within run (at + 1) b (tail ++ behind) one, ap destination_of is ∙ sym (head_is run (at + 1) b (tail ++ behind) one))

-- neither SRC nor DST needs an escape, so that DST is the second raw byte
pub destination_raw : (run : List ℕ) (at : ℕ) (s : List ℕ) (l x : ℕ) → telegram_at true run at ≡ read s l x → (at + 1 < length run) × (destination_of s ≡ get_or run (at + 1) 0)
destination_raw run at s l x e =
    let st = stood true run at s l x e in
    second_raw run at st.whole.front s st.whole.behind st.whole.count st.whole.fine st.whole.bytes (drop x run) st.wire

-- ---- the check byte

-- n bytes, and then one more
abbrev and_one : Bool → List ℕ → Telegram → Telegram
and_one command run (read s l x) = collected command run 1 s l x
and_one command run (unread why) = unread why

by_fault : (command : Bool) (run : List ℕ) (t : Bool) (a b : Telegram) (why : Refusal) → a ≡ and_one command run b → pick t a (unread why) ≡ and_one command run (pick t b (unread why))
by_fault command run true a b why e = e
by_fault command run false a b why e = refl

by_logical : (command : Bool) (run : List ℕ) (field : Field) (at : ℕ) (whole most : ℕ → ℕ → Telegram)
    → ((b next : ℕ) → whole b next ≡ and_one command run (most b next)) → (l : Result (ℕ × ℕ) Refusal)
    → on_byte field at l whole ≡ and_one command run (on_byte field at l most)
by_logical command run field at whole most e (Err why) = refl
by_logical command run field at whole most e (Ok (b, next)) =
    by_fault command run (eqb (fault_of field b) 0) (whole b next) (most b next) (at_place (fault_of field b) at) (e b next)

split_one : (command : Bool) (run : List ℕ) (n : ℕ) (so_far : List ℕ) (last at : ℕ)
    → collected command run (n + 1) so_far last at ≡ and_one command run (collected command run n so_far last at)
unfolding collected
split_one command run zero so_far last at = refl
split_one command run (suc n) so_far last at =
    let one : suc n + 1 ≡ suc (n + 1) = omega arith in
    ap (λ (m : ℕ). collected command run m so_far last at) one
    ∙ by_logical command run (field_at command (length so_far)) at (λ b next. collected command run (n + 1) (so_far ++ b ∷ []) at next)
    (λ b next. collected command run n (so_far ++ b ∷ []) at next) (λ b next. split_one command run n (so_far ++ b ∷ []) at next) (logical_at run at)

-- the last of them stands at the position behind those before it
pub record Lastly (command : Bool) (run : List ℕ) (n : ℕ) (so_far : List ℕ) (last at : ℕ) (s : List ℕ) (l : ℕ) : Type 0 where
  pub most : List ℕ
  pub byte : ℕ
  pub place : ℕ
  pub before : collected command run n so_far last at ≡ read most place l
  pub bytes : s ≡ most ++ byte ∷ []

one_byte : (command : Bool) (run most : List ℕ) (place at : ℕ) (s : List ℕ) (l x : ℕ) (byte : Result (ℕ × ℕ) Refusal)
    → on_byte (field_at command (length most)) at byte (λ b next. read (most ++ b ∷ []) at next) ≡ read s l x → (b : ℕ) × (at ≡ l) × (s ≡ most ++ b ∷ [])
one_byte command run most place at s l x (Err why) e = let z : ◌≡◌ {A = ℕ} 0 1 = cc in let f : ⊥ = omega arith in absurd f
one_byte command run most place at s l x (Ok (b, next)) e =
    pick_cases (λ (t : Telegram). t ≡ read s l x → (b : ℕ) × (at ≡ l) × (s ≡ most ++ b ∷ [])) (eqb (fault_of (field_at command (length most)) b) 0) _ _
    (λ _ same. let place_is : at ≡ l = cc in let bytes_are : most ++ b ∷ [] ≡ s = cc in (b, place_is, sym bytes_are))
    (λ _ no. let z : ◌≡◌ {A = ℕ} 0 1 = cc in let f : ⊥ = omega arith in absurd f) e

by_most : (command : Bool) (run : List ℕ) (n : ℕ) (so_far : List ℕ) (last at : ℕ) (s : List ℕ) (l x : ℕ) (t : Telegram) → collected command run n so_far last at ≡ t
    → and_one command run t ≡ read s l x → Lastly command run n so_far last at s l
unfolding collected
by_most command run n so_far last at s l x (unread why) is e = let z : ◌≡◌ {A = ℕ} 0 1 = cc in let f : ⊥ = omega arith in absurd f
by_most command run n so_far last at s l x (read most place next) is e =
    let one = one_byte command run most place next s l x (logical_at run next) e in
    record { most = most; byte = one.0; place = place; before = is ∙ ap (read most place) one.1; bytes = one.2 }

lastly : (command : Bool) (run : List ℕ) (n : ℕ) (so_far : List ℕ) (last at : ℕ) (s : List ℕ) (l x : ℕ) → collected command run (n + 1) so_far last at ≡ read s l x
    → Lastly command run n so_far last at s l
lastly command run n so_far last at s l x e =
    by_most command run n so_far last at s l x (collected command run n so_far last at) refl (sym (split_one command run n so_far last at) ∙ e)

-- the check byte stands at the position behind what it is the check of
pub record Checked (run : List ℕ) (at : ℕ) (s : List ℕ) (l : ℕ) : Type 0 where
  pub body : List ℕ
  pub check : ℕ
  pub bytes : s ≡ body ++ check ∷ []
  pub wire : drop at run ≡ expanded body ++ drop l run
  pub ends : l ≡ at + length (expanded body)
  pub within : at ≤ length run → l ≤ length run

by_head : (command : Bool) (run : List ℕ) (at : ℕ) (s : List ℕ) (l x : ℕ) (t : Telegram) → collected command run (head_of command) [] at at ≡ t
    → on_head command run t ≡ read s l x → Checked run at s l
by_head command run at s l x (unread why) is e = let z : ◌≡◌ {A = ℕ} 0 1 = cc in let f : ⊥ = omega arith in absurd f
by_head command run at s l x (read front place next) is e =
    let n = get_or front (length_place command) 0 in
    let y = lastly command run n front place next s l x e in
    let g = gathered_read command run (head_of command) [] at at front place next is in
    let h = gathered_read command run n front place next y.most y.place l y.before in
    let both : expanded y.most ≡ expanded front ++ expanded h.new = ap expanded h.bytes ∙ expanded_append front h.new in
    record {
      body = y.most;
      check = y.byte;
      bytes = y.bytes;
      wire =
          g.wire ∙ ap (λ (r : List ℕ). expanded r ++ drop next run) (sym g.bytes)
          ∙ ap (λ (r : List ℕ). expanded front ++ r) h.wire
          ∙ sym (append_assoc (expanded front) (expanded h.new) (drop l run))
          ∙ ap (λ (r : List ℕ). r ++ drop l run) (sym both);
      ends = omega (arith, g.ends, h.ends, ap (λ (r : List ℕ). length (expanded r)) g.bytes, ap length both, length-append (expanded front) (expanded h.new));
      within = λ k. h.within (g.within k);
    }

pub checked : (command : Bool) (run : List ℕ) (at : ℕ) (s : List ℕ) (l x : ℕ) → telegram_at command run at ≡ read s l x → Checked run at s l
unfolding telegram_at
checked command run at s l x e = by_head command run at s l x (collected command run (head_of command) [] at at) refl e

-- so whether it is right is told by the raw bytes before it
pub right_on_wire : (run : List ℕ) (at : ℕ) (s : List ℕ) (l : ℕ) → Checked run at s l
    → check_right s ≡ eqb (ebus_bytes 0x00 (take (l - at) (drop at run))) (last_of s)
unfolding check_right ebus_check
right_on_wire run at s l k =
    let size : length s ≡ length k.body + 1 = ap length k.bytes ∙ length-append k.body (k.check ∷ []) in
    let some : length s ≡ 0 → ⊥ = λ z. omega arith in
    let short : length s - 1 ≡ length k.body = omega arith in
    let before : take (length s - 1) s ≡ k.body =
    ap (λ (n : ℕ). take n s) short ∙ ap (take (length k.body)) k.bytes ∙ take-append_seam k.body (k.check ∷ []) in
    let far : length (expanded k.body) ≡ l - at = omega (arith, k.ends) in
    let raw : take (l - at) (drop at run) ≡ expanded k.body =
    ap (take (l - at)) k.wire ∙ take_at (expanded k.body) (drop l run) (l - at) far in
    ap (λ (t : Bool). pick t false (eqb (ebus_bytes 0x00 (expanded (take (length s - 1) s))) (last_of s))) (ne_eqb _ _ some)
    ∙ ap (λ (r : List ℕ). eqb (ebus_bytes 0x00 (expanded r)) (last_of s)) before
    ∙ ap (λ (r : List ℕ). eqb (ebus_bytes 0x00 r) (last_of s)) (sym raw)
