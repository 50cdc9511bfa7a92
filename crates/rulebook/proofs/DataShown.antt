-- The data that is shown of the buffers as the judge left them is that of the reply which was acknowledged.
-- Assumes nothing.
use mathlib.Core.Path.{◌≡◌, ap, ◌∙◌}
use mathlib.Core.Bool.{false}
use mathlib.Core.List.{List, [], ◌∷◌, ◌++◌}
use Prim.Native.Nat.{ℕ, ◌+◌, ◌≤◌}
use native.Mathlib.Omega.{arith}
use lib.ListN.{length, take, drop, length-append}
use lib.Seq.{take-append-le, take-length}
use Rattle.lists.specs.Starting.{starting}
use Rattle.addresses.specs.declared.ExchangeKind.{ExchangeKind}
use Rattle.telegram.specs.Telegram.{longest}
use Rattle.replies.specs.Data.{reply_data}
use Rattle.replies.proofs.Data.{first_whole, second_whole, without_reply}
use Rattle.rulebook.specs.Rules.{ReplyForm, Accepted, alone, acknowledged, Attempts, at_once, repeated, OnWire, broadcast, initiators, target}
use Rattle.rulebook.specs.Demand2.{Shown}

-- a buffer that starts with LEN, as much data and a check byte
module _ (payload : List ℕ) (check : ℕ) (behind : List ℕ) (short : length payload ≤ longest) where
  abbrev buffer : List ℕ
  buffer = length payload ∷ ((payload ++ check ∷ []) ++ behind)

  long : length ((payload ++ check ∷ []) ++ behind) ≡ length payload + 1 + length behind
  long = length-append (payload ++ check ∷ []) behind ∙ ap (λ (n : ℕ). n + length behind) (length-append payload (check ∷ []))

  behind_length : take (length payload) ((payload ++ check ∷ []) ++ behind) ≡ payload
  behind_length =
      take-append-le (length payload) (payload ++ check ∷ []) behind (omega (arith, length-append payload (check ∷ [])))
      ∙ take-append-le (length payload) payload (check ∷ []) (omega arith) ∙ take-length payload

  first_holds : (second : List ℕ) → reply_data buffer second 1 ≡ payload
  first_holds second = first_whole buffer second (omega arith) short (omega (arith, long)) ∙ behind_length

  second_holds : (first : List ℕ) → reply_data first buffer 2 ≡ payload
  second_holds first = second_whole first buffer (omega arith) short (omega (arith, long)) ∙ behind_length

module _ (reply old : List ℕ) (form : ReplyForm reply) where
  abbrev behind : List ℕ
  behind = drop (length (length form.payload ∷ (form.payload ++ form.check ∷ []))) old

  pub first_shows : (second : List ℕ) → reply_data (starting reply old) second 1 ≡ form.payload
  first_shows second =
      ap (λ (l : List ℕ). reply_data (starting l old) second 1) form.bytes ∙ first_holds form.payload form.check behind form.short second

  pub second_shows : (first : List ℕ) → reply_data first (starting reply old) 2 ≡ form.payload
  second_shows first =
      ap (λ (l : List ℕ). reply_data first (starting l old) 2) form.bytes ∙ second_holds form.payload form.check behind form.short first

-- ---- of an exchange of the rule book

accepted_form : (reply raw : List ℕ) → Accepted false reply raw → ReplyForm reply
accepted_form reply raw (alone form right to) = form
accepted_form reply raw (acknowledged form right to) = form

by_attempts : (b : ℕ) (first second reply raw f s : List ℕ) → Attempts false b first second reply raw → Shown b first second (starting first f) (starting second s)
by_attempts b first second reply raw f s (at_once said) =
    let form = accepted_form first raw said in
    record { without = λ e. let z : ⊥ = omega arith in absurd z; acknowledged = λ h. (form, first_shows first f form (starting [] s)) }
by_attempts b first second reply raw f s (repeated {raw = last} nacked to said) =
    let form = accepted_form second last said in
    record { without = λ e. let z : ⊥ = omega arith in absurd z; acknowledged = λ h. (form, second_shows second s form (starting first f)) }

no_reply : (f s : List ℕ) → Shown 0 [] [] f s
no_reply f s = record { without = λ e. without_reply f s; acknowledged = λ h. let z : ⊥ = omega arith in absurd z }

pub data_shown : (kind : ExchangeKind) (a b : ℕ) (command first second raw f s : List ℕ) → OnWire kind a b command first second raw
    → Shown b first second (starting first f) (starting second s)
data_shown kind a b command first second raw f s (broadcast attempts is) = no_reply f s
data_shown kind a b command first second raw f s (initiators attempts is) = no_reply f s
data_shown kind a b command first second raw f s (target {reply = reply} {raw' = replying} attempts is replies) = by_attempts b first second reply replying f s replies
