-- What a poll gives with valid queues: a refusal that changes nothing, or what is heard, in its result and its buffer.
-- Assumes nothing.
use Rattle.std.specs.Prelude.{Some, None, Result, Ok, Err}
use mathlib.Core.Path.{◌≡◌, refl}
use mathlib.Core.Bool.{true}
use mathlib.Core.List.{List}
use Prim.Native.Nat.{ℕ}
use lib.Dec.{ltb}
use lib.ListN.{length}
use Rattle.lists.proofs.Cases.{by_test}
use Rattle.refusal.specs.declared.Refusal.{Refusal}
use Rattle.eventrequests.specs.declared.EventRequest.{EventRequest}
use Rattle.guard.specs.Guard.{guard}
use Rattle.queues.specs.Queues.{valid_queues}
use Rattle.polls.specs.Poll.{poll}
use Rattle.polls.specs.Calls.{poll_refusing, polling, poll_call}
use Rattle.eventsequence.specs.Calls.{State}
use Rattle.eventsequence.specs.Sequence.{Told, poll_refusal}

module _ (now : State) (v : valid_queues now.table now.queues ≡ true) where
  pub refused_next : (read : Result EventRequest Refusal) (buffer : List ℕ) (why : Refusal) → poll_refusal read buffer ≡ Some why
      → poll_call read buffer now.table now.queues ≡ poll_refusing why buffer now.queues
  unfolding guard poll_call
  refused_next (Ok request) buffer why due =
      by_test (ltb (length buffer) 116) (λ short. let is = simp short at due in simp (short, v) cc) (λ long. let wrong = simp long at due in cc)
  refused_next (Err given) buffer why due =
      by_test (ltb (length buffer) 116) (λ short. let is = simp short at due in simp (short, v) cc) (λ long. let is = simp long at due in simp (long, v) cc)

  pub told_next : (request : EventRequest) (buffer : List ℕ) → poll_refusal (Ok request) buffer ≡ None → Told request now buffer (poll_call (Ok request) buffer now.table now.queues)
  unfolding guard polling poll poll_call
  told_next request buffer due =
      by_test (ltb (length buffer) 116)
      (λ short. let wrong = simp short at due in cc)
      (λ long. simp (long, v) (record { result = refl; holds = refl }))
