-- The keys of a poll: one for each device.
-- Assumes nothing.
use mathlib.Core.Path.{◌≡◌, refl, sym, ap, ◌∙◌}
use mathlib.Core.List.{List}
use Prim.Native.Nat.{ℕ, zero, suc, ◌+◌, ◌<◌}
use native.Mathlib.Nat.{add-zero}
use native.Mathlib.Omega.{arith}
use lib.ListN.{length, get_or}
use Rattle.eventrequests.specs.declared.EventRequest.{EventRequest}
use Rattle.queues.specs.Queues.{Queues, queue}
use Rattle.polls.specs.Poll.{poll_key, for_devices, poll_keys}

module _ (number : ℕ → ℕ) where
  pub each_length : (device more : ℕ) → length (for_devices number device more) ≡ more
  unfolding for_devices
  each_length device zero = refl
  each_length device (suc more) = ap suc (each_length (suc device) more)

  pub each_at : (device more i : ℕ) → i < more → get_or (for_devices number device more) i 0 ≡ number (device + i)
  unfolding for_devices
  each_at device zero i h = absurd (omega arith)
  each_at device (suc more) zero h = ap number (sym (add-zero device))
  each_at device (suc more) (suc i) h =
      let place : suc device + i ≡ device + suc i = omega arith in
      each_at (suc device) more i (omega arith) ∙ ap number place

module _ (request : EventRequest) (ids : List ℕ) (q : Queues) where
  pub keys_length : length (poll_keys request ids q) ≡ length ids
  unfolding poll_keys
  keys_length = each_length (λ (device : ℕ). poll_key request (get_or ids device 0) (queue q device)) 0 (length ids)

  pub keys_at : (i : ℕ) → i < length ids → get_or (poll_keys request ids q) i 0 ≡ poll_key request (get_or ids i 0) (queue q i)
  unfolding poll_keys
  keys_at i h =
      let place : 0 + i ≡ i = omega arith in
      each_at (λ (device : ℕ). poll_key request (get_or ids device 0) (queue q device)) 0 (length ids) i h
      ∙ ap (λ (device : ℕ). poll_key request (get_or ids device 0) (queue q device)) place
