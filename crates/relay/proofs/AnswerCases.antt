-- What a device says to a write and to sync, by the write that it remembers, and to any message, by what the message is.
-- Assumes nothing.
use Rattle.std.specs.Prelude.{Option, Some, None}
use mathlib.Core.Path.{◌≡◌, refl, sym, ap, ap₂, ◌∙◌}
use mathlib.Core.Bool.{Bool, true, false}
use Prim.Native.Nat.{ℕ}
use borrow.Author.Tests.{eq-eqb, ne_eqb}
use Rattle.railbus.specs.declared.Short.{Short}
use Rattle.railbus.specs.declared.Short.TheVariants.{ReadRequest, NotAcknowledge}
use Rattle.railbus.specs.declared.Long.{Long}
use Rattle.railbus.specs.declared.Long.TheVariants.{WriteRequest, ReadAcknowledge, WriteAcknowledge, Special}
use Rattle.railbus.specs.declared.Message.{Message}
use Rattle.railbus.specs.declared.Message.TheVariants.{Bare, With}
use Rattle.relay.specs.Device.{may_read, may_write}
use Rattle.relay.specs.Answers.{received, retransmission, done_before, forbidden, busy, synced, special, responding, copy, on_write, on_sync, behind_access, on_message}
use Rattle.relay.specs.declared.Remembered.{Remembered}
use Rattle.relay.specs.declared.Remembered.TheVariants.{Idle, Running, Finished}
use Rattle.relay.specs.declared.Response.{Response}

-- ---- a write

module _ (register value : ℕ) (write : Remembered) where
  abbrev taken : Response
  taken = responding (special received) (Running register value)

  pub write_first : write ≡ Idle → taken ≡ on_write register value write
  write_first e = sym (ap (on_write register value) e)

  module _ (register' value' : ℕ) where
    -- one runs: its copy, and any other write
    pub copy_running : {said : Option Message} → write ≡ Running register' value' → copy register value register' value' ≡ true → said ≡ special retransmission
        → responding said (Running register' value') ≡ on_write register value write
    copy_running {said} e same says = simp (says, e, same)

    pub other_running : {said : Option Message} → write ≡ Running register' value' → copy register value register' value' ≡ false → said ≡ special busy
        → responding said (Running register' value') ≡ on_write register value write
    other_running {said} e same says = simp (says, e, same)

    -- one has finished: its copy does not run again, any other write does
    pub copy_finished : {said : Option Message} → write ≡ Finished register' value' → copy register value register' value' ≡ true → said ≡ special done_before
        → responding said (Finished register' value') ≡ on_write register value write
    copy_finished {said} e same says = simp (says, e, same)

    pub other_finished : write ≡ Finished register' value' → copy register value register' value' ≡ false → taken ≡ on_write register value write
    other_finished e same = simp (e, same)

-- ---- sync

module _ (write : Remembered) {said : Option Message} where
  pub sync_running : (register value : ℕ) → write ≡ Running register value → said ≡ special busy → responding said write ≡ on_sync write
  sync_running register value e says = ap₂ responding says e ∙ sym (ap on_sync e)

  -- one that does not run is forgotten
  pub sync_idle : ((register value : ℕ) → write ≡ Running register value → ⊥) → said ≡ special synced → responding said Idle ≡ on_sync write
  sync_idle other says = ap (λ (x : Option Message). responding x Idle) says ∙ forgotten write other
    where
      forgotten : (w : Remembered) → ((register value : ℕ) → w ≡ Running register value → ⊥) → responding (special synced) Idle ≡ on_sync w
      forgotten Idle still = refl
      forgotten (Running register value) still = absurd (still register value refl)
      forgotten (Finished register value) still = refl

-- ---- behind the access byte

module _ (access : ℕ) (may : Bool) (write : Remembered) (response : Response) where
  abbrev behind : Response
  behind = behind_access access may write response

  pub absent_asked : access ≡ 0 → responding (Some (Bare NotAcknowledge)) write ≡ behind
  absent_asked e = simp (eq-eqb access 0 e)

  pub allowed_asked : (access ≡ 0 → ⊥) → may ≡ true → response ≡ behind
  allowed_asked e m = simp (ne_eqb access 0 e, m)

  pub forbidden_asked : {said : Option Message} → (access ≡ 0 → ⊥) → may ≡ false → said ≡ special forbidden → responding said write ≡ behind
  forbidden_asked {said} e m says = simp (says, ne_eqb access 0 e, m)

-- ---- any message

module _ (access value register : ℕ) (message : Message) (write : Remembered) where
  abbrev to : Message → Response
  to m = on_message access value register m write

  pub bare_asked : (short kind : Short) → message ≡ Bare short → short ≡ kind → to (Bare kind) ≡ to message
  bare_asked short kind m s = sym (ap to (m ∙ ap Bare s))

  pub read_asked : (may : Bool) (short : Short) → message ≡ Bare short → short ≡ ReadRequest → may ≡ may_read access
      → behind_access access may write (responding (Some (With ReadAcknowledge value)) write) ≡ to message
  read_asked may short m s may_is =
      ap (λ (b : Bool). behind_access access b write (responding (Some (With ReadAcknowledge value)) write)) may_is ∙ bare_asked short ReadRequest m s

  pub write_asked : (may : Bool) (long : Long) (new : ℕ) (response : Response) → message ≡ With long new → long ≡ WriteRequest → may ≡ may_write access
      → response ≡ on_write register new write → behind_access access may write response ≡ to message
  write_asked may long new response m l may_is response_is =
      ap₂ (λ (b : Bool) (r : Response). behind_access access b write r) may_is response_is ∙ sym (ap to (m ∙ ap (λ (x : Long). With x new) l))

  -- what only a device says gets no answer
  pub answer_heard : (long : Long) (new : ℕ) → message ≡ With long new → (long ≡ WriteRequest → ⊥) → responding None write ≡ to message
  answer_heard long new m other = sym (ap to m ∙ heard long other)
    where
      heard : (l : Long) → (l ≡ WriteRequest → ⊥) → to (With l new) ≡ responding None write
      heard WriteRequest ask = absurd (ask refl)
      heard ReadAcknowledge ask = refl
      heard WriteAcknowledge ask = refl
      heard Special ask = refl
