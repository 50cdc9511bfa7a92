-- Any list of calls: each one did what is heard of it, so all of them did.
-- Assumes nothing.
use mathlib.Core.Path.{◌≡◌, refl, sym, ap, ◌∙◌}
use mathlib.Core.List.{List, [], ◌∷◌, ◌++◌, append-nil, append_assoc}
use Rattle.railbus.specs.RoundTrip.{RailbusPackets}
use Rattle.relay.specs.declared.Remembered.{Remembered}
use Rattle.relaysequence.specs.Calls.{Call, State, stepped, after_all}
use Rattle.relaysequence.specs.Heard.{Write, received_in, carried_in, received_writes, carried_out, stored, told, running_in}
use Rattle.relaysequence.specs.Sequence.{Fits}
use Rattle.relaysequence.proofs.Registers.{stored_joined}
use Rattle.relaysequence.proofs.OneCall.{Did, call_did}

-- running, received and carried out, of one call and then of those behind it
lined_up : (running received later carried middle after last : List Write) → running ++ received ≡ carried ++ middle → middle ++ later ≡ after ++ last
    → running ++ (received ++ later) ≡ (carried ++ after) ++ last
lined_up running received later carried middle after last first rest =
    sym (append_assoc running received later)
    ∙ ap (λ (ws : List Write). ws ++ later) first
    ∙ append_assoc carried middle later
    ∙ ap (λ (ws : List Write). carried ++ ws) rest
    ∙ sym (append_assoc carried after last)

module _ (packets : RailbusPackets) where
  did : (call : Call) (calls : List Call) (s : State) → Fits s (call ∷ calls) → Did call s
  did call calls s fits = call_did packets call s fits.addresses_fit.0 fits.write_fits fits.registers_fit

  fits_next : (call : Call) (calls : List Call) (s : State) → Fits s (call ∷ calls) → Fits (stepped call s) calls
  fits_next call calls s fits =
      let d = did call calls s fits in
      record { write_fits = d.fits; registers_fit = d.registers_fit; addresses_fit = fits.addresses_fit.1 }

  pub all_fit : (calls : List Call) (s : State) → Fits s calls → Fits (after_all calls s) []
  unfolding after_all
  all_fit [] s fits = fits
  all_fit (call ∷ calls) s fits = all_fit calls (stepped call s) (fits_next call calls s fits)

  pub all_once : (calls : List Call) (s : State) → Fits s calls → running_in s.write ++ received_writes calls s ≡ carried_out calls s ++ running_in (after_all calls s).write
  unfolding after_all received_writes carried_out
  all_once [] s fits = append-nil (running_in s.write)
  all_once (call ∷ calls) s fits =
      lined_up (running_in s.write) (received_in call s) (received_writes calls (stepped call s)) (carried_in call s) (running_in (stepped call s).write)
      (carried_out calls (stepped call s)) (running_in (after_all calls (stepped call s)).write)
      (did call calls s fits).once (all_once calls (stepped call s) (fits_next call calls s fits))

  pub all_stored : (calls : List Call) (s : State) → Fits s calls → (after_all calls s).registers ≡ stored (carried_out calls s) s.registers
  unfolding after_all carried_out stored
  all_stored [] s fits = refl
  all_stored (call ∷ calls) s fits =
      all_stored calls (stepped call s) (fits_next call calls s fits)
      ∙ ap (stored (carried_out calls (stepped call s))) (did call calls s fits).stores
      ∙ sym (stored_joined (carried_in call s) (carried_out calls (stepped call s)) s.registers)

  pub all_told : (calls : List Call) (s : State) → Fits s calls → (after_all calls s).write ≡ told calls s s.write
  unfolding after_all told
  all_told [] s fits = refl
  all_told (call ∷ calls) s fits =
      all_told calls (stepped call s) (fits_next call calls s fits)
      ∙ ap (λ (r : Remembered). told calls (stepped call s) r) (did call calls s fits).tells
