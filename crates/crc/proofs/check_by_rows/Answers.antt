-- `crc::check_by_rows` meets its contract. Assumes nothing.
use Rattle.std.proofs.Common.{◌≡◌, ◌∙◌, sym, ap, subst, ℕ, ◌+◌, ◌*◌, ◌/◌, ◌%◌, ◌<◌, List, [], length, get_or, arith}
use Rattle.std.specs.Int.Bits.{bit_xor}
use native.Mathlib.Nat.{add-zero}
use lib.Seq.{get_or-drop}
use Rattle.crc.specs.Check.{modbus_check}
use Rattle.crc.proofs.Byte.{Running, by_rows, looked_up, modbus_turn, modbus_two, modbus_end}
use Rattle.crc.proofs.Pairs.{pair_at}
use Rattle.crc.proofs.check_by_rows.Goals as goal

pub loop-pair-preserved : goal.loop-pair-preserved
loop-pair-preserved c =
    let input = c.args.input.now in
    let l = c.loop-pair in
    let k = l.pair-index in
    let pairs = c.as_chunks.result.0.now in
    let half : length pairs ≡ length input / 2 = c.as_chunks.ensures.front_len in
    let within : k < length input / 2 = omega arith in
    let a = get_or input (2 * k) 0 in
    let b = get_or input (2 * k + 1) 0 in
    let pair = pair_at (length input / 2) k in
    let first : get_or (get_or pairs k []) 0 0 ≡ a = ap (λ (ps : List (List ℕ)). get_or (get_or ps k []) 0 0) c.as_chunks.ensures.front ∙ pair 0 input within (omega arith) ∙ ap (λ (i : ℕ). get_or input i 0) (add-zero (2 * k)) in
    let second : get_or (get_or pairs k []) 1 0 ≡ b = ap (λ (ps : List (List ℕ)). get_or (get_or ps k []) 1 0) c.as_chunks.ensures.front ∙ pair 1 input within (omega arith) in
    let both : a + b * 256 ≡ c.from_le_bytes.result = omega (arith, c.from_le_bytes.ensures, first, second) in
    let on : 2 * k + 2 ≡ 2 * (k + 1) = omega arith in
    let rows = l.invariant.0 in
    let two = modbus_two input rows (2 * k) l.register l.invariant.1 (omega arith) (omega (arith, c.type_inv.input (2 * k))) (omega (arith, c.type_inv.input (2 * k + 1))) in
    (rows, subst (λ (x : ℕ). Running input (by_rows c.modbus_rows-rows.result (bit_xor l.register x)) (2 * (k + 1))) both (subst (Running input _) on two))

pub returns-in-len1 : goal.returns-in-len1
returns-in-len1 c =
    let input = c.args.input.now in
    let l = c.loop-pair in
    let at = 2 * l.pair-index in
    let half : length c.as_chunks.result.0.now ≡ length input / 2 = c.as_chunks.ensures.front_len in
    let left : length c.as_chunks.result.1.now ≡ length input % 2 = c.as_chunks.ensures.back_len in
    let here : length input / 2 * 2 + 0 ≡ at = omega arith in
    let byte : get_or input at 0 ≡ c.from.result =
    sym (c.from.ensures ∙ ap (λ (bs : List ℕ). get_or bs 0 0) c.as_chunks.ensures.back ∙ get_or-drop (length input / 2 * 2) input 0 0 ∙ ap (λ (i : ℕ). get_or input i 0) here) in
    let turn = modbus_turn input at l.register _ l.invariant.1 (omega arith) (omega (arith, c.type_inv.input at)) (looked_up l.invariant.0.one l.register (get_or input at 0)) in
    let ends = modbus_end input (at + 1) _ turn (omega arith) in
    subst (λ (x : ℕ). bit_xor (l.register / 256) (get_or (get_or c.modbus_rows-rows.result 0 []) (bit_xor l.register x % 256) 0) ≡ modbus_check input) byte ends

pub returns-in_default : goal.returns-in_default
returns-in_default c =
    let input = c.args.input.now in
    let l = c.loop-pair in
    let half : length c.as_chunks.result.0.now ≡ length input / 2 = c.as_chunks.ensures.front_len in
    let left : length c.as_chunks.result.1.now ≡ length input % 2 = c.as_chunks.ensures.back_len in
    modbus_end input (2 * l.pair-index) l.register l.invariant.1 (omega arith)
