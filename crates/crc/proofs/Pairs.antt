-- An input that is taken two bytes at a time, as the library cuts it: which bytes a pair holds, and which is left behind them.
-- Assumes nothing.
use Rattle.std.proofs.Common.{◌≡◌, ◌∙◌, refl, ap, ℕ, zero, suc, ◌+◌, ◌*◌, ◌<◌, List, [], get_or, take, drop, arith}
use Rattle.std.specs.Simd.{first_chunks}
use lib.Seq.{drop-drop, get_or-take, get_or-drop}

chunk_at : (n k : ℕ) (xs : List ℕ) → k < n → get_or (first_chunks 2 n xs) k [] ≡ take 2 (drop (2 * k) xs)
chunk_at zero k xs h = let z : ⊥ = omega arith in absurd z
chunk_at (suc n) zero xs h = refl
chunk_at (suc n) (suc k) xs h =
    let more : 2 + 2 * k ≡ 2 * suc k = omega arith in
    chunk_at n k (drop 2 xs) (omega arith) ∙ ap (take 2) (drop-drop (2 * k) 2 xs ∙ ap (λ (i : ℕ). drop i xs) more)

-- the bytes of the pair at k
pub pair_at : (n k j : ℕ) (xs : List ℕ) → k < n → j < 2 → get_or (get_or (first_chunks 2 n xs) k []) j 0 ≡ get_or xs (2 * k + j) 0
pair_at n k j xs h two =
    ap (λ (l : List ℕ). get_or l j 0) (chunk_at n k xs h)
    ∙ get_or-take 2 (drop (2 * k) xs) j 0 two
    ∙ get_or-drop (2 * k) xs j 0
