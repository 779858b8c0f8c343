-- The entries of a row, one after another. Assumes nothing.
use Rattle.std.proofs.Common.{◌≡◌, ℕ, zero, suc, ◌+◌, ◌*◌, ◌<◌, List, [], ◌∷◌, ◌++◌, map, length, get_or, take, drop, set, sym, ap, ◌∙◌, ap₂, zero-add, arith}
use Rattle.std.specs.Simd.{first_chunks}
use Rattle.std.specs.List.{range_with_len}
use Rattle.std.proofs.lemmas.List.FromFn.{map-range_with_len_more, get_or-map-range_with_len}
use Rattle.std.proofs.lemmas.List.{take_more_set, get_or-take, get_or-drop}

-- byte i of the two of entry j
pub pair_at : (k j i : ℕ) (xs : List ℕ) → j < k → i < 2 → get_or (get_or (first_chunks 2 k xs) j []) i 0 ≡ get_or xs (2 * j + i) 0
pair_at zero j i xs h small = absurd (omega arith)
pair_at (suc k) zero i xs h small = get_or-take 2 xs i 0 small ∙ ap (λ m. get_or xs m 0) (omega arith)
pair_at (suc k) (suc j) i xs h small =
    pair_at k j i (drop 2 xs) (omega arith) small ∙ (get_or-drop 2 xs (2 * j + i) 0 ∙ ap (λ m. get_or xs m 0) (omega arith))

-- one entry more
pub written_more : (f : ℕ → ℕ) (xs : List ℕ) (j x : ℕ) → j < length xs → take j xs ≡ map f (range_with_len 0 j) → x ≡ f j
    → take (j + 1) (set xs j x) ≡ map f (range_with_len 0 (j + 1))
written_more f xs j x h so_far e =
    take_more_set xs j x h ∙ ap₂ (λ front last. front ++ (last ∷ [])) so_far e ∙ sym (map-range_with_len_more f 0 j j (zero-add j))

-- an entry that is read
pub read_at : (f : ℕ → ℕ) (xs : List ℕ) (n j : ℕ) → j < n → take n xs ≡ map f (range_with_len 0 n) → get_or xs j 0 ≡ f j
read_at f xs n j h e = sym (get_or-take n xs j 0 h) ∙ ap (λ ys. get_or ys j 0) e ∙ get_or-map-range_with_len f 0 n j j 0 h (zero-add j)
