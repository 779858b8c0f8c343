-- A share by its place in the law. Assumes nothing.
use Rattle.std.specs.Prelude.{ℕ, ◌+◌, ◌*◌, ◌/◌, ◌%◌, List, [], ◌∷◌, drop, ℤ, pos, ◌-ℤ◌, ◌*ℤ◌, count_by, nat_le}
use Rattle.noise.specs.Laws.{Share, law_of}

-- the first word of each share, where the first share begins at a word
abbrev pub starts : ℕ → List Share → List ℕ
starts first [] = []
starts first (s ∷ shares) = first ∷ starts (first + s.count) shares

-- the words at which the next share begins
abbrev pub bounds : List Share → List ℕ
bounds shares = drop 1 (starts 0 shares)

abbrev pub bounds_of : ℕ → List ℕ
bounds_of number = bounds (law_of number).shares

-- how many bounds a word has reached
abbrev pub index_of : ℕ → ℕ → ℕ
index_of number word = count_by (λ bound. nat_le bound word) (bounds_of number)

-- 0, +1, −1, +2, −2 and so on
abbrev pub value_at : ℕ → ℤ
value_at index = pos ((index + 1) / 2) *ℤ (pos (2 * (index % 2)) -ℤ pos 1)
