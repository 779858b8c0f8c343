-- Numbers in two bytes each, high byte first. Assumes nothing.
use Rattle.std.specs.Prelude.{ℕ, ◌+◌, ◌*◌, ◌/◌, ◌%◌, List, [], ◌∷◌, slice_index}

-- the number at the bytes p and p + 1
abbrev pub number_at : List ℕ → ℕ → ℕ
number_at m p = slice_index m p * 256 + slice_index m (p + 1)

-- numbers written one after another
abbrev pub bytes_of : List ℕ → List ℕ
bytes_of [] = []
bytes_of (x ∷ xs) = x / 256 ∷ x % 256 ∷ bytes_of xs

-- the numbers that bytes write
abbrev pub numbers_of : List ℕ → List ℕ
numbers_of [] = []
numbers_of (b ∷ []) = []
numbers_of (high ∷ low ∷ bytes) = (high * 256 + low) ∷ numbers_of bytes
