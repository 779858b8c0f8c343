-- Matrices of whole numbers: sums, products, remainders, and how a list holds one. Assumes nothing.
-- A matrix is a function of the row and the column, both counted from 0.
use Rattle.std.specs.Prelude.{ℕ, zero, suc, ◌+◌, ◌-◌, ◌*◌, ◌/◌, ◌%◌, ◌≤◌, List, ◌++◌, map, length, take, replicate, ℤ, pos, ◌+ℤ◌, ◌*ℤ◌, slice_index, slice_index_or, unsigned_abs}
use Rattle.std.specs.List.{range_with_len}
use Rattle.consensus.specs.Arithmetic.{residue}

abbrev pub Matrix : Type 0
Matrix = ℕ → ℕ → ℤ

-- a matrix of numbers from 0 up, as remainders are
abbrev pub Residues : Type 0
Residues = ℕ → ℕ → ℕ

abbrev pub whole : Residues → Matrix
whole a i j = pos (a i j)

-- f 0 + f 1 + .. + f (n - 1)
abbrev pub sum : ℕ → (ℕ → ℤ) → ℤ
sum zero f = pos 0
sum (suc n) f = sum n f +ℤ f n

abbrev pub transposed : Matrix → Matrix
transposed a i j = a j i

-- the product, where a has n columns and b has n rows
abbrev pub times : ℕ → Matrix → Matrix → Matrix
times n a b i j = sum n (λ r. a i r *ℤ b r j)

abbrev pub plus : Matrix → Matrix → Matrix
plus a b i j = a i j +ℤ b i j

-- each entry mod q
abbrev pub reduced : ℕ → Matrix → Residues
reduced q a i j = residue (a i j) q

-- the matrix of l columns that a list holds row by row: of signed numbers, and of numbers from 0 up
abbrev pub signed : ℕ → List ℤ → Matrix
signed l xs i j = slice_index_or xs (i * l + j) (pos 0)

abbrev pub plain : ℕ → List ℕ → Matrix
plain l xs i j = pos (slice_index xs (i * l + j))

-- no number of a list is larger than b, either way
abbrev pub Within : ℕ → List ℤ → Type 0
Within b xs = (k : ℕ) → unsigned_abs (slice_index_or xs k (pos 0)) ≤ b

-- a matrix of m rows and l columns, row by row
abbrev pub by_rows : ℕ → ℕ → Residues → List ℕ
by_rows m l a = map (λ k. a (k / l) (k % l)) (range_with_len 0 (m * l))

-- an array of n elements: the first of xs, and then d
abbrev pub padded : {X : Type 0} → X → ℕ → List X → List X
padded d n xs = take n xs ++ replicate (n - length xs) d
