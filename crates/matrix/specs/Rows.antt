-- The row that a source is turned to, from the seed and the number that it holds. Assumes nothing.
use Rattle.std.specs.Prelude.{ℕ, List, Some, None, Option}
use Rattle.matrix.specs.Matrices.{Row}

abbrev pub row_of : List ℕ → Option ℕ → Option Row
row_of seed None = None
row_of seed (Some row) = Some (seed, row)
