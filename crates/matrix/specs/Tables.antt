-- The matrix of a table: one seed, and its numbers row by row. Assumes nothing.
use Rattle.std.specs.Prelude.{ℕ, ◌+◌, ◌*◌, ◌%◌, Bool, cond, ◌&&◌, List, length, Ok, Err, Option, Result, ◌==◌, nat_le, slice_index}
use Rattle.std.proofs.Common.{mod-lt, arith}
use Rattle.std.specs.Str.{bytes_eq}
use Rattle.matrix.specs.Matrices.{Matrices, Sound, Row}
use Rattle.matrix.specs.Rows.{row_of}
use Rattle.matrix.specs.declared.fault.SourceFault.{SourceFault}
use Rattle.matrix.specs.declared.fault.SourceFault.TheVariants.{Shape}
use Rattle.matrix.specs.declared.table.TableSource.{TableSource}

-- n rows of n numbers, modulo q, under one seed
abbrev pub table : (n q : ℕ) (seed numbers : List ℕ) → Matrices
table n q seed numbers = record {
  side = n;
  modulus = q;
  known = bytes_eq seed;
  entry = λ _ i j. slice_index numbers (i * n + j) % q;
}

-- the limits of a side and a modulus, and as many numbers as the square of the side
abbrev pub fits_table : (n q count : ℕ) → Bool
fits_table n q count = nat_le 1 n && nat_le n 1024 && nat_le 2 q && nat_le q 32768 && count == n * n

abbrev pub table_built : (n q : ℕ) (seed numbers : List ℕ) → Result Matrices SourceFault
table_built n q seed numbers = cond (fits_table n q (length numbers)) (Ok (table n q seed numbers)) (Err Shape)

-- what a `TableSource` means
abbrev pub table_of : TableSource → Matrices
table_of t = table t.n t.q t.seed t.numbers.now

pub table_sound : (t : TableSource) → Sound (table_of t)
table_sound t = record {
  side = t.side;
  modulus = t.modulus;
  below = λ seed i j known hi hj. mod-lt _ (omega (arith, t.modulus.0));
}

-- the row that it is turned to
abbrev pub table_row : TableSource → Option Row
table_row t = row_of t.seed t.row
