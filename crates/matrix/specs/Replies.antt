-- What a source's calls answer, and what they leave. Assumes nothing.
use Rattle.std.specs.Prelude.{◌≡◌, ℕ, cond, List, Some, None, Ok, Err, Option, Result, nat_lt}
use Rattle.std.specs.Result.{result_map_both}
use Rattle.matrix.specs.Matrices as matrices
use Rattle.matrix.specs.Matrices.{Matrices}
use Rattle.matrix.specs.declared.fault.SourceFault.{SourceFault}
use Rattle.matrix.specs.declared.fault.SourceFault.TheVariants.{NotTurned, Row, Column, UnknownSeed}

-- the meaning of what was built
abbrev pub means : {S : Type 0} → (S → Matrices) → Result S SourceFault → Result Matrices SourceFault
means meaning r = result_map_both meaning (λ fault. fault) r

-- an unknown seed is refused first, then a row out of range
abbrev pub turn_reply : Matrices → List ℕ → ℕ → Result (Unit {0}) SourceFault
turn_reply m seed row = cond (m.known seed) (cond (nat_lt row m.side) (Ok tt) (Err Row)) (Err UnknownSeed)

-- a granted turn changes the row and nothing else of the meaning; a refused one changes nothing
pub record Turn {S : Type 0} (meaning : S → Matrices) (turned : S → Option matrices.Row) (seed : List ℕ) (row : ℕ) (before after : S) (r : Result (Unit {0}) SourceFault) : Type 0 where
  pub answer : r ≡ turn_reply (meaning before) seed row
  pub kept : meaning after ≡ meaning before
  pub granted : r ≡ Ok tt → turned after ≡ Some (seed, row)
  pub refused : (fault : SourceFault) → r ≡ Err fault → after ≡ before

-- before any turn nothing can be read, then only a column in range
abbrev pub column_reply : Matrices → Option matrices.Row → ℕ → Result ℕ SourceFault
column_reply m None j = Err NotTurned
column_reply m (Some row) j = cond (nat_lt j m.side) (Ok (m.entry row.0 row.1 j)) (Err Column)
