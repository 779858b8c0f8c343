-- What the calls that work out Y1 and Y2 answer, and what they leave of the source. Assumes nothing.
use Rattle.std.specs.Prelude.{◌≡◌, ℕ, cond, List, Ok, Err, Result, ◌==◌}
use Rattle.matrix.specs.Matrices.{Matrices}
use Rattle.matrix.specs.declared.fault.SourceFault.{SourceFault}
use Rattle.matrix.specs.declared.fault.SourceFault.TheVariants.{Shape, UnknownSeed}
use Rattle.lwe.specs.Matrices.{Matrix, Residues, whole, by_rows, padded}

-- the public matrix of a seed
abbrev pub public_matrix : Matrices → List ℕ → Matrix
public_matrix m seed = whole (m.entry seed)

-- a source of another side is refused first, then an unknown seed
abbrev pub image_reply : Matrices → List ℕ → (n l : ℕ) → Residues → Result (List ℕ) SourceFault
image_reply m seed n l image =
    cond (m.side == n) (cond (m.known seed) (Ok (padded 0 8192 (by_rows n l image))) (Err UnknownSeed)) (Err Shape)

-- The answer, and the source after it: it means what it meant, and a refusal leaves it as it was. The row that it is turned to
-- is free where the call is granted.
pub record Imaged {S : Type 0} (meaning : S → Matrices) (seed : List ℕ) (n l : ℕ) (image : Residues) (before after : S) (r : Result (List ℕ) SourceFault) : Type 0 where
  pub answer : r ≡ image_reply (meaning before) seed n l image
  pub kept : meaning after ≡ meaning before
  pub refused : (fault : SourceFault) → r ≡ Err fault → after ≡ before
