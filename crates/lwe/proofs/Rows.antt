-- Rows that are read one after another from a source. Assumes nothing.
use Rattle.std.proofs.Common.{◌≡◌, ℕ, ◌+◌, ◌<◌, Bool, true, false, cond, get_or, ltb, List, Some, None, Ok, Err, Option, Result, sym, refl, ap, ◌∙◌, arith}
use Rattle.matrix.specs.Matrices as matrices
use Rattle.matrix.specs.Matrices.{Matrices}
use Rattle.matrix.specs.Replies.{Turn, column_reply}
use Rattle.matrix.specs.declared.fault.SourceFault.{SourceFault}
use Rattle.matrix.specs.declared.fault.SourceFault.TheVariants.{Row, Column, UnknownSeed}

-- what is read in a column of the row that a source is turned to
pub column_entry : (m : Matrices) (t : Option matrices.Row) (seed : List ℕ) (i j x : ℕ) → t ≡ Some (seed, i) → Ok x ≡ column_reply m t j → x ≡ m.entry seed i j
column_entry m None seed i j x e r = cc
column_entry m (Some row) seed i j x e r =
    granted (ltb j m.side) (m.entry row.0 row.1 j) r ∙ let same : row ≡ (seed, i) = cc in ap (λ (t : matrices.Row). m.entry t.0 t.1 j) same
  where
    granted : (b : Bool) (y : ℕ) → Ok x ≡ cond b (Ok y) (Err Column) → x ≡ y
    granted true y e = cc
    granted false y e = cc

-- what a turn answers, from its two tests
abbrev reply : (known below : Bool) → Result (Unit {0}) SourceFault
reply known below = cond known (cond below (Ok tt) (Err Row)) (Err UnknownSeed)

-- the source after its first i rows were read
pub record Walked {S : Type 0} (meaning : S → Matrices) (seed : List ℕ) (i : ℕ) (before after : S) : Type 0 where
  pub kept : meaning after ≡ meaning before
  pub unread : i ≡ 0 → after ≡ before
  pub known : 0 < i → (meaning before).known seed ≡ true

module _ {S : Type 0} (meaning : S → Matrices) (turned : S → Option matrices.Row) (seed : List ℕ) (i : ℕ) (before during after : S) (r : Result (Unit {0}) SourceFault) (turn : Turn meaning turned seed i during after r) (walked : Walked meaning seed i before during) where
  -- a granted turn knows its seed
  granted : (known below : Bool) → reply known below ≡ Ok tt → known ≡ true
  granted true below e = cc
  granted false below e = cc

  pub walked_more : r ≡ Ok tt → Walked meaning seed (i + 1) before after
  walked_more ok = record {
    kept = turn.kept ∙ walked.kept;
    unread = λ e. absurd (omega arith);
    known = λ h. ap (λ (m : Matrices). m.known seed) (sym walked.kept) ∙ granted ((meaning during).known seed) (ltb i (meaning during).side) (sym turn.answer ∙ ok);
  }

-- a row that was read is that row of the matrix
pub row_entries : {S : Type 0} (meaning : S → Matrices) (seed : List ℕ) (i n : ℕ) (before during : S) (row : List ℕ) → Walked meaning seed i before during
    → ((j : ℕ) → j < n → get_or row j 0 ≡ (meaning during).entry seed i j) → (j : ℕ) → j < n → get_or row j 0 ≡ (meaning before).entry seed i j
row_entries meaning seed i n before during row walked read j h = read j h ∙ ap (λ (m : Matrices). m.entry seed i j) walked.kept

pub walked_none : {S : Type 0} (meaning : S → Matrices) (seed : List ℕ) (s : S) → Walked meaning seed 0 s s
walked_none meaning seed s = record { kept = refl; unread = λ _. refl; known = λ h. absurd (omega arith) }
