-- What a matrix source means. Assumes nothing.
use Rattle.std.specs.Prelude.{◌≡◌, ℕ, ◌<◌, ◌≤◌, Bool, true, List}

-- Square matrices, one for each known seed: `entry seed i j` stands in row i and column j.
pub record Matrices : Type 0 where
  pub side : ℕ
  pub modulus : ℕ
  pub known : List ℕ → Bool
  pub entry : List ℕ → ℕ → ℕ → ℕ

-- a row of a matrix: its seed, and its number
abbrev pub Row : Type 0
Row = List ℕ × ℕ

-- what every source owes
pub record Sound (m : Matrices) : Type 0 where
  pub side : (1 ≤ m.side) × (m.side ≤ 1024)
  pub modulus : (2 ≤ m.modulus) × (m.modulus ≤ 32768)
  pub below : (seed : List ℕ) (i j : ℕ) → m.known seed ≡ true → i < m.side → j < m.side → m.entry seed i j < m.modulus
