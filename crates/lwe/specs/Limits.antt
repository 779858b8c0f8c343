-- The limits of an exchange's sizes. Assumes nothing.
use Rattle.std.specs.Prelude.{◌≡◌, ℕ, ◌≤◌}
use Rattle.lwe.specs.declared.sizes.Sizes.{Sizes}

pub record Limits (q n la lb : ℕ) : Type 0 where
  pub modulus : (2 ≤ q) × (q ≤ 32768)
  pub side : (1 ≤ n) × (n ≤ 1024)
  pub opening : (1 ≤ la) × (la ≤ 8)
  pub answering : (1 ≤ lb) × (lb ≤ 8)

-- the rows and the columns of the two ends' matrices
pub record Dimensions : Type 0 where
  pub n : ℕ
  pub la : ℕ
  pub lb : ℕ

abbrev pub dimensions : Sizes → Dimensions
dimensions s = record { n = s.n; la = s.la; lb = s.lb }

-- the sizes are these
pub record Holds (q n la lb : ℕ) (s : Sizes) : Type 0 where
  pub modulus : s.q ≡ q
  pub side : s.n ≡ n
  pub opening : s.la ≡ la
  pub answering : s.lb ≡ lb
