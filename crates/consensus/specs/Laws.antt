-- What every consensus rule owes. Assumes nothing.
use Rattle.std.specs.Prelude.{◌≡◌, ℕ, ◌<◌, ◌≤◌}
use Rattle.consensus.specs.Arithmetic.{apart}
use Rattle.consensus.specs.Consensus.{Consensus}
use Rattle.consensus.specs.Evenness.{Even}

-- n lies from low to high
abbrev pub Between : ℕ → ℕ → ℕ → Type 0
Between low n high = (low ≤ n) × (n ≤ high)

pub record Limited (c : Consensus) : Type 0 where
  pub modulus : Between 2 c.modulus 32768
  pub digits : Between 2 c.digits 256
  pub hints : Between 1 c.hints 65536
  pub draws : Between 1 c.draws 65536

-- what is settled and recovered is in range
pub record Ranged (c : Consensus) : Type 0 where
  pub digit : (sum draw : ℕ) → sum < c.modulus → draw < c.draws → (c.settle sum draw).0 < c.digits
  pub hint : (sum draw : ℕ) → sum < c.modulus → draw < c.draws → (c.settle sum draw).1 < c.hints
  pub recovered : (sum hint : ℕ) → sum < c.modulus → hint < c.hints → c.recover sum hint < c.digits

-- two sums at most the distance apart come to one digit, whatever the draw
abbrev pub Agreement : Consensus → Type 0
Agreement c =
    (a b draw : ℕ) → a < c.modulus → b < c.modulus → draw < c.draws → apart c.modulus a b ≤ c.distance
    → c.recover b (c.settle a draw).1 ≡ (c.settle a draw).0

pub record Lawful (c : Consensus) : Type 0 where
  pub limits : Limited c
  pub ranges : Ranged c
  pub agreement : Agreement c
  pub evenness : Even c
