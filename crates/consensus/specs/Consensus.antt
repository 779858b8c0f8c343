-- What a consensus rule means, at one place and at many. Assumes nothing.
use Rattle.std.specs.Prelude.{ℕ, List, [], ◌∷◌, map}

-- Two sides hold sums that differ a little. Settling takes a sum and a draw to a digit and a hint, which is made public;
-- recovering takes the other sum and the hint to a digit. Up to the distance apart around the modulus, the digits are equal.
-- Sums are below `modulus`, digits below `digits`, hints below `hints`, draws below `draws`.
pub record Consensus : Type 0 where
  pub modulus : ℕ
  pub digits : ℕ
  pub hints : ℕ
  pub distance : ℕ
  pub draws : ℕ
  pub settle : ℕ → ℕ → ℕ × ℕ
  pub recover : ℕ → ℕ → ℕ

-- a list of sums is settled place by place, each with a draw of its own
abbrev pub settle_all : Consensus → List ℕ → List ℕ → List (ℕ × ℕ)
settle_all c [] draws = []
settle_all c (sum ∷ sums) [] = []
settle_all c (sum ∷ sums) (draw ∷ draws) = c.settle sum draw ∷ settle_all c sums draws

abbrev pub digits_of : List (ℕ × ℕ) → List ℕ
digits_of = map (λ settled. settled.0)

abbrev pub hints_of : List (ℕ × ℕ) → List ℕ
hints_of = map (λ settled. settled.1)
