-- What the exchange comes to at a few small numbers. Assumes nothing.
use Rattle.std.specs.Prelude.{◌≡◌, ℕ, [], ◌∷◌, pos, negsuc}
use Rattle.consensus.specs.Arithmetic.{around}
use Rattle.lwe.specs.Exchange.{Y1, Y2, Σ1, Σ2, Drawn, drift}
use Rattle.lwe.specs.Matrices.{Matrix, by_rows, padded, plain, signed}

-- modulus 32, and each matrix of one entry
abbrev one : Drawn
one = record {
  X1 = signed 1 (pos 2 ∷ []);
  E1 = signed 1 (negsuc 0 ∷ []);
  X2 = signed 1 (negsuc 0 ∷ []);
  E2 = signed 1 (pos 1 ∷ []);
  Eσ = signed 1 (negsuc 0 ∷ []);
}

-- modulus 16, two rows, two columns at the opening end and one at the answering end
abbrev two : Drawn
two = record {
  X1 = signed 2 (pos 1 ∷ pos 0 ∷ negsuc 0 ∷ pos 2 ∷ []);
  E1 = signed 2 (pos 0 ∷ pos 1 ∷ pos 1 ∷ negsuc 0 ∷ []);
  X2 = signed 1 (pos 2 ∷ negsuc 0 ∷ []);
  E2 = signed 1 (pos 1 ∷ pos 1 ∷ []);
  Eσ = signed 1 (pos 0 ∷ pos 1 ∷ []);
}

abbrev A : Matrix
A = plain 2 (1 ∷ 2 ∷ 3 ∷ 4 ∷ [])

pub record Examples : Type 0 where
  pub one_offered : by_rows 1 1 (Y1 32 1 (plain 1 (5 ∷ [])) one.X1 one.E1) ≡ 9 ∷ []
  pub one_answered : by_rows 1 1 (Y2 32 1 (plain 1 (5 ∷ [])) one.X2 one.E2) ≡ 28 ∷ []
  pub one_answering : by_rows 1 1 (Σ2 32 1 (plain 1 (9 ∷ [])) one.X2 one.Eσ) ≡ 22 ∷ []
  pub one_opening : by_rows 1 1 (Σ1 32 1 one.X1 (plain 1 (28 ∷ []))) ≡ 24 ∷ []
  pub one_drift : drift 1 one 0 0 ≡ pos 2
  pub two_offered : by_rows 2 2 (Y1 16 2 A two.X1 two.E1) ≡ 15 ∷ 5 ∷ 0 ∷ 7 ∷ []
  pub two_answered : by_rows 2 1 (Y2 16 2 A two.X2 two.E2) ≡ 0 ∷ 1 ∷ []
  pub two_answering : by_rows 2 1 (Σ2 16 2 (plain 2 (15 ∷ 5 ∷ 0 ∷ 7 ∷ [])) two.X2 two.Eσ) ≡ 14 ∷ 4 ∷ []
  pub two_opening : by_rows 2 1 (Σ1 16 2 two.X1 (plain 1 (0 ∷ 1 ∷ []))) ≡ 15 ∷ 2 ∷ []
  pub two_drifts : (drift 2 two 0 0 ≡ pos 1) × (drift 2 two 1 0 ≡ negsuc 1)
  -- the distance of a drift around the modulus, either way
  pub distances : (around 32 (pos 2) ≡ 2) × (around 16 (negsuc 1) ≡ 2) × (around 16 (pos 15) ≡ 1)
  -- entries at the front of an array, and zeros behind
  pub array : padded {X = ℕ} 0 4 (15 ∷ 2 ∷ []) ≡ 15 ∷ 2 ∷ 0 ∷ 0 ∷ []
