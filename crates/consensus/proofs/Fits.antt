-- How large the numbers get that a rule within its limits computes. Assumes nothing.
use Rattle.std.proofs.Common.{ℕ, ◌+◌, ◌*◌, ◌^◌, ◌<◌, ◌≤◌, mul-le-mul_left, arith}
use native.Mathlib.Nat.{le_of_mul-le-mul_left}
use Rattle.std.proofs.lemmas.Nat.{mul-le}
use Rattle.consensus.specs.Arithmetic.{round}
use Rattle.consensus.specs.Rules.{Allowed}
use Rattle.consensus.specs.AkcnAgreement.{round_low}

module _ (q m g : ℕ) (allowed : Allowed q m g) where
  -- a digit stands within the modulus
  pub digit_place : (k : ℕ) → k < m → round (q * k) m ≤ q
  digit_place k h =
      let pm : 0 < m = omega arith in
      le_of_mul-le-mul_left {k = 2 * m} (omega (arith, round_low (q * k) m pm, mul-le-mul_left q h)) (omega arith)

  pub hint_small : (sum at : ℕ) → sum < q → at ≤ q → g * (sum + at) < 2 ^ 30
  hint_small sum at ls la = omega (arith, mul-le g (sum + at) 4096 65536 (omega arith) (omega arith))
