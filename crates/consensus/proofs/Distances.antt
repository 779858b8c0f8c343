-- The largest d with (2 * d + 1) * m * g < bound. Assumes nothing.
use Rattle.std.proofs.Common.{ℕ, ◌+◌, ◌-◌, ◌*◌, ◌/◌, ◌<◌, ◌≤◌, mul-le-mul_right, mul-le-mul_left, arith}
use native.Mathlib.Nat.{div-add-mod}
use Rattle.std.proofs.lemmas.Nat.{le-div}
use Rattle.consensus.specs.Rules.{Allowed, Largest, largest_distance}

-- the same over one number a, which is m * g
module _ (a bound : ℕ) (some : 0 < a) where
  largest : ℕ
  largest = ((bound - 1) / a - 1) / 2

  largest_meets : a < bound → (2 * largest + 1) * a < bound
  unfolding largest
  largest_meets h =
      let t : 1 ≤ (bound - 1) / a = le-div 1 (bound - 1) a some (omega arith) in
      let odd : 2 * (((bound - 1) / a - 1) / 2) + 1 ≤ (bound - 1) / a = omega arith in
      let scaled = mul-le-mul_right a odd in
      omega (arith, div-add-mod (bound - 1) a)

  largest_most : (e : ℕ) → (2 * e + 1) * a < bound → e ≤ largest
  unfolding largest
  largest_most e near =
      let t : 2 * e + 1 ≤ (bound - 1) / a = le-div (2 * e + 1) (bound - 1) a some (omega arith) in
      omega arith

pub largest_distance_is : (m g bound : ℕ) → 0 < m * g → m * g < bound → Largest m g bound (largest_distance m g bound)
unfolding largest
largest_distance_is m g bound some h = record { meets = largest_meets (m * g) bound some h; most = largest_most (m * g) bound some }

-- within the limits there is a digit and a hint
pub some_cell : (q m g : ℕ) → Allowed q m g → 0 < m * g
some_cell q m g limits = let pg : 0 < g = omega arith in omega (arith, mul-le-mul_left m pg)
