-- Rotating a lane of 64 bits. Assumes nothing.
use Rattle.std.specs.Prelude.{◌≡◌, ℕ, zero, suc, ◌+◌, ◌-◌, ◌*◌, ◌/◌, ◌%◌, ◌^◌, ◌<◌, bit_or}

-- a lane rotated left by n places, below 64: the bits that are shifted out on the left come in on the right
abbrev pub rotate : (lane n : ℕ) → ℕ
rotate lane zero = lane
rotate lane (suc n) = bit_or (lane * 2 ^ suc n % 2 ^ 64) (lane / 2 ^ (64 - suc n))

-- bit z of a lane, the lowest bit at 0
abbrev pub bit : (lane z : ℕ) → ℕ
bit lane z = lane / 2 ^ z % 2

-- a rotated lane is a lane, and its bit at z + n, modulo 64, is the bit that stood at z
pub record RotationMovesBits : Type 0 where
  pub fits : (lane n : ℕ) → lane < 2 ^ 64 → n < 64 → rotate lane n < 2 ^ 64
  pub moves : (lane n z : ℕ) → lane < 2 ^ 64 → n < 64 → z < 64 → bit (rotate lane n) ((z + n) % 64) ≡ bit lane z
