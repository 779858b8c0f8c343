-- The arithmetic of the rules. Assumes nothing.
use Rattle.std.specs.Prelude.{ℕ, zero, suc, ◌+◌, ◌-◌, ◌*◌, ◌/◌, ◌%◌, min, max, cond, ◌&&◌, ℤ, pos, ◌+ℤ◌, ◌-ℤ◌, ◌*ℤ◌, ◌==◌, unsigned_abs}
use Rattle.std.specs.Int.{int_div_euclid, int_rem_euclid, ◌∣◌}

-- x mod t, from 0 to t - 1, for a negative x too
abbrev pub residue : ℤ → ℕ → ℕ
residue x t = unsigned_abs (int_rem_euclid x (pos t))

-- the greatest whole number not above x / b
abbrev pub floor : ℤ → ℕ → ℤ
floor x b = int_div_euclid x (pos b)

-- a / b to the nearest whole number, a half upwards
abbrev pub round : ℕ → ℕ → ℕ
round a b = (2 * a + b) / (2 * b)

-- the same of a signed number
abbrev pub nearest : ℤ → ℕ → ℤ
nearest x b = floor (pos 2 *ℤ x +ℤ pos b) (2 * b)

-- the distance of x around q: the shorter way to a multiple of q
abbrev pub around : ℕ → ℤ → ℕ
around q x = min (residue x q) (q - residue x q)

-- how far a and b lie apart around q
abbrev pub apart : ℕ → ℕ → ℕ → ℕ
apart q a b = around q (pos a -ℤ pos b)

-- the greatest number up to n that divides both a and b
abbrev pub greatest_up_to : ℕ → ℕ → ℕ → ℕ
greatest_up_to zero a b = 0
greatest_up_to (suc n) a b = cond (a % suc n == 0 && b % suc n == 0) (suc n) (greatest_up_to n a b)

-- the greatest common divisor
unfoldable pub gcd : ℕ → ℕ → ℕ
gcd a b = greatest_up_to (max a b) a b

-- what makes r the greatest common divisor of a and b
pub record GreatestDivisor (a b r : ℕ) : Type 0 where
  pub left : r ∣ a
  pub right : r ∣ b
  pub most : (d : ℕ) → d ∣ a → d ∣ b → d ∣ r
