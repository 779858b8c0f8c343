-- The rules OKCN and AKCN over a modulus q, m digits and g hints. Assumes nothing.
use Rattle.std.specs.Prelude.{ℕ, ◌+◌, ◌-◌, ◌*◌, ◌/◌, ◌%◌, ◌<◌, ◌≤◌, pos, ◌+ℤ◌, ◌-ℤ◌, ◌*ℤ◌}
use Rattle.consensus.specs.Arithmetic.{residue, floor, round, nearest, gcd}
use Rattle.consensus.specs.Consensus.{Consensus}
use Rattle.consensus.specs.Laws.{Between}

-- which numbers a rule may have
pub record Allowed (q m g : ℕ) : Type 0 where
  pub modulus : Between 2 q 32768
  pub digits : Between 2 m 256
  pub hints : Between 2 g 4096
  pub within : (m ≤ q) × (g ≤ q)

-- ---- the distance: the largest d with (2 * d + 1) * m * g < bound, where the bound is q * (g - 1) for OKCN and
-- q * (g - m) for AKCN (0 where g is below m, so that no d meets it)

abbrev pub Meets : (m g bound d : ℕ) → Type 0
Meets m g bound d = (2 * d + 1) * (m * g) < bound

abbrev pub NoneMeets : (m g bound : ℕ) → Type 0
NoneMeets m g bound = (d : ℕ) → Meets m g bound d → ⊥

pub record Largest (m g bound d : ℕ) : Type 0 where
  pub meets : Meets m g bound d
  pub most : (e : ℕ) → Meets m g bound e → e ≤ d

-- the largest, where any d meets the bound
abbrev pub largest_distance : (m g bound : ℕ) → ℕ
largest_distance m g bound = ((bound - 1) / (m * g) - 1) / 2

-- ---- OKCN, optimally balanced key consensus with noise

abbrev pub okcn_bound : (q g : ℕ) → ℕ
okcn_bound q g = q * (g - 1)

-- C, so many draws that the digits are met equally often
abbrev pub okcn_draws : (q m : ℕ) → ℕ
okcn_draws q m = m / gcd q m

-- s, C times the sum, moved by e around C * q, where e is the draw less half of C - 1
abbrev pub okcn_point : (C q sum draw : ℕ) → ℕ
okcn_point C q sum draw = let e = pos draw -ℤ pos ((C - 1) / 2) in residue (pos (C * sum) +ℤ e) (C * q)

-- the points from 0 to C * q - 1 are cut into m parts of β: the digit is the part of s, the hint its place in the part
abbrev pub okcn_cut : (g β s : ℕ) → ℕ × ℕ
okcn_cut g β s = (s / β, (s % β) * g / β)

abbrev pub okcn_settle : (C q m g sum draw : ℕ) → ℕ × ℕ
okcn_settle C q m g sum draw = okcn_cut g (C * q / m) (okcn_point C q sum draw)

abbrev pub okcn_recover : (q m g sum hint : ℕ) → ℕ
okcn_recover q m g sum hint =
    residue (floor (pos (2 * g * m * sum) -ℤ pos ((2 * hint + 1) * q) +ℤ pos (g * q)) (2 * g * q)) m

abbrev pub okcn : (q m g : ℕ) → Consensus
okcn q m g = record {
  modulus = q;
  digits = m;
  hints = g;
  distance = largest_distance m g (okcn_bound q g);
  draws = okcn_draws q m;
  settle = okcn_settle (okcn_draws q m) q m g;
  recover = okcn_recover q m g;
}

-- ---- AKCN, asymmetric key consensus with noise: the draw is the digit

abbrev pub akcn_bound : (q m g : ℕ) → ℕ
akcn_bound q m g = q * (g - m)

abbrev pub akcn_hint : (q m g sum digit : ℕ) → ℕ
akcn_hint q m g sum digit = round (g * (sum + round (q * digit) m)) q % g

abbrev pub akcn_recover : (q m g sum hint : ℕ) → ℕ
akcn_recover q m g sum hint = residue (nearest (pos m *ℤ (pos (hint * q) -ℤ pos (g * sum))) (g * q)) m

abbrev pub akcn : (q m g : ℕ) → Consensus
akcn q m g = record {
  modulus = q;
  digits = m;
  hints = g;
  distance = largest_distance m g (akcn_bound q m g);
  draws = m;
  settle = λ sum draw. (draw, akcn_hint q m g sum draw);
  recover = akcn_recover q m g;
}
