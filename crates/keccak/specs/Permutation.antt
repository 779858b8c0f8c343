-- The permutation KECCAK-p[1600, 24] of FIPS 202, lane by lane. A state array A is a list of 25 lanes, each a number below
-- 2 ^ 64: lane (x, y) stands at 5 * y + x, and its bit z is A[x, y, z]. Coordinates are taken modulo 5. Assumes nothing.
use Rattle.std.specs.Prelude.{ℕ, zero, suc, ◌+◌, ◌-◌, ◌*◌, ◌/◌, ◌%◌, ◌^◌, cond, ◌&&◌, List, [], ◌∷◌, map, sum, ◌==◌, bit_and, bit_xor, nat_lt, slice_index, slice_set}
use Rattle.std.specs.List.{range_with_len}
use Rattle.keccak.specs.Rotation.{rotate}

infixl 60 ◌⊕◌
abbrev pub ◌⊕◌ : ℕ → ℕ → ℕ
v ⊕ w = bit_xor v w

abbrev pub complement : ℕ → ℕ
complement w = 2 ^ 64 - 1 - w

abbrev pub lane : List ℕ → (x y : ℕ) → ℕ
lane a x y = slice_index a (5 * (y % 5) + x % 5)

-- the state whose lane (x, y) is f x y
abbrev pub lanes : ((x y : ℕ) → ℕ) → List ℕ
lanes f = map (λ k. f (k % 5) (k / 5)) (range_with_len 0 25)

-- ---- theta

-- C[x], the parities of the columns at x
abbrev pub column_parity : List ℕ → (x : ℕ) → ℕ
column_parity a x = lane a x 0 ⊕ lane a x 1 ⊕ lane a x 2 ⊕ lane a x 3 ⊕ lane a x 4

-- D[x]: C[x - 1], where x - 1 is x + 4 modulo 5, and C[x + 1] rotated by one
unfoldable pub theta_effect : List ℕ → (x : ℕ) → ℕ
theta_effect a x = column_parity a (x + 4) ⊕ rotate (column_parity a (x + 1)) 1

-- D[0] to D[4]
abbrev pub theta_effects : List ℕ → List ℕ
theta_effects a = map (theta_effect a) (range_with_len 0 5)

unfoldable pub theta : List ℕ → List ℕ
theta a = lanes (λ x y. lane a x y ⊕ theta_effect a x)

-- ---- rho

-- A walk starts at lane (1, 0), goes from (x, y) to (y, 2 * x + 3 * y), and meets every lane but (0, 0) once. The lane that it
-- meets after t steps is rotated by (t + 1) * (t + 2) / 2. Here it has come to (u, v), with `left` lanes still to meet.
abbrev pub offset_from : (left t u v x y : ℕ) → ℕ
offset_from zero t u v x y = 0
offset_from (suc left) t u v x y =
    cond (u == x && v == y) ((t + 1) * (t + 2) / 2 % 64) (offset_from left (t + 1) v ((2 * u + 3 * v) % 5) x y)

abbrev pub offset : (x y : ℕ) → ℕ
offset x y = offset_from 24 0 1 0 x y

unfoldable pub rho : List ℕ → List ℕ
rho a = lanes (λ x y. rotate (lane a x y) (offset x y))

-- ---- pi

unfoldable pub pi : List ℕ → List ℕ
pi a = lanes (λ x y. lane a (x + 3 * y) x)

-- ---- chi

-- a lane u, before v and w in its row
abbrev pub chi_lane : (u v w : ℕ) → ℕ
chi_lane u v w = u ⊕ bit_and (complement v) w

unfoldable pub chi : List ℕ → List ℕ
chi a = lanes (λ x y. chi_lane (lane a x y) (lane a (x + 1) y) (lane a (x + 2) y))

-- one row, from its five lanes
abbrev pub chi_row : (a b c d e : ℕ) → List ℕ
chi_row a b c d e = chi_lane a b c ∷ chi_lane b c d ∷ chi_lane c d e ∷ chi_lane d e a ∷ chi_lane e a b ∷ []

-- ---- iota

-- the shift register R after t steps, R[j] as bit j: a step shifts it, and where bit 8 is then set, clears that bit and flips
-- bits 0, 4, 5 and 6
abbrev pub register : (t : ℕ) → ℕ
register zero = 1
register (suc t) = let shifted = 2 * register t in cond (nat_lt shifted 0x100) shifted (shifted ⊕ 0x171)

abbrev pub rc : (t : ℕ) → ℕ
rc t = register (t % 255) % 2

-- RC of round i: bit 2 ^ j - 1 is rc (j + 7 * i) for j from 0 to 6, and the others are 0
unfoldable pub round_constant : (i : ℕ) → ℕ
round_constant i = sum (map (λ j. rc (j + 7 * i) * 2 ^ (2 ^ j - 1)) (range_with_len 0 7))

-- a constant XORed into lane (0, 0)
abbrev pub with_constant : List ℕ → (constant : ℕ) → List ℕ
with_constant a constant = slice_set a 0 (lane a 0 0 ⊕ constant)

unfoldable pub iota : List ℕ → (i : ℕ) → List ℕ
iota a i = with_constant a (round_constant i)

-- ---- rounds

unfoldable pub round : List ℕ → (i : ℕ) → List ℕ
round a i = iota (chi (pi (rho (theta a)))) i

-- the state after rounds 0 to n - 1
unfoldable pub rounds : List ℕ → (n : ℕ) → List ℕ
rounds a zero = a
rounds a (suc n) = round (rounds a n) n

unfoldable pub permute : List ℕ → List ℕ
permute a = rounds a 24
