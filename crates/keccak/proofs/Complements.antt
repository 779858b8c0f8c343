-- Complements of numbers of k bits, under the operations on bits. Assumes nothing.
use Rattle.std.proofs.Common.{◌≡◌, ℕ, zero, suc, ◌+◌, ◌-◌, ◌*◌, ◌/◌, ◌%◌, ◌^◌, ◌<◌, min, ap, ◌∙◌, arith}
use native.Mathlib.Nat.{pow-succ'}
use lib.Bits.{bit_and, bit_or, bit_xor, and_step, and_comm, and_le_r, or_add_and, xor_add_and}
use Rattle.keccak.specs.Permutation.{◌⊕◌, complement, chi_lane}

-- every bit of a is in b or in its complement
and_split : (k a b : ℕ) → a < 2 ^ k → b < 2 ^ k → bit_and a b + bit_and a (2 ^ k - 1 - b) ≡ a
and_split zero a b h i =
    let e : a ≡ 0 = omega arith in
    rw e
and_split (suc k) a b h i =
    let two : 2 ^ suc k ≡ 2 * 2 ^ k = pow-succ' 2 k in
    let half : (2 ^ suc k - 1 - b) / 2 ≡ 2 ^ k - 1 - b / 2 = omega arith in
    let low : (2 ^ suc k - 1 - b) % 2 ≡ 1 - b % 2 = omega arith in
    let more : bit_and a (2 ^ suc k - 1 - b) ≡ bit_and (a / 2) (2 ^ k - 1 - b / 2) * 2 + min (a % 2) (1 - b % 2) =
    rw (← half, ← low) (and_step a (2 ^ suc k - 1 - b)) in
    omega (arith, and_step a b, more, and_split k (a / 2) (b / 2) (omega arith) (omega arith))

-- De Morgan's law
or_complement : (k v w : ℕ) → v < 2 ^ k → w < 2 ^ k → bit_or v (2 ^ k - 1 - w) ≡ 2 ^ k - 1 - bit_and (2 ^ k - 1 - v) w
or_complement k v w h i =
    omega (arith, or_add_and v (2 ^ k - 1 - w), and_split k v w h i, and_split k w v i h, and_comm v w, and_comm w (2 ^ k - 1 - v))

xor_complement : (k v w : ℕ) → v < 2 ^ k → w < 2 ^ k → bit_xor (2 ^ k - 1 - v) (2 ^ k - 1 - w) ≡ bit_xor v w
xor_complement k v w h i =
    omega (
      arith,
      xor_add_and v w,
      xor_add_and (2 ^ k - 1 - v) (2 ^ k - 1 - w),
      and_split k (2 ^ k - 1 - v) w (omega arith) i,
      and_split k w v i h,
      and_comm w (2 ^ k - 1 - v),
      and_comm v w,
    )

pub chi_lane_is : (u v w : ℕ) → u < 2 ^ 64 → v < 2 ^ 64 → w < 2 ^ 64 → complement u ⊕ bit_or v (complement w) ≡ chi_lane u v w
chi_lane_is u v w hu hv hw =
    ap (bit_xor (complement u)) (or_complement 64 v w hv hw)
    ∙ xor_complement 64 u (bit_and (complement v) w) hu (omega (arith, and_le_r (complement v) w))
