-- AKCN: sums that lie close agree. Assumes nothing.
use Rattle.std.specs.Prelude.{◌≡◌, ℕ, ◌+◌, ◌-◌, ◌*◌, ◌/◌, ◌%◌, ◌<◌, ◌≤◌, ℤ, pos, ◌+ℤ◌, ◌-ℤ◌, ◌*ℤ◌}
use Rattle.std.proofs.Common.{sym, ap, ◌∙◌, mod-lt, mul-le-mul_left, arith}
use Rattle.std.proofs.Math.Nat.{div-add-mod}
use Rattle.std.proofs.Math.Decide.{dec_le}
use borrow.Author.Differences.{up, down}
use Rattle.std.proofs.lemmas.Int.{ints}
use Rattle.consensus.specs.Arithmetic.{residue, floor, round}
use Rattle.consensus.specs.Rules.{Meets, akcn_bound, akcn_hint, akcn_recover}
use Rattle.consensus.specs.Residues.{Close, rounds}

-- a rounded quotient is at most a half away
pub round_low : (a b : ℕ) → 0 < b → 2 * b * round a b ≤ 2 * a + b
round_low a b h = omega (arith, div-add-mod (2 * a + b) (2 * b))

pub round_high : (a b : ℕ) → 0 < b → 2 * a < 2 * b * round a b + b
round_high a b h =
    let rest : (2 * a + b) % (2 * b) < 2 * b = mod-lt (2 * a + b) (omega arith) in
    omega (arith, div-add-mod (2 * a + b) (2 * b))

-- The digit k stands at n, about k * q / m; the sum a and n together at the hint t, about g parts to q; x up and y down to b.
middle : (q m g d k a n t x y : ℕ) → (2 * d + 1) * (m * g) + m * q < g * q → x + y ≤ d →
    2 * m * n ≤ 2 * (q * k) + m → 2 * (q * k) < 2 * m * n + m → 2 * q * t ≤ 2 * (g * (a + n)) + q → 2 * (g * (a + n)) < 2 * q * t + q →
    (2 * g * q * k + 2 * m * g * (a + x) ≤ 2 * m * q * t + g * q + 2 * m * g * y) × (2 * m * q * t + g * q + 2 * m * g * y < 2 * g * q * k + 2 * g * q + 2 * m * g * (a + x))
middle q m g d k a n t x y margin small digit_low digit-high hint-low hint-high =
    let near = mul-le-mul_left (2 * m * g) small in
    (omega (arith, near, mul-le-mul_left g digit-high, mul-le-mul_left m hint-high), omega (arith, near, mul-le-mul_left g digit_low, mul-le-mul_left m hint-low))

-- the same with the whole turns: v is the hint t but for i turns of g, b is a but for turns of q
turned : (q m g d k a b t v i : ℕ) (close : Close q a b d) → g * i + v ≡ t →
    2 * g * q * k + 2 * m * g * (a + close.up) ≤ 2 * m * q * t + g * q + 2 * m * g * close.down →
    2 * m * q * t + g * q + 2 * m * g * close.down < 2 * g * q * k + 2 * g * q + 2 * m * g * (a + close.up) →
    ((close.back * m + k) * (2 * g * q) + 2 * m * g * b ≤ 2 * m * v * q + g * q + (close.over + i) * m * (2 * g * q))
    × (2 * m * v * q + g * q + (close.over + i) * m * (2 * g * q) < (close.back * m + k) * (2 * g * q) + 2 * g * q + 2 * m * g * b)
turned q m g d k a b t v i close whole low high =
    let hint = ap (λ (n : ℕ). 2 * m * q * n) whole in
    let sum = ap (λ (n : ℕ). 2 * m * g * n) close.meets in
    (omega (arith, hint, sum), omega (arith, hint, sum))

-- the number that is recovered from, as a difference
pub akcn_recover_is : (q m g b v : ℕ) → residue (floor (pos (2 * m * v * q + g * q) -ℤ pos (2 * m * g * b)) (2 * g * q)) m ≡ akcn_recover q m g b v
akcn_recover_is q m g b v =
    let z = pos (v * q) -ℤ pos (g * b) in
    let apart : up z + g * b ≡ v * q + down z = omega (arith, ints) in
    let same : pos (2 * m * v * q + g * q) -ℤ pos (2 * m * g * b) ≡ pos 2 *ℤ (pos m *ℤ z) +ℤ pos (g * q) = omega (arith, ints, ap (λ (t : ℕ). m * t) apart) in
    let whole : 2 * g * q ≡ 2 * (g * q) = omega arith in
    ap (λ (n : ℕ). residue (floor (pos (2 * m * v * q + g * q) -ℤ pos (2 * m * g * b)) n) m) whole ∙ ap (λ (z : ℤ). residue (floor z (2 * (g * q))) m) same

module _ (q m g d : ℕ) (pq : 0 < q) (pm : 0 < m) (pg : 0 < g) (near : Meets m g (akcn_bound q m g) d) where
  margin : (2 * d + 1) * (m * g) + m * q < g * q
  margin = elim (dec_le m g) [
    | yes h ↦ let rest : g ≡ (g - m) + m = omega arith in omega (arith, ap (λ (n : ℕ). q * n) rest)
    | no h ↦ let none : g - m ≡ 0 = omega arith in omega (arith, ap (λ (n : ℕ). q * n) none)
  ]

  pub akcn_agrees : (a b k : ℕ) → k < m → Close q a b d → akcn_recover q m g b (akcn_hint q m g a k) ≡ k
  akcn_agrees a b k km close =
      let n = round (q * k) m in
      let t = round (g * (a + n)) q in
      let by : 0 < 2 * g * q = omega (arith, mul-le-mul_left g pq) in
      let (low, high) =
      middle q m g d k a n t close.up close.down margin close.small
      (round_low (q * k) m pm) (round_high (q * k) m pm) (round_low (g * (a + n)) q pq) (round_high (g * (a + n)) q pq) in
      let (low', high') = turned q m g d k a b t (t % g) (t / g) close (div-add-mod t g) low high in
      sym (akcn_recover_is q m g b (t % g))
      ∙ rounds (2 * m * (t % g) * q + g * q) (2 * m * g * b) (2 * g * q) m k (close.over + t / g) close.back by km low' high'
