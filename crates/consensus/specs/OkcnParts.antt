-- How OKCN's draws and digits share out the points from 0 to C * q - 1. Assumes nothing.
use Rattle.std.specs.Prelude.{◌≡◌, ℕ, zero, suc, ◌+◌, ◌-◌, ◌*◌, ◌/◌, ◌%◌, ◌<◌, ◌≤◌, ℤ, pos, ◌+ℤ◌, ◌-ℤ◌, unsigned_abs, refl}
use Rattle.std.proofs.Common.{sym, ap, ◌∙◌, mod-lt, mul-le-mul_left, mul-lt-mul_of_pos_right, arith}
use Rattle.std.proofs.Math.Nat.{div-eq_of_eq-mul_left}
use Rattle.std.proofs.lemmas.Nat.{div_below}
use Rattle.std.proofs.lemmas.Int.{ints, int_rem_euclid_is}
use Rattle.consensus.specs.Arithmetic.{residue, gcd}
use Rattle.consensus.specs.Rules.{okcn_draws, okcn_point}
use Rattle.consensus.specs.Divisors.{gcd_divides, Multiples}
use Rattle.consensus.specs.Residues.{residue_is}

-- c draws and m parts of the width w share out c * q points
pub record Shared (q m c w : ℕ) : Type 0 where
  pub some_draw : 0 < c
  pub some_width : 0 < w
  pub whole : c * q ≡ w * m
  pub few : c ≤ m

factors : (x n : ℕ) → 0 < x * n → (0 < x) × (0 < n)
factors zero n h = absurd (omega arith)
factors (suc x) zero h = absurd (omega arith)
factors (suc x) (suc n) h = (omega arith, omega arith)

pub shared : (q m : ℕ) → 0 < q → 0 < m → Shared q m (okcn_draws q m) (okcn_draws q m * q / m)
shared q m pq pm = go (gcd q m) (gcd_divides q m pm)
  where
    go : (n : ℕ) → Multiples n q m → Shared q m (m / n) (m / n * q / m)
    go n (x, y, e, f) =
        let (px, pn) = factors x n (omega arith) in
        let (py, pn') = factors y n (omega arith) in
        let whole : y * q ≡ x * m = omega (arith, ap (λ (t : ℕ). y * t) e, ap (λ (t : ℕ). x * t) f) in
        let draws : m / n ≡ y = div-eq_of_eq-mul_left pn f in
        let width : m / n * q / m ≡ x = div-eq_of_eq-mul_left pm (rw draws whole) in
        rw (width, draws) record { some_draw = py; some_width = px; whole = whole; few = omega (arith, mul-le-mul_left y pn) }

-- the point as one difference
pub point_is : (c q sum draw : ℕ) → residue (pos (c * sum + draw) -ℤ pos ((c - 1) / 2)) (c * q) ≡ okcn_point c q sum draw
point_is c q sum draw =
    let same : pos (c * sum + draw) -ℤ pos ((c - 1) / 2) ≡ pos (c * sum) +ℤ (pos draw -ℤ pos ((c - 1) / 2)) = omega (arith, ints) in
    ap (λ (z : ℤ). residue z (c * q)) same

-- where the point lies, up to a whole turn
pub point_lies : (c q sum draw : ℕ) → 0 < q → sum < q → draw < c
    → (i : ℕ) × (okcn_point c q sum draw < c * q) × (okcn_point c q sum draw + (c - 1) / 2 ≡ c * sum + draw + i * (c * q)) × (i ≤ 1)
point_lies c q sum draw pq hs hd =
    rw (← point_is c q sum draw)
    (residue_is (c * sum + draw) ((c - 1) / 2) (c * q) (omega (arith, mul-le-mul_left c pq)) (omega (arith, mul-le-mul_left c hs)))

-- it lies in one of the m parts
pub point_part : (q m c w sum draw : ℕ) → Shared q m c w → 0 < q → sum < q → draw < c → okcn_point c q sum draw / w < m
point_part q m c w sum draw share pq hs hd =
    let (i, below, moved, _) = point_lies c q sum draw pq hs hd in
    div_below (okcn_point c q sum draw) w m share.some_width (omega (arith, share.whole))

-- the point with a whole turn added, so that it is not negative
pub point_turned : (c q sum draw : ℕ) → 0 < c * q → c ≤ c * q
    → okcn_point c q sum draw ≡ (c * sum + draw + (c * q - (c - 1) / 2)) % (c * q)
point_turned c q sum draw some long =
    let h = (c - 1) / 2 in
    let x = c * sum + draw in
    let turned : pos x -ℤ pos h +ℤ pos (1 * (c * q)) ≡ pos (x + (c * q - h)) = omega (arith, ints) in
    sym (point_is c q sum draw) ∙ ap unsigned_abs (int_rem_euclid_is (pos x -ℤ pos h) (pos (c * q)) (c * q) 1 (x + (c * q - h)) some refl turned)

-- the place within a part is one of g
pub cell : (s w g : ℕ) → 0 < w → 0 < g → (s % w) * g / w < g
cell s w g pw pg =
    let inside : s % w * g < w * g = mul-lt-mul_of_pos_right (mod-lt s pw) pg in
    div_below (s % w * g) w g pw (omega arith)
