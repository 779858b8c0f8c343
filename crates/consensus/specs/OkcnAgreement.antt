-- OKCN: sums that lie close agree. Assumes nothing.
use Rattle.std.specs.Prelude.{◌≡◌, ℕ, ◌+◌, ◌-◌, ◌*◌, ◌/◌, ◌%◌, ◌<◌, ◌≤◌, ℤ, pos, ◌+ℤ◌, ◌-ℤ◌}
use Rattle.std.proofs.Common.{sym, ap, ◌∙◌, mod-lt, mul-le-mul_left, arith}
use Rattle.std.proofs.Math.Nat.{div-add-mod, mul-lt-mul_of_pos_left, le_of_mul-le-mul_left, lt_of_mul-lt-mul_left}
use Rattle.std.proofs.lemmas.Int.{ints}
use Rattle.consensus.specs.Arithmetic.{residue, floor}
use Rattle.consensus.specs.Rules.{Meets, okcn_bound, okcn_point, okcn_recover}
use Rattle.consensus.specs.OkcnParts.{Shared, point_lies, point_part}
use Rattle.consensus.specs.Residues.{Close, rounds}

-- what is short of something in parts of w of a c-fold sum is so in parts of q
scaled_le : (q m c w p r n : ℕ) → c * q ≡ w * m → 0 < c → p * w ≤ n * c + r * w → p * q ≤ n * m + r * q
scaled_le q m c w p r n e pc h =
    le_of_mul-le-mul_left {k = c} (omega (arith, mul-le-mul_left m h, ap (λ (t : ℕ). p * t) e, ap (λ (t : ℕ). r * t) e)) pc

scaled_lt : (q m c w p r n : ℕ) → c * q ≡ w * m → 0 < m → n * c + r * w < p * w → n * m + r * q < p * q
scaled_lt q m c w p r n e pm h =
    lt_of_mul-lt-mul_left c (omega (arith, mul-lt-mul_of_pos_left h pm, ap (λ (t : ℕ). p * t) e, ap (λ (t : ℕ). r * t) e))

-- From the sum a to the sum b, c-fold: x up and y down, and whole turns, of which i are those of the point s.
balance : (q m c w a b draw h s up down over back i : ℕ) → c * q ≡ w * m → b + down + back * q ≡ a + up + over * q → s + h ≡ c * a + draw + i * (c * q) →
    c * b + c * down + (back + i) * (w * m) + draw ≡ s + h + c * up + over * (w * m)
balance q m c w a b draw h s up down over back i whole meets moved =
    omega (arith, ap (λ (t : ℕ). c * t) meets, ap (λ (t : ℕ). back * t) whole, ap (λ (t : ℕ). over * t) whole, ap (λ (t : ℕ). i * t) whole)

-- The point lies in the part k at r, its hint is v, and b lies less than half a part away from the place that the hint names.
-- Here n is c * b, and x, y, z, j are the ways up and down and the turns, c-fold too.
middle : (g w c e n x y z j draw h k r v : ℕ) → g * (c + 2 * e) + w < g * w → 2 * h ≤ c → 2 * draw ≤ 2 * h + c →
    n + y + z + draw ≡ w * k + r + h + x + j → x + y ≤ e → w * v ≤ r * g → r * g < w * v + w →
    (2 * g * (j + w * k) + 2 * (w * v) + w ≤ 2 * g * n + g * w + 2 * g * z) × (2 * g * n + g * w + 2 * g * z < 2 * g * (j + w * k) + 2 * g * w + 2 * (w * v) + w)
middle g w c e n x y z j draw h k r v margin half drawn moved small hint-low hint-high =
    let turned = ap (λ (t : ℕ). 2 * g * t) moved in
    let near = mul-le-mul_left (2 * g) small in
    (omega (arith, turned, near, mul-le-mul_left g drawn), omega (arith, turned, near, mul-le-mul_left g half))

-- the number that is recovered from, as a difference
pub okcn_recover_is : (q m g b v : ℕ) → residue (floor (pos (2 * g * m * b + g * q) -ℤ pos ((2 * v + 1) * q)) (2 * g * q)) m ≡ okcn_recover q m g b v
okcn_recover_is q m g b v =
    let same : pos (2 * g * m * b + g * q) -ℤ pos ((2 * v + 1) * q) ≡ pos (2 * g * m * b) -ℤ pos ((2 * v + 1) * q) +ℤ pos (g * q) = omega (arith, ints) in
    ap (λ (z : ℤ). residue (floor z (2 * g * q)) m) same

-- What lies between k parts and one more, c-fold and up to whole turns, is recovered as k.
recovers : (q m g c w b k v i j : ℕ) → c * q ≡ w * m → 0 < c → 0 < q → 0 < m → 0 < g → k < m →
    2 * g * (j * (w * m) + w * k) + 2 * (w * v) + w ≤ 2 * g * (c * b) + g * w + 2 * g * (i * (w * m)) →
    2 * g * (c * b) + g * w + 2 * g * (i * (w * m)) < 2 * g * (j * (w * m) + w * k) + 2 * g * w + 2 * (w * v) + w →
    okcn_recover q m g b v ≡ k
recovers q m g c w b k v i j whole pc pq pm pg km low high =
    let l = scaled_le q m c w ((j * m + k) * (2 * g) + (2 * v + 1)) (g + i * m * (2 * g)) (2 * g * b) whole pc (omega arith) in
    let u = scaled_lt q m c w ((j * m + k) * (2 * g) + 2 * g + (2 * v + 1)) (g + i * m * (2 * g)) (2 * g * b) whole pm (omega arith) in
    let by : 0 < 2 * g * q = omega (arith, mul-le-mul_left g pq) in
    sym (okcn_recover_is q m g b v) ∙ rounds (2 * g * m * b + g * q) ((2 * v + 1) * q) (2 * g * q) m k i j by km (omega (arith, l)) (omega (arith, u))

module _ (q m g d c w : ℕ) (share : Shared q m c w) (pq : 0 < q) (pm : 0 < m) (pg : 0 < g) (near : Meets m g (okcn_bound q g) d) where
  margin : g * c * (2 * d + 1) + w < g * w
  margin =
      let one_more : g ≡ (g - 1) + 1 = omega arith in
      let less : c * (2 * d + 1) * g < w * (g - 1) = lt_of_mul-lt-mul_left m (omega (arith, mul-lt-mul_of_pos_left near share.some_draw, ap (λ (t : ℕ). t * (g - 1)) share.whole)) in
      omega (arith, ap (λ (t : ℕ). w * t) one_more)

  pub okcn_agrees : (a b draw : ℕ) → a < q → draw < c → Close q a b d
      → okcn_recover q m g b ((okcn_point c q a draw % w) * g / w) ≡ okcn_point c q a draw / w
  okcn_agrees a b draw la ldraw close =
      let (i, below, moved, _) = point_lies c q a draw pq la ldraw in
      let s = okcn_point c q a draw in
      let r = s % w in
      let v = r * g / w in
      let k = s / w in
      let cut = div-add-mod s w in
      let hint = div-add-mod (r * g) w in
      let hint_rest : (r * g) % w < w = mod-lt (r * g) share.some_width in
      let b' = balance q m c w a b draw ((c - 1) / 2) s close.up close.down close.over close.back i share.whole close.meets moved in
      let wide : g * (c + 2 * (c * d)) + w < g * w = omega (arith, margin) in
      let small : c * close.up + c * close.down ≤ c * d = omega (arith, mul-le-mul_left c close.small) in
      let moved' : c * b + c * close.down + (close.back + i) * (w * m) + draw ≡ w * k + r + (c - 1) / 2 + c * close.up + close.over * (w * m) = omega (arith, b', cut) in
      let (low, high) =
      middle g w c (c * d) (c * b) (c * close.up) (c * close.down) ((close.back + i) * (w * m)) (close.over * (w * m)) draw ((c - 1) / 2) k r v
      wide (omega arith) (omega arith) moved' small (omega (arith, hint)) (omega (arith, hint, hint_rest)) in
      recovers q m g c w b k v (close.back + i) close.over share.whole share.some_draw pq pm pg (point_part q m c w a draw share pq la ldraw) low high
