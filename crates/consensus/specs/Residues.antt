-- Remainders and quotients of a signed difference, in naturals. Assumes nothing.
use Rattle.std.specs.Prelude.{◌≡◌, ℕ, zero, suc, ◌+◌, ◌-◌, ◌*◌, ◌/◌, ◌%◌, ◌<◌, ◌≤◌, ℤ, pos, negsuc, ◌-ℤ◌}
use Rattle.std.proofs.Common.{sym, ap, ◌∙◌, mod-lt, mod-eq_of_lt, lt_of_mul-lt-mul_right, arith}
use Rattle.std.proofs.Math.Nat.{div-add-mod, add-mul-mod_self_right}
use Rattle.std.proofs.Math.Decide.{dec_le}
use Rattle.std.proofs.Math.Arith.{digits_mod}
use Rattle.std.proofs.lemmas.Int.{ints}
use Rattle.consensus.specs.Arithmetic.{residue, floor, apart}

-- a - c is a natural number, or the negative of one more than a natural number
data Difference (a c : ℕ) : Type 0 where
  above : (n : ℕ) → a ≡ c + n → pos a -ℤ pos c ≡ pos n → Difference a c
  below : (n : ℕ) → c ≡ a + n + 1 → pos a -ℤ pos c ≡ negsuc n → Difference a c

difference : (a c : ℕ) → Difference a c
difference a c = elim (dec_le c a) [
  | yes h ↦ above (a - c) (omega arith) (omega (arith, ints))
  | no h ↦ below (c - a - 1) (omega arith) (omega (arith, ints))
]

pub residue_below : (z : ℤ) (t : ℕ) → 0 < t → residue z t < t
residue_below (pos n) t h = mod-lt n h
residue_below (negsuc n) t h = omega arith

-- x - h around t, where it lies less than once around away
pub residue_is : (x h t : ℕ) → h ≤ t → x < t + h → (i : ℕ) × (residue (pos x -ℤ pos h) t < t) × (residue (pos x -ℤ pos h) t + h ≡ x + i * t) × (i ≤ 1)
residue_is x h t low high = go (difference x h)
  where
    go : Difference x h → (i : ℕ) × (residue (pos x -ℤ pos h) t < t) × (residue (pos x -ℤ pos h) t + h ≡ x + i * t) × (i ≤ 1)
    go (above n e z) =
        let r : n % t ≡ n = mod-eq_of_lt (omega arith) in
        rw z (0, omega arith, omega arith, omega arith)
    go (below n e z) =
        let r : n % t ≡ n = mod-eq_of_lt (omega arith) in
        rw z (1, omega arith, omega arith, omega arith)

-- sums that lie close: from a to b it is a way up, a way down, and whole turns over and back
pub record Close (q a b d : ℕ) : Type 0 where
  pub up : ℕ
  pub down : ℕ
  pub over : ℕ
  pub back : ℕ
  pub meets : b + down + back * q ≡ a + up + over * q
  pub small : up + down ≤ d

pub close_from_apart : (q a b d : ℕ) → a < q → b < q → apart q a b ≤ d → Close q a b d
close_from_apart q a b d la lb h = go (residue_is a b q (omega arith) (omega arith)) (dec_le (residue (pos a -ℤ pos b) q) d)
  where
    go : (i : ℕ) × (residue (pos a -ℤ pos b) q < q) × (residue (pos a -ℤ pos b) q + b ≡ a + i * q) × (i ≤ 1) → Dec (residue (pos a -ℤ pos b) q ≤ d) → Close q a b d
    go (i, r, e, one) (yes p) = record { up = 0; down = residue (pos a -ℤ pos b) q; over = i; back = 0; meets = omega arith; small = omega arith }
    go (i, r, e, one) (no p) = record { up = q - residue (pos a -ℤ pos b) q; down = 0; over = i; back = 1; meets = omega arith; small = omega arith }

-- what the quotient of n by b says of n
quotient : (n b : ℕ) → 0 < b → (b * (n / b) ≤ n) × (n < b * (n / b) + b)
quotient n b h = let r : n % b < b = mod-lt n h in (omega (arith, div-add-mod n b), omega (arith, div-add-mod n b))

same_turns : (t k m i j : ℕ) → k < m → t + i * m ≡ j * m + k → t % m ≡ k
same_turns t k m i j h e = sym (add-mul-mod_self_right t i m) ∙ ap (λ (x : ℕ). x % m) e ∙ digits_mod j h

less_turns : (t k m i j : ℕ) → k < m → t + j * m + k + 1 ≡ i * m → t % m ≡ m - 1 - k
less_turns t k m zero j h e = absurd (omega arith)
less_turns t k m (suc i) j h e = same_turns t (m - 1 - k) m j i (omega arith) (omega arith)

-- The lemma that both rules round by: what lies from k quotients up to one more, but for whole turns of m, comes to k.
pub rounds : (a c b m k i j : ℕ) → 0 < b → k < m →
    (j * m + k) * b + c ≤ a + i * m * b → a + i * m * b < (j * m + k) * b + b + c →
    residue (floor (pos a -ℤ pos c) b) m ≡ k
rounds a c b m k i j pb km low high = go (difference a c)
  where
    go : Difference a c → residue (floor (pos a -ℤ pos c) b) m ≡ k
    go (above n e z) =
        let (f, g) = quotient n b pb in
        let l1 : (n / b + i * m) < (j * m + k + 1) = lt_of_mul-lt-mul_right b (omega arith) in
        let l2 : (j * m + k) < (n / b + i * m + 1) = lt_of_mul-lt-mul_right b (omega arith) in
        rw z (same_turns (n / b) k m i j km (omega arith))
    go (below n e z) =
        let (f, g) = quotient n b pb in
        let l1 : (j * m + k + n / b) < (i * m) = lt_of_mul-lt-mul_right b (omega arith) in
        let l2 : (i * m) < (j * m + k + n / b + 2) = lt_of_mul-lt-mul_right b (omega arith) in
        let r : (n / b) % m ≡ m - 1 - k = less_turns (n / b) k m i j km (omega arith) in
        rw z (omega arith)
