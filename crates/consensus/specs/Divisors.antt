-- The greatest common divisor: what the definition finds, and Euclid's steps to it. Assumes nothing.
use Rattle.std.specs.Prelude.{◌≡◌, ℕ, zero, suc, ◌*◌, ◌/◌, ◌%◌, ◌<◌, ◌≤◌, max, Bool, true, false, cond, ◌&&◌, ◌⊎◌, ◌==◌, nat_eq, refl}
use Rattle.std.proofs.Common.{sym, ap, ◌∙◌, inl, inr, le_antisymm, le_trans, eq-or-lt_of_le, le_of_suc-le-suc, not-suc-le-zero, zero-lt-suc, arith}
use Rattle.std.proofs.Math.Nat.{mod-one, dvd_refl, dvd-zero, dvd_of_mod-eq-zero, mod-eq-zero_of_dvd, dvd-mod_iff, le_of_dvd, pos_of_dvd_of_pos, eq-zero_of_zero-dvd, div-add-mod}
use Rattle.std.proofs.lemmas.Bool.{eqb-true, eq-eqb, false≢true}
use Rattle.consensus.specs.Arithmetic.{greatest_up_to, gcd, GreatestDivisor}

-- ---- Euclid's rule

pub euclid_last : (a b : ℕ) → b ≡ 0 → GreatestDivisor a b a
euclid_last a b e = record { left = dvd_refl a; right = rw e (dvd-zero a); most = λ d left right. left }

pub euclid_step : (a b r : ℕ) → GreatestDivisor b (a % b) r → GreatestDivisor a b r
euclid_step a b r found = record {
  left = (dvd-mod_iff r found.left).0 found.right;
  right = found.left;
  most = λ d left right. found.most d right ((dvd-mod_iff d right).1 left);
}

-- ---- the definition

record Common (d a b : ℕ) : Type 0 where
  left : a % d ≡ 0
  right : b % d ≡ 0

both_zero : (x y : ℕ) → (x == 0 && y == 0) ≡ true → (x ≡ 0) × (y ≡ 0)
both_zero x y e = go (x == 0) refl (y == 0) refl e
  where
    go : (s : Bool) → (x == 0) ≡ s → (t : Bool) → (y == 0) ≡ t → (s && t) ≡ true → (x ≡ 0) × (y ≡ 0)
    go true p true r e = (eqb-true x 0 p, eqb-true y 0 r)
    go true p false r e = absurd (false≢true e)
    go false p t r e = absurd (false≢true e)

-- the search comes to a common divisor, since 1 is one
found : (n a b : ℕ) → 0 < n → Common (greatest_up_to n a b) a b × (0 < greatest_up_to n a b)
found zero a b h = absurd (not-suc-le-zero h)
found (suc n) a b h = go (a % suc n == 0 && b % suc n == 0) refl n refl (found n a b)
  where
    go : (t : Bool) → (a % suc n == 0 && b % suc n == 0) ≡ t → (k : ℕ) → n ≡ k
        → (0 < n → Common (greatest_up_to n a b) a b × (0 < greatest_up_to n a b))
        → Common (cond t (suc n) (greatest_up_to n a b)) a b × (0 < cond t (suc n) (greatest_up_to n a b))
    go true e k z earlier = let p = both_zero (a % suc n) (b % suc n) e in (record { left = p.0; right = p.1 }, zero-lt-suc n)
    go false e zero z earlier = absurd (false≢true (sym e ∙ rw z (ap (λ x. (x == 0) && b % 1 == 0) (mod-one a) ∙ ap (λ x. nat_eq x 0) (mod-one b))))
    go false e (suc k) z earlier = earlier (rw z (zero-lt-suc k))

-- and it passes over none
greatest : (n a b d : ℕ) → d ≤ n → Common d a b → d ≤ greatest_up_to n a b
greatest zero a b d h c = h
greatest (suc n) a b d h c = go (a % suc n == 0 && b % suc n == 0) refl (eq-or-lt_of_le h) (λ l. greatest n a b d l c)
  where
    go : (t : Bool) → (a % suc n == 0 && b % suc n == 0) ≡ t → (d ≡ suc n) ⊎ (d < suc n)
        → (d ≤ n → d ≤ greatest_up_to n a b) → d ≤ cond t (suc n) (greatest_up_to n a b)
    go true e s earlier = h
    go false e (inl s) earlier =
        absurd (false≢true (sym e ∙ rw (← s) (ap (λ t. t && b % d == 0) (eq-eqb (a % d) 0 c.left) ∙ eq-eqb (b % d) 0 c.right)))
    go false e (inr l) earlier = earlier (le_of_suc-le-suc l)

gcd_common : (a b : ℕ) → 0 < max a b → Common (gcd a b) a b
unfolding gcd
gcd_common a b some = (found (max a b) a b some).0

gcd_greatest : (a b d : ℕ) → d ≤ max a b → Common d a b → d ≤ gcd a b
unfolding gcd
gcd_greatest a b d small c = greatest (max a b) a b d small c

-- where one of the numbers is not 0
one_is : (a b r : ℕ) → GreatestDivisor a b r → r ≤ max a b → 0 < r → r ≡ gcd a b
one_is a b r is small some = le_antisymm low high
  where
    low : r ≤ gcd a b
    low = gcd_greatest a b r small record { left = mod-eq-zero_of_dvd r is.left; right = mod-eq-zero_of_dvd r is.right }

    high : gcd a b ≤ r
    high =
        let c = gcd_common a b (omega arith) in
        le_of_dvd some (is.most (gcd a b) (dvd_of_mod-eq-zero (gcd a b) c.left) (dvd_of_mod-eq-zero (gcd a b) c.right))

-- whatever is the greatest divisor is the one of the definition
pub gcd_is : (a b r : ℕ) → GreatestDivisor a b r → r ≡ gcd a b
unfolding gcd
gcd_is zero zero r is = eq-zero_of_zero-dvd (is.most 0 (dvd_refl 0) (dvd_refl 0))
gcd_is zero (suc b) r is = one_is zero (suc b) r is (le_trans (le_of_dvd (zero-lt-suc b) is.right) (omega arith)) (pos_of_dvd_of_pos is.right (zero-lt-suc b))
gcd_is (suc a) b r is = one_is (suc a) b r is (le_trans (le_of_dvd (zero-lt-suc a) is.left) (omega arith)) (pos_of_dvd_of_pos is.left (zero-lt-suc a))

-- a and b are multiples of n
abbrev pub Multiples : ℕ → ℕ → ℕ → Type 0
Multiples n a b = (x : ℕ) × (y : ℕ) × (a ≡ x * n) × (b ≡ y * n)

pub gcd_divides : (a b : ℕ) → 0 < b → Multiples (gcd a b) a b
gcd_divides a b some =
    let n = gcd a b in
    let c = gcd_common a b (omega arith) in
    (a / n, b / n, omega (arith, div-add-mod a n, c.left), omega (arith, div-add-mod b n, c.right))
