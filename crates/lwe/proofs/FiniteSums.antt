-- Laws of the integers and of finite sums.
use Rattle.std.proofs.Common.{◌≡◌, ℕ, zero, suc, ◌+◌, ◌*◌, ◌<◌, ℤ, pos, ◌+ℤ◌, ◌-ℤ◌, ◌*ℤ◌, sym, refl, ap, ◌∙◌, add-one, arith}
use borrow.Author.Differences.{ints, up, down, sum_is_lem, product_is}
use Rattle.lwe.specs.Matrices.{sum}

-- the laws of the product that the library lacks
pub mul_add : (a b c : ℤ) → a *ℤ (b +ℤ c) ≡ a *ℤ b +ℤ a *ℤ c
mul_add a b c = let s = sum_is_lem b c in omega (arith, ints, ap (λ x. up a * x) s, ap (λ x. down a * x) s)

pub add_mul : (a b c : ℤ) → (a +ℤ b) *ℤ c ≡ a *ℤ c +ℤ b *ℤ c
add_mul a b c = let s = sum_is_lem a b in omega (arith, ints, ap (λ x. x * up c) s, ap (λ x. x * down c) s)

pub mul_assoc : (a b c : ℤ) → (a *ℤ b) *ℤ c ≡ a *ℤ (b *ℤ c)
mul_assoc a b c =
    let l = product_is a b in
    let r = product_is b c in
    omega (arith, ints, ap (λ x. x * up c) l.0, ap (λ x. x * down c) l.0, ap (λ x. x * up c) l.1, ap (λ x. x * down c) l.1, ap (λ x. up a * x) r.0, ap (λ x. down a * x) r.0, ap (λ x. up a * x) r.1, ap (λ x. down a * x) r.1)

-- a loop's step
pub sum_more : (n : ℕ) (f : ℕ → ℤ) → sum (n + 1) f ≡ sum n f +ℤ f n
sum_more n f = rw add-one

-- sums of equal terms are equal
pub sum_same : (n : ℕ) (f g : ℕ → ℤ) → ((r : ℕ) → r < n → f r ≡ g r) → sum n f ≡ sum n g
sum_same zero f g e = refl
sum_same (suc n) f g e =
    let i = sum_same n f g (λ r h. e r (omega arith)) in
    let h = e n (omega arith) in
    omega (arith, ints)

pub sum_zero : (n : ℕ) → sum n (λ r. pos 0) ≡ pos 0
sum_zero zero = refl
sum_zero (suc n) = ap (λ x. x +ℤ pos 0) (sum_zero n)

pub sum_add : (n : ℕ) (f g : ℕ → ℤ) → sum n (λ r. f r +ℤ g r) ≡ sum n f +ℤ sum n g
sum_add zero f g = refl
sum_add (suc n) f g = let i = sum_add n f g in omega (arith, ints)

pub sum_sub : (n : ℕ) (f g : ℕ → ℤ) → sum n (λ r. f r -ℤ g r) ≡ sum n f -ℤ sum n g
sum_sub zero f g = refl
sum_sub (suc n) f g = let i = sum_sub n f g in omega (arith, ints)

pub sum_mul : (n : ℕ) (a : ℤ) (f : ℕ → ℤ) → sum n (λ r. a *ℤ f r) ≡ a *ℤ sum n f
sum_mul zero a f = omega (arith, ints)
sum_mul (suc n) a f = ap (λ x. x +ℤ a *ℤ f n) (sum_mul n a f) ∙ sym (mul_add a (sum n f) (f n))

-- the order of two sums may be changed
pub sum_swap : (m n : ℕ) (f : ℕ → ℕ → ℤ) → sum m (λ r. sum n (λ s. f r s)) ≡ sum n (λ s. sum m (λ r. f r s))
sum_swap zero n f = sym (sum_zero n)
sum_swap (suc m) n f = ap (λ x. x +ℤ sum n (f m)) (sum_swap m n f) ∙ sym (sum_add n (λ s. sum m (λ r. f r s)) (f m))
