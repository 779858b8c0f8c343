-- The drift identity. Assumes nothing.
use Rattle.std.proofs.Common.{◌≡◌, ℕ, ◌-◌, ◌<◌, min, ℤ, pos, ◌+ℤ◌, ◌-ℤ◌, ◌*ℤ◌, sym, ap, ◌∙◌, arith}
use lib.IntN.{*ℤ_comm}
use borrow.Author.Differences.{ints}
use Rattle.consensus.specs.Arithmetic.{residue}
use Rattle.lwe.specs.Matrices.{Matrix, sum}
use Rattle.lwe.specs.Exchange.{DriftIdentity}
use Rattle.lwe.proofs.FiniteSums.{add_mul, mul_assoc, sum_same, sum_add, sum_sub, sum_mul, sum_swap}
use Rattle.lwe.proofs.Residues.{Same, same_refl, same_trans, same_rest, rest_same, same_add, same_sub, same_mul, same_sum}

-- x·(aᵀ·y) is (a·x)·y
both_ways : (n : ℕ) (a : Matrix) (x y : ℕ → ℤ) → sum n (λ r. sum n (λ s. a s r *ℤ y s) *ℤ x r) ≡ sum n (λ r. sum n (λ s. a r s *ℤ x s) *ℤ y r)
both_ways n a x y =
    spread (λ r s. a s r *ℤ y s) x
    ∙ sum_swap n n (λ r s. x r *ℤ (a s r *ℤ y s))
    ∙ sum_same n (λ s. sum n (λ r. x r *ℤ (a s r *ℤ y s))) (λ s. sum n (λ r. y s *ℤ (a s r *ℤ x r))) (λ s _. sum_same n (λ r. x r *ℤ (a s r *ℤ y s)) (λ r. y s *ℤ (a s r *ℤ x r)) (λ r _. swap3 (x r) (a s r) (y s)))
    ∙ sym (spread (λ r s. a r s *ℤ x s) y)
  where
    spread : (f : Matrix) (z : ℕ → ℤ) → sum n (λ r. sum n (λ s. f r s) *ℤ z r) ≡ sum n (λ r. sum n (λ s. z r *ℤ f r s))
    spread f z = sum_same n (λ r. sum n (λ s. f r s) *ℤ z r) (λ r. sum n (λ s. z r *ℤ f r s)) (λ r _. *ℤ_comm (sum n (f r)) (z r) ∙ sym (sum_mul n (z r) (f r)))

    swap3 : (u v w : ℤ) → u *ℤ (v *ℤ w) ≡ w *ℤ (v *ℤ u)
    swap3 u v w = *ℤ_comm u (v *ℤ w) ∙ ap (λ z. z *ℤ u) (*ℤ_comm v w) ∙ mul_assoc w v u

-- x·(u + e) and (v + f)·y, where u·x is v·y
exact : (n : ℕ) (x e u v f y : ℕ → ℤ) (t : ℤ) → sum n (λ r. u r *ℤ x r) ≡ sum n (λ r. v r *ℤ y r) → sum n (λ r. (u r +ℤ e r) *ℤ x r) -ℤ (sum n (λ r. (v r +ℤ f r) *ℤ y r) +ℤ t) ≡ sum n (λ r. x r *ℤ e r -ℤ f r *ℤ y r) -ℤ t
exact n x e u v f y t middle =
    let l = split u e x in
    let r = split v f y in
    let d = sum_sub n (λ r. x r *ℤ e r) (λ r. f r *ℤ y r) in
    let c = sum_same n (λ r. e r *ℤ x r) (λ r. x r *ℤ e r) (λ r _. *ℤ_comm (e r) (x r)) in
    omega (arith, ints)
  where
    split : (a b z : ℕ → ℤ) → sum n (λ r. (a r +ℤ b r) *ℤ z r) ≡ sum n (λ r. a r *ℤ z r) +ℤ sum n (λ r. b r *ℤ z r)
    split a b z = sum_same n (λ r. (a r +ℤ b r) *ℤ z r) (λ r. a r *ℤ z r +ℤ b r *ℤ z r) (λ r _. add_mul (a r) (b r) (z r)) ∙ sum_add n (λ r. a r *ℤ z r) (λ r. b r *ℤ z r)

-- a sum may take the remainders of its factors
taken : (q n : ℕ) (z y : ℕ → ℤ) → 0 < q → Same q (sum n (λ r. pos (residue (z r) q) *ℤ y r)) (sum n (λ r. z r *ℤ y r))
taken q n z y h = same_sum n _ _ (λ r. same_mul (y r) (same_rest q (z r) h))

-- the identity at one place: x and e, y and f are its columns of the secrets and the noise
at_place : (q n : ℕ) (a : Matrix) (x e f y : ℕ → ℤ) (t : ℤ) → 0 < q → residue (pos (residue (sum n (λ r. x r *ℤ pos (residue (sum n (λ s. a s r *ℤ y s) +ℤ e r) q))) q) -ℤ pos (residue (sum n (λ r. pos (residue (sum n (λ s. a r s *ℤ x s) +ℤ f r) q) *ℤ y r) +ℤ t) q)) q ≡ residue (sum n (λ r. x r *ℤ e r -ℤ f r *ℤ y r) -ℤ t) q
at_place q n a x e f y t h =
    let u : ℕ → ℤ = λ r. sum n (λ s. a s r *ℤ y s) in
    let v : ℕ → ℤ = λ r. sum n (λ s. a r s *ℤ x s) in
    let z : ℕ → ℤ = λ r. pos (residue (u r +ℤ e r) q) in
    let first = same_trans (same_rest q (sum n (λ r. z r *ℤ x r)) h) (taken q n (λ r. u r +ℤ e r) x h) in
    let second = same_trans (same_rest q _ h) (same_add (taken q n (λ r. v r +ℤ f r) y h) (same_refl {a = t})) in
    rw (sum_same n (λ r. x r *ℤ z r) (λ r. z r *ℤ x r) (λ r _. *ℤ_comm (x r) (z r)))
    (rest_same h (same_sub first second) ∙ ap (λ s. residue s q) (exact n x e u v f y t (both_ways n a x y)))

pub drift_identity : DriftIdentity
drift_identity q n A d i j h =
    let rests = at_place q n A (λ r. d.X1 r i) (λ r. d.E2 r j) (λ r. d.E1 r i) (λ r. d.X2 r j) (d.Eσ i j) h in
    record { difference = rests; distance = ap (λ m. min m (q - m)) rests }
