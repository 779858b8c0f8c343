-- Numbers that leave the same remainder by q.
use Rattle.std.proofs.Common.{◌≡◌, ℕ, zero, suc, ◌+◌, ◌-◌, ◌*◌, ◌/◌, ◌%◌, ◌<◌, ◌≤◌, ℤ, pos, negsuc, ◌+ℤ◌, ◌-ℤ◌, ◌*ℤ◌, nat_abs, sym, refl, ap, ◌∙◌, mod-lt, mul-le-mul_left, div-add-mod', arith}
use borrow.Author.Differences.{ints, up, down, sum_is_lem, product_is, same_in, same_out}
use Rattle.std.specs.Int.{int_rem_euclid}
use Rattle.std.proofs.lemmas.Int.{int_rem_euclid_is}
use Rattle.consensus.specs.Arithmetic.{residue}
use Rattle.lwe.specs.Matrices.{sum}

-- a and b differ by a multiple of q
pub record Same (q : ℕ) (a b : ℤ) : Type 0 where
  pub less : ℕ
  pub more : ℕ
  pub even : a +ℤ pos (less * q) ≡ b +ℤ pos (more * q)

pub rem_euclid_rest : (z : ℤ) (q : ℕ) → int_rem_euclid z (pos q) ≡ pos (residue z q)
rem_euclid_rest (pos a) q = refl
rem_euclid_rest (negsuc a) q = refl

pub same_refl : {q : ℕ} {a : ℤ} → Same q a a
same_refl = record { less = 0; more = 0; even = refl }

pub same_trans : {q : ℕ} {a b c : ℤ} → Same q a b → Same q b c → Same q a c
same_trans s t = record { less = s.less + t.less; more = s.more + t.more; even = omega (arith, ints, s.even, t.even) }

pub same_add : {q : ℕ} {a b c d : ℤ} → Same q a b → Same q c d → Same q (a +ℤ c) (b +ℤ d)
same_add s t = record { less = s.less + t.less; more = s.more + t.more; even = omega (arith, ints, s.even, t.even) }

pub same_sub : {q : ℕ} {a b c d : ℤ} → Same q a b → Same q c d → Same q (a -ℤ c) (b -ℤ d)
same_sub s t = record { less = s.less + t.more; more = s.more + t.less; even = omega (arith, ints, s.even, t.even) }

pub same_mul : {q : ℕ} {a b : ℤ} (c : ℤ) → Same q a b → Same q (a *ℤ c) (b *ℤ c)
same_mul {q} {a} {b} c s =
    let e : up a + s.less * q + down b ≡ up b + s.more * q + down a = omega (arith, same_out, sum_is_lem, s.even) in
    let u = ap (λ x. x * up c) e in
    let d = ap (λ x. x * down c) e in
    record { less = s.less * up c + s.more * down c; more = s.more * up c + s.less * down c; even = omega (arith, same_in, sum_is_lem, product_is) }

pub same_sum : {q : ℕ} (n : ℕ) (f g : ℕ → ℤ) → ((r : ℕ) → Same q (f r) (g r)) → Same q (sum n f) (sum n g)
same_sum zero f g s = same_refl
same_sum (suc n) f g s = same_add (same_sum n f g s) (s n)

-- a number and its remainder
pub same_rest : (q : ℕ) (z : ℤ) → 0 < q → Same q (pos (residue z q)) z
same_rest q (pos a) h = record { less = a / q; more = 0; even = let d = div-add-mod' a q in omega (arith, ints) }
same_rest q (negsuc a) h = record { less = 0; more = suc (a / q); even = let d = div-add-mod' a q in let m = mod-lt a h in omega (arith, ints) }

-- such numbers have one remainder
pub rest_same : {q : ℕ} {a b : ℤ} → 0 < q → Same q a b → residue a q ≡ residue b q
rest_same {q} {a} {b} h s =
    let t = down a + down b in
    let far : t * 1 ≤ t * q = mul-le-mul_left t h in
    let n = up a + (s.less + t) * q - down a in
    let from : (z : ℤ) (i : ℕ) → z +ℤ pos ((i + t) * q) ≡ pos n → residue z q ≡ n % q =
    λ z i e. ap nat_abs (sym (rem_euclid_rest z q) ∙ int_rem_euclid_is z (pos q) q (i + t) n h refl e) in
    from a s.less (omega (arith, ints)) ∙ sym (from b s.more (omega (arith, ints, s.even)))
