-- A rotated lane, bit by bit. Assumes nothing.
use Rattle.std.proofs.Common.{◌≡◌, ℕ, zero, suc, ◌+◌, ◌-◌, ◌*◌, ◌/◌, ◌%◌, ◌^◌, ◌<◌, sym, ap, ◌∙◌, subst, ap₂, inl, inr, add-zero, arith}
use native.Mathlib.Nat.{mul-mod_left}
use lib.Bits.{bit_or}
use lib.Pow.{mod-mod-pow}
use Rattle.std.proofs.lemmas.Nat.{pow_pos, shl-shr, shr-shr, shr_le, field_of, mod-pow-add, mod_below, or_lt, or_shifted, shr_high, mod_low, shr_below}
use Rattle.std.proofs.lemmas.Bool.{cases_lt}
use Rattle.keccak.specs.Rotation.{rotate, bit}

-- a number that is cut to n bits keeps its bits below n
bit_cut : (w n z : ℕ) → z < n → bit (w % 2 ^ n) z ≡ bit w z
bit_cut w n z h =
    let j : ℕ = n - z - 1 in
    let e : n ≡ (j + 1) + z = omega arith in
    ap (λ n. bit (w % 2 ^ n) z) e ∙ (ap (λ n. n % 2) (field_of w (j + 1) z) ∙ mod-mod-pow (w / 2 ^ z) j 1)

module _ (lane n : ℕ) (small : lane < 2 ^ 64) (below : n < 64) where
  -- the bits that stay, and those that come round
  low : ℕ
  low = lane % 2 ^ (64 - n)

  high : ℕ
  high = lane / 2 ^ (64 - n)

  high_below : high < 2 ^ n
  unfolding high
  high_below =
      let e : 64 ≡ n + (64 - n) = omega arith in
      shr_below lane n (64 - n) (subst (λ k. lane < 2 ^ k) e small)

  shifted : lane * 2 ^ n % 2 ^ 64 ≡ low * 2 ^ n
  unfolding low
  shifted =
      let e : 64 ≡ (64 - n) + n = omega arith in
      ap (λ k. lane * 2 ^ n % 2 ^ k) e
      ∙ (mod-pow-add (lane * 2 ^ n) (64 - n) n
      ∙ (ap₂ (λ x y. x % 2 ^ (64 - n) * 2 ^ n + y) (shl-shr lane n) (mul-mod_left lane (2 ^ n)) ∙ add-zero _))

  rotated : bit_or (lane * 2 ^ n % 2 ^ 64) (lane / 2 ^ (64 - n)) ≡ low * 2 ^ n + high
  unfolding high
  rotated = ap (λ k. bit_or k high) shifted ∙ or_shifted low n high high_below

  stays : (z : ℕ) → z + n < 64 → bit (low * 2 ^ n + high) (z + n) ≡ bit lane z
  unfolding low
  stays z h =
      let e : z + n ≡ n + z = omega arith in
      ap (bit (low * 2 ^ n + high)) e
      ∙ (ap (λ k. k % 2) (sym (shr-shr (low * 2 ^ n + high) n z))
      ∙ (ap (λ k. bit k z) (shr_high low n high high_below) ∙ bit_cut lane (64 - n) z (omega arith)))

  comes_round : (p : ℕ) → p < n → bit (low * 2 ^ n + high) p ≡ bit lane ((64 - n) + p)
  unfolding high
  comes_round p h =
      sym (bit_cut (low * 2 ^ n + high) n p h)
      ∙ (ap (λ k. bit k p) (mod_low low n high high_below) ∙ ap (λ k. k % 2) (shr-shr lane (64 - n) p))

pub fits : (lane n : ℕ) → lane < 2 ^ 64 → n < 64 → rotate lane n < 2 ^ 64
fits lane zero small below = small
fits lane (suc n) small below =
    or_lt 64 (lane * 2 ^ suc n % 2 ^ 64) (lane / 2 ^ (64 - suc n)) (mod_below _ _ (pow_pos 64)) (omega (arith, shr_le lane (64 - suc n)))

pub moves : (lane n z : ℕ) → lane < 2 ^ 64 → n < 64 → z < 64 → bit (rotate lane n) ((z + n) % 64) ≡ bit lane z
moves lane zero z small below h =
    let e : (z + 0) % 64 ≡ z = omega arith in ap (bit lane) e
moves lane (suc n) z small below h =
    elim (cases_lt (z + suc n) 64) [
      | inl lt ↦
          let e : (z + suc n) % 64 ≡ z + suc n = omega arith in
          ap₂ bit (rotated lane (suc n) small below) e ∙ stays lane (suc n) small below z lt
      | inr ge ↦
          let p : ℕ = z + suc n - 64 in
          let e : (z + suc n) % 64 ≡ p = omega arith in
          let f : (64 - suc n) + p ≡ z = omega arith in
          ap₂ bit (rotated lane (suc n) small below) e ∙ (comes_round lane (suc n) small below p (omega arith) ∙ ap (bit lane) f)
    ]
