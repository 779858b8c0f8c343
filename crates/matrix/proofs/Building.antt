-- Which numbers make an expanding source. Assumes nothing.
use Rattle.std.proofs.Common.{◌≡◌, ℕ, zero, suc, ◌^◌, ◌<◌, ◌≤◌, ◌≢◌, Bool, true, false, cond, ◌&&◌, ◌||◌, eqb, leb, Option, Some, None, MatchOption, Ok, Err, subst, sym, refl, ap, ◌∙◌, arith}
use native.Mathlib.Decide.{ℕ_discrete}
use Rattle.std.proofs.lemmas.Bool.{eq-eqb, ne_eqb, le-leb}
use Rattle.matrix.specs.Expansion.{power_of_two, fits_expansion, expansion, expansion_built}
use Rattle.matrix.specs.declared.fault.SourceFault.TheVariants.{Shape}

or_true : (b : Bool) → (b || true) ≡ true
or_true true = refl
or_true false = refl

power_found : (most k : ℕ) → 1 ≤ k → k ≤ most → power_of_two most (2 ^ k) ≡ true
power_found zero k low high = absurd (omega arith)
power_found (suc most) k low high = elim (ℕ_discrete k (suc most)) [
  | yes e ↦ ap (λ (b : Bool). b || power_of_two most (2 ^ k)) (eq-eqb (2 ^ k) (2 ^ suc most) (ap (λ (i : ℕ). 2 ^ i) e))
  | no ne ↦ ap (λ (b : Bool). eqb (2 ^ k) (2 ^ suc most) || b) (power_found most k low (omega arith)) ∙ or_true _
]

power_none : (most q : ℕ) → ((k : ℕ) → 1 ≤ k → k ≤ most → q ≡ 2 ^ k → ⊥) → power_of_two most q ≡ false
power_none zero q none = refl
power_none (suc most) q none =
    ap (λ (b : Bool). b || power_of_two most q) (ne_eqb q (2 ^ suc most) (none (suc most) (omega arith) (omega arith)))
    ∙ power_none most q (λ k low high. none k low (omega arith))

fits_is : (n q : ℕ) (b : Bool) → 1 ≤ n → n ≤ 1024 → power_of_two 15 q ≡ b → fits_expansion n q ≡ b
fits_is n q b low high e =
    ap (λ (x : Bool). x && leb n 1024 && power_of_two 15 q) (le-leb 1 n low)
    ∙ ap (λ (x : Bool). x && power_of_two 15 q) (le-leb n 1024 high) ∙ e

pub granted : (n k : ℕ) → 1 ≤ n → n ≤ 1024 → 1 ≤ k → k ≤ 15 → Ok (expansion n (2 ^ k)) ≡ expansion_built n (2 ^ k)
granted n k low high some few =
    sym (ap (λ (b : Bool). cond b (Ok (expansion n (2 ^ k))) (Err Shape)) (fits_is n (2 ^ k) true low high (power_found 15 k some few)))

pub refused : (n q : ℕ) → 1 ≤ n → n ≤ 1024 → ((k : ℕ) → 1 ≤ k → k ≤ 15 → q ≡ 2 ^ k → ⊥) → Err Shape ≡ expansion_built n q
refused n q low high none =
    sym (ap (λ (b : Bool). cond b (Ok (expansion n q)) (Err Shape)) (fits_is n q false low high (power_none 15 q none)))

-- ---- the exponent of a power of two

abbrev pub IsExponent : (q : ℕ) → Option ℕ → Type 0
IsExponent q r = MatchOption r ((k : ℕ) → 1 ≤ k → k ≤ 15 → q ≢ 2 ^ k) (λ k. (1 ≤ k) × (k ≤ 15) × (q ≡ 2 ^ k))

-- from what `find` says of the numbers from 1 to 15
pub exponent_found : (q : ℕ) (r : Option ℕ)
    → MatchOption r ((k : ℕ) → 1 ≤ k → k < 16 → q ≡ 2 ^ k → ⊥) (λ i. (1 ≤ i) × (i < 16) × (q ≡ 2 ^ i) × ((k : ℕ) → 1 ≤ k → k < i → q ≡ 2 ^ k → ⊥))
    → IsExponent q r
exponent_found q None none = λ k low high. none k low (omega arith)
exponent_found q (Some k) found = (found.0, omega (arith, found.1), found.2)

pub built : (n q k : ℕ) (r : Option ℕ) → 1 ≤ n → n ≤ 1024 → r ≡ Some k → IsExponent q r → Ok (expansion n (2 ^ k)) ≡ expansion_built n q
built n q k r low high e h =
    let (some, few, is) = subst (IsExponent q) e h in rw is (granted n k low high some few)

pub not_built : (n q : ℕ) (r : Option ℕ) → 1 ≤ n → n ≤ 1024 → r ≡ None → IsExponent q r → Err Shape ≡ expansion_built n q
not_built n q r low high e h = refused n q low high (subst (IsExponent q) e h)
