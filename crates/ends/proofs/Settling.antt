-- Digits and hints by their place. Assumes nothing.
use Rattle.std.proofs.Common.{◌≡◌, ℕ, zero, suc, ◌<◌, ◌≤◌, List, [], ◌∷◌, length, get_or, Ok, Result, refl, ap, ◌∙◌, arith, lt-ltb}
use Rattle.consensus.specs.Consensus.{Consensus, settle_all, digits_of, hints_of}
use Rattle.consensus.specs.Replies.{settle_reply, recover_reply}
use Rattle.consensus.specs.declared.fault.RuleFault.{RuleFault}
use Rattle.ends.specs.Keys.{recover_all}

-- a settled place of a list
pub record SettledAt (c : Consensus) (sums draws : List ℕ) (k : ℕ) : Type 0 where
  pub digit : get_or (digits_of (settle_all c sums draws)) k 0 ≡ (c.settle (get_or sums k 0) (get_or draws k 0)).0
  pub hint : get_or (hints_of (settle_all c sums draws)) k 0 ≡ (c.settle (get_or sums k 0) (get_or draws k 0)).1

pub settled_at : (c : Consensus) (sums draws : List ℕ) (k : ℕ) → k < length draws → length draws ≤ length sums → SettledAt c sums draws k
settled_at c [] [] k h l = absurd (omega arith)
settled_at c [] (d ∷ ds) k h l = absurd (omega arith)
settled_at c (s ∷ ss) [] k h l = absurd (omega arith)
settled_at c (s ∷ ss) (d ∷ ds) zero h l = record { digit = refl; hint = refl }
settled_at c (s ∷ ss) (d ∷ ds) (suc k) h l = let rest = settled_at c ss ds k (omega arith) (omega arith) in record { digit = rest.digit; hint = rest.hint }

pub length_digits : (c : Consensus) (sums draws : List ℕ) → length draws ≤ length sums → length (digits_of (settle_all c sums draws)) ≡ length draws
length_digits c [] [] l = refl
length_digits c [] (d ∷ ds) l = absurd (omega arith)
length_digits c (s ∷ ss) [] l = refl
length_digits c (s ∷ ss) (d ∷ ds) l = ap suc (length_digits c ss ds (omega arith))

pub length_hints : (c : Consensus) (sums draws : List ℕ) → length draws ≤ length sums → length (hints_of (settle_all c sums draws)) ≡ length draws
length_hints c [] [] l = refl
length_hints c [] (d ∷ ds) l = absurd (omega arith)
length_hints c (s ∷ ss) [] l = refl
length_hints c (s ∷ ss) (d ∷ ds) l = ap suc (length_hints c ss ds (omega arith))

pub recovered_at : (c : Consensus) (sums hints : List ℕ) (k : ℕ) → k < length sums → length hints ≡ length sums → get_or (recover_all c sums hints) k 0 ≡ c.recover (get_or sums k 0) (get_or hints k 0)
recovered_at c [] hints k h l = absurd (omega arith)
recovered_at c (s ∷ ss) [] k h l = absurd (omega arith)
recovered_at c (s ∷ ss) (d ∷ ds) zero h l = refl
recovered_at c (s ∷ ss) (d ∷ ds) (suc k) h l = recovered_at c ss ds k (omega arith) (omega arith)

pub length_recovered : (c : Consensus) (sums hints : List ℕ) → length hints ≡ length sums → length (recover_all c sums hints) ≡ length sums
length_recovered c [] hints l = refl
length_recovered c (s ∷ ss) [] l = absurd (omega arith)
length_recovered c (s ∷ ss) (d ∷ ds) l = ap suc (length_recovered c ss ds (omega arith))

-- what is answered in range
pub settled_is : (c : Consensus) (sum draw : ℕ) (x : ℕ × ℕ) → sum < c.modulus → draw < c.draws → Ok x ≡ settle_reply c sum draw → x ≡ c.settle sum draw
settled_is c sum draw x s d e =
    let a = lt-ltb sum c.modulus s in
    let b = lt-ltb draw c.draws d in
    let p : ◌≡◌ {A = Result (ℕ × ℕ) RuleFault} (Ok x) (Ok (c.settle sum draw)) = e ∙ rw (a, b) in
    cc

pub recovered_is : (c : Consensus) (sum hint x : ℕ) → sum < c.modulus → hint < c.hints → Ok x ≡ recover_reply c sum hint → x ≡ c.recover sum hint
recovered_is c sum hint x s h e =
    let a = lt-ltb sum c.modulus s in
    let b = lt-ltb hint c.hints h in
    let p : ◌≡◌ {A = Result ℕ RuleFault} (Ok x) (Ok (c.recover sum hint)) = e ∙ rw (a, b) in
    cc
