-- What an end's calls work with is what its setting says. Assumes nothing.
use Rattle.std.proofs.Common.{◌≡◌, ℕ, ◌-◌, ◌*◌, ◌≤◌, List, take, ◌∙◌}
use native.Mathlib.Nat.{sub-zero}
use Rattle.consensus.specs.Consensus.{Consensus}
use Rattle.matrix.specs.Matrices.{Matrices}
use Rattle.noise.specs.Replies.{number_of}
use Rattle.lwe.specs.Limits.{Holds, dimensions}
use Rattle.lwe.specs.Matrices.{Residues, by_rows, padded}
use Rattle.lwe.specs.declared.sizes.Sizes.{Sizes}
use Rattle.ends.specs.Ends.{KeptWorks, setting}
use Rattle.ends.specs.Settings.{Setting, extent}
use Rattle.ends.specs.declared.works.Works.{Works}
use Rattle.ends.proofs.Arrays.{front, length_by_rows}

-- the setting of what was kept is the same
pub kept_setting : {R S : Type 0} (rule_of : R → Consensus) (matrices_of : S → Matrices) {before after : Works R S} → KeptWorks matrices_of before after → setting rule_of matrices_of after ≡ setting rule_of matrices_of before
kept_setting rule_of matrices_of k = λ i. record {
  rule = rule_of (k.rule i).now;
  matrices = k.matrices i;
  la = k.la i;
  lb = k.lb i;
  law = number_of (k.law i);
}

pub dimensions_are : (s : Setting) (z : Sizes) → Holds s.rule.modulus s.matrices.side s.la s.lb z → dimensions z ≡ extent s
dimensions_are s z h = λ i. record { n = h.side i; la = h.opening i; lb = h.answering i }

-- the sums of all places, at the front of their array
pub sums_are : (sums : (q n la lb : ℕ) → Residues) (s : Setting) (z : Sizes) (array : List ℕ) (places : ℕ) → Holds s.rule.modulus s.matrices.side s.la s.lb z → places ≡ s.la * s.lb
    → array ≡ padded 0 64 (by_rows z.la z.lb (sums z.q z.n z.la z.lb)) → take (places - 0) array ≡ by_rows s.la s.lb (sums s.rule.modulus s.matrices.side s.la s.lb)
sums_are sums s z array places h p e =
    let fits : s.la * s.lb ≤ 64 = rw (h.opening, h.answering) at z.places in
    let a = sums s.rule.modulus s.matrices.side s.la s.lb in
    rw (sub-zero places, p, e ∙ (λ i. padded 0 64 (by_rows (h.opening i) (h.answering i) (sums (h.modulus i) (h.side i) (h.opening i) (h.answering i)))))
    (front 0 64 (s.la * s.lb) (by_rows s.la s.lb a) (length_by_rows s.la s.lb a) fits)
