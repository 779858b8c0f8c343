-- What the loops over a call's words come to. Assumes nothing.
use Rattle.std.proofs.Common.{◌≡◌, ℕ, zero, suc, ◌+◌, ◌<◌, ◌≤◌, List, [], ◌∷◌, length, get_or, take, drop, None, ◌∙◌, arith, length-drop, length-take}
use Rattle.std.proofs.lemmas.List.{get_or-take, get_or-drop}
use Rattle.std.proofs.lemmas.Bool.Decides.{nat_tests}
use Rattle.ends.specs.declared.draws.WordsNeeded.{WordsNeeded}
use Rattle.ends.specs.Draws.{limit_at, first_over}

-- where no word is at fault each is below its limit
pub all_below : (needed : WordsNeeded) (i : ℕ) (words : List ℕ) → first_over needed i words ≡ None → (k : ℕ) → k < length words → get_or words k 0 < limit_at needed (i + k)
all_below needed i [] e k h = absurd (omega arith)
all_below needed i (word ∷ words) e zero h =
    let here : word < limit_at needed i = grind (arith, nat_tests) in
    let same : i + 0 ≡ i = omega arith in
    rw same here
all_below needed i (word ∷ words) e (suc k) h =
    let on : first_over needed (i + 1) words ≡ None = grind (arith, nat_tests) in
    let same : i + 1 + k ≡ i + suc k = omega arith in
    rw same at (all_below needed (i + 1) words on k (omega arith))

-- ---- words that are all below a limit

abbrev pub Below : ℕ → List ℕ → Type 0
Below limit words = (k : ℕ) → k < length words → get_or words k 0 < limit

pub below_take : (limit p : ℕ) (words : List ℕ) → Below limit words → Below limit (take p words)
below_take limit p words below k h =
    let long = length-take p words in
    rw (get_or-take p words k 0 (omega arith)) (below k (omega arith))

pub below_drop : (limit p : ℕ) (words : List ℕ) → Below limit words → Below limit (drop p words)
below_drop limit p words below k h =
    let long = length-drop p words in
    rw (get_or-drop p words k 0) (below (p + k) (omega arith))

-- words that come in parts of p, p, r and r: all but the last are below one limit
module _ (limit p r : ℕ) (words : List ℕ) (count : length words ≡ p + (p + (r + r))) where
  pub second_count : length (drop p words) ≡ p + (r + r)
  second_count = length-drop p words ∙ rw count (omega arith)

  pub third_count : length (drop p (drop p words)) ≡ r + r
  third_count = length-drop p (drop p words) ∙ rw second_count (omega arith)

  pub last_count : length (drop r (drop p (drop p words))) ≡ r
  last_count = length-drop r (drop p (drop p words)) ∙ rw third_count (omega arith)

  module _ (noise : (k : ℕ) → k < p + (p + r) → get_or words k 0 < limit) where
    pub below_first : Below limit (take p words)
    below_first k h =
        let long = length-take p words in
        rw (get_or-take p words k 0 (omega arith)) (noise k (omega arith))

    pub below_second : Below limit (take p (drop p words))
    below_second k h =
        let long = length-take p (drop p words) in
        rw (get_or-take p (drop p words) k 0 (omega arith), get_or-drop p words k 0) (noise (p + k) (omega arith))

    pub below_third : Below limit (take r (drop p (drop p words)))
    below_third k h =
        let long = length-take r (drop p (drop p words)) in
        rw (get_or-take r (drop p (drop p words)) k 0 (omega arith), get_or-drop p (drop p words) k 0, get_or-drop p words (p + k) 0) (noise (p + (p + k)) (omega arith))

  pub below_last : ((k : ℕ) → p + (p + r) ≤ k → k < length words → get_or words k 0 < limit) → Below limit (drop r (drop p (drop p words)))
  below_last draws k h =
      rw (get_or-drop r (drop p (drop p words)) k 0, get_or-drop p (drop p words) (r + k) 0, get_or-drop p words (p + (r + k)) 0)
      (draws (p + (p + (r + k))) (omega arith) (omega (arith, last_count)))
