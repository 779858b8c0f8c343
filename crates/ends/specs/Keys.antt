-- The digits of a key, place by place. Assumes nothing.
use Rattle.std.specs.Prelude.{ℕ, List, [], ◌∷◌}
use Rattle.consensus.specs.Consensus.{Consensus}

-- each sum with its hint gives a digit
abbrev pub recover_all : Consensus → List ℕ → List ℕ → List ℕ
recover_all c [] hints = []
recover_all c (sum ∷ sums) [] = []
recover_all c (sum ∷ sums) (hint ∷ hints) = c.recover sum hint ∷ recover_all c sums hints
