-- The five numbers of a rule. Assumes nothing.
use Rattle.std.specs.Prelude.{◌≡◌, ℕ}
use Rattle.consensus.specs.Consensus.{Consensus}
use Rattle.consensus.specs.Rules.{Allowed, Meets, largest_distance, okcn, okcn_bound, akcn, akcn_bound}
use Rattle.consensus.specs.declared.numbers.Numbers.{Numbers}

abbrev pub numbers_of : Consensus → Numbers
numbers_of c = record {
  modulus = c.modulus;
  digits = c.digits;
  hints = c.hints;
  distance = c.distance;
  draws = c.draws;
}

-- with the largest distance that meets the bound, and a draw for each digit
abbrev pub made : (q m g bound : ℕ) → Numbers
made q m g bound = record { modulus = q; digits = m; hints = g; distance = largest_distance m g bound; draws = m }

-- what the numbers n of a built rule c keep: they are within the limits, the distance meets the bound, and they are those of c
pub record Kept (c : Consensus) (bound : ℕ) (n : Numbers) : Type 0 where
  pub allowed : Allowed n.modulus n.digits n.hints
  pub meets : Meets n.digits n.hints bound n.distance
  pub same : n ≡ numbers_of c

abbrev pub OkcnKept : Numbers → Type 0
OkcnKept n = Kept (okcn n.modulus n.digits n.hints) (okcn_bound n.modulus n.hints) n

abbrev pub AkcnKept : Numbers → Type 0
AkcnKept n = Kept (akcn n.modulus n.digits n.hints) (akcn_bound n.modulus n.digits n.hints) n
