-- What an end works by, and what its calls ask for. Assumes nothing.
use Rattle.std.specs.Prelude.{ℕ, ◌+◌, ◌*◌, ◌^◌}
use Rattle.consensus.specs.Consensus.{Consensus}
use Rattle.matrix.specs.Matrices.{Matrices}
use Rattle.noise.specs.Laws.{width_of}
use Rattle.lwe.specs.Limits.{Dimensions}
use Rattle.ends.specs.declared.draws.WordsNeeded.{WordsNeeded}

-- what its rule and its source mean, its columns and its law
pub record Setting : Type 0 where
  pub rule : Consensus
  pub matrices : Matrices
  pub la : ℕ
  pub lb : ℕ
  pub law : ℕ

-- the rows and columns of its messages
abbrev pub extent : Setting → Dimensions
extent s = record { n = s.matrices.side; la = s.la; lb = s.lb }

-- opening takes the words of X1 and E1
abbrev pub open_needs : Setting → WordsNeeded
open_needs s = record {
  noise = 2 * (s.matrices.side * s.la);
  noise_limit = 2 ^ width_of s.law;
  draws = 0;
  draw_limit = 0;
}

-- hearing takes the words of X2, E2 and Eσ, and a draw of the rule for each place
abbrev pub hear_needs : Setting → WordsNeeded
hear_needs s = record {
  noise = s.matrices.side * s.lb + (s.matrices.side * s.lb + s.la * s.lb);
  noise_limit = 2 ^ width_of s.law;
  draws = s.la * s.lb;
  draw_limit = s.rule.draws;
}
