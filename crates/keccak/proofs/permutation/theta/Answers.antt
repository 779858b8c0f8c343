use Rattle.keccak.specs.Permutation.{theta}
use Rattle.keccak.proofs.permutation.theta.Goals as goal

pub returns : goal.returns
unfolding theta
returns c = simp c.theta_effects-d.ensures
