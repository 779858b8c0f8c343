use Rattle.keccak.specs.Permutation.{theta_effect}
use Rattle.keccak.proofs.permutation.theta_effects.Goals as goal

pub returns : goal.returns
unfolding theta_effect
returns c =
    simp
    (c.rotate_left.ensures, c.rotate_left-2.ensures, c.rotate_left-3.ensures, c.rotate_left-4.ensures, c.rotate_left-5.ensures)
