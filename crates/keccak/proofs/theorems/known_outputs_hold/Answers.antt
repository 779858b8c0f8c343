use Rattle.std.proofs.Common.{refl}
use Rattle.keccak.specs.Permutation.{theta_effect, theta, rho, pi, chi, round_constant, iota, round, rounds, permute}
use Rattle.keccak.specs.Sponge.{pad, xor_block, absorb_blocks, absorb, output_block, squeeze, shake128}
use Rattle.keccak.proofs.theorems.known_outputs_hold.Goals as goal

pub returns : goal.returns
unfolding theta_effect theta rho pi chi round_constant iota round rounds permute pad xor_block absorb_blocks absorb output_block squeeze shake128
returns c = record { empty = refl; long = refl }
