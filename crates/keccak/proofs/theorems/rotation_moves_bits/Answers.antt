use Rattle.keccak.proofs.Rotations.{fits, moves}
use Rattle.keccak.proofs.theorems.rotation_moves_bits.Goals as goal

pub returns : goal.returns
returns c = record { fits = fits; moves = moves }
