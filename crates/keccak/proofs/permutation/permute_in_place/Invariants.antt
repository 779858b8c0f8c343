use Rattle.std.proofs.Common.{◌≡◌}
use Rattle.keccak.specs.Permutation.{rounds}
use Rattle.keccak.proofs.permutation.permute_in_place.Given as goal

abbrev pub invariant-loop-constant : goal.invariant-loop-constant
invariant-loop-constant l = l.a ≡ rounds l.initial.a l.constant-index
