use Rattle.std.proofs.Common.{◌≡◌, ℕ, ◌<◌, get_or, pos}
use Rattle.lwe.specs.Matrices.{signed}
use Rattle.lwe.proofs.sizes.Sizes.take_column.Given as goal

abbrev pub invariant-loop-r : goal.invariant-loop-r
invariant-loop-r l = (r : ℕ) → r < l.r → get_or l.column r (pos 0) ≡ signed l.self.la l.x r l.c
