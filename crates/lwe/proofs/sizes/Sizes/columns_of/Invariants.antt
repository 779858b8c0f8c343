use Rattle.std.proofs.Common.{◌≡◌, ℕ, ◌<◌, length}
use Rattle.lwe.specs.Matrices.{signed}
use Rattle.lwe.proofs.sizes.Sizes.columns_of.Given as goal

abbrev pub invariant-loop-c : goal.invariant-loop-c
invariant-loop-c l = (length l.columns ≡ 8192) × ((c : ℕ) → c < l.c → (r : ℕ) → r < l.self.n → signed l.self.n l.columns c r ≡ signed l.self.la l.x r c)
