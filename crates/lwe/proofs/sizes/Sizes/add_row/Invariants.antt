use Rattle.std.proofs.Common.{◌≡◌, ℕ, ◌+◌, ◌*◌, ◌^◌, ◌<◌, ◌≤◌, length, get_or, pos, ◌+ℤ◌, ◌*ℤ◌}
use Rattle.lwe.specs.Matrices.{Within, signed}
use Rattle.lwe.proofs.sizes.Sizes.add_row.Given as goal

-- the columns below c have grown, and the others are as they were
abbrev pub invariant-loop-c : goal.invariant-loop-c
invariant-loop-c l =
    (length l.sums ≡ 8192)
    × ((c : ℕ) → c < l.c → (j : ℕ) → j < l.self.n → signed l.self.n l.sums c j ≡ signed l.self.n l.initial.sums c j +ℤ pos (get_or l.row j 0) *ℤ get_or l.x c (pos 0))
    × ((b : ℕ) → Within b l.initial.sums → Within (b + 2 ^ 32) l.sums)
    × ((k : ℕ) → l.c * l.n ≤ k → get_or l.sums k (pos 0) ≡ get_or l.initial.sums k (pos 0))
