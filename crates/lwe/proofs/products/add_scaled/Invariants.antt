use Rattle.std.proofs.Common.{◌≡◌, ℕ, ◌+◌, ◌^◌, ◌<◌, ◌≤◌, get_or, pos, ◌+ℤ◌, ◌*ℤ◌, nat_abs}
use Rattle.lwe.proofs.products.add_scaled.Given as goal

-- the places below k have their sum, and the others are as they were
abbrev pub invariant-loop-k : goal.invariant-loop-k
invariant-loop-k l =
    ((k : ℕ) → k < l.k → (get_or l.sums k (pos 0) ≡ get_or l.initial.sums k (pos 0) +ℤ pos (get_or l.row k 0) *ℤ l.x) × (nat_abs (get_or l.sums k (pos 0)) ≤ nat_abs (get_or l.initial.sums k (pos 0)) + 2 ^ 32))
    × ((k : ℕ) → l.k ≤ k → get_or l.sums k (pos 0) ≡ get_or l.initial.sums k (pos 0))
