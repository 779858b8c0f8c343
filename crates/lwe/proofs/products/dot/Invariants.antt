use Rattle.std.proofs.Common.{◌≡◌, ◌*◌, ◌^◌, ◌≤◌, length, get_or, pos, ◌*ℤ◌, nat_abs}
use Rattle.lwe.specs.Matrices.{sum}
use Rattle.lwe.proofs.products.dot.Given as goal

abbrev pub invariant-loop-a : goal.invariant-loop-a
invariant-loop-a l =
    (l.total ≡ sum (length l.yielded) (λ k. pos (get_or l.a k 0) *ℤ get_or l.x k (pos 0))) × (nat_abs l.total ≤ length l.yielded * 2 ^ 32)
