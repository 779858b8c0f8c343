use Rattle.std.proofs.Common.{◌≡◌, ◌*◌, ◌^◌, ◌≤◌, length, map, ◌*ℤ◌, nat_abs}
use Rattle.lwe.specs.Matrices.{sum, signed}
use Rattle.lwe.proofs.RowLoops.{Passed}
use Rattle.lwe.proofs.sizes.Sizes.product.Given as goal

abbrev pub invariant-loop-x : goal.invariant-loop-x
invariant-loop-x g l =
    let k = length l.yielded in
    (goal.iterator-loop-x g).can_next l.x-iterator
    × (goal.iterator-loop-x g).is_finite l.x-iterator
    × Passed l.self.la l.self.lb l.x l.y l.self.n k l.x-iterator
    × (l.total ≡ sum k (λ k. signed l.self.la (map g.T.Entry.value_of l.x) k l.i *ℤ signed l.self.lb (map g.U.Entry.value_of l.y) k l.j))
    × (nat_abs l.total ≤ k * 2 ^ 32)
