use Rattle.std.proofs.Common.{◌≡◌, ℕ, ◌*◌, ◌/◌, ◌%◌, ◌<◌, length, get_or, map}
use Rattle.lwe.specs.Exchange.{Σ2}
use Rattle.lwe.specs.Matrices.{signed}
use Rattle.lwe.proofs.sums.noisy_sums.Given as goal

abbrev pub invariant-loop-k : goal.invariant-loop-k
invariant-loop-k g l =
    let s = l.sizes in
    (length l.sum-items ≡ s.la * s.lb)
    × ((k : ℕ) → k < l.k → get_or l.sum-items k 0 ≡ Σ2 s.q s.n (signed s.la (map g.T.Entry.value_of l.x)) (signed s.lb (map g.U.Entry.value_of l.y)) (signed s.lb l.noise) (k / s.lb) (k % s.lb))
