use Rattle.std.proofs.Common.{◌≡◌, ℕ, ◌*◌, ◌/◌, ◌%◌, ◌<◌, length, get_or}
use Rattle.lwe.specs.Matrices.{plus, reduced, signed, transposed}
use Rattle.lwe.proofs.sizes.Sizes.noisy_image.Given as goal

abbrev pub invariant-loop-k : goal.invariant-loop-k
invariant-loop-k l =
    (length l.entry-items ≡ l.n * l.l)
    × ((k : ℕ) → k < l.k → get_or l.entry-items k 0 ≡ reduced l.self.q (plus (transposed (signed l.n l.sums)) (signed l.l l.noise)) (k / l.l) (k % l.l))
