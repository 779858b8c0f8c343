use Rattle.std.proofs.Common.{◌≡◌, ℕ, cond, ltb, length, get_or}
use Rattle.keccak.specs.Permutation.{◌⊕◌}
use Rattle.keccak.specs.Sponge.{block_lane}
use Rattle.keccak.proofs.sponge.absorb_block.Given as goal

abbrev pub invariant-loop-k : goal.invariant-loop-k
invariant-loop-k l =
    (length l.state ≡ 25)
    × ((j : ℕ) → get_or l.state j 0
    ≡ cond (ltb j l.k) (get_or l.initial.state j 0 ⊕ block_lane l.block j) (get_or l.initial.state j 0))
