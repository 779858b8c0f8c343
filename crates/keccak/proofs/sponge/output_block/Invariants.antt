use Rattle.std.proofs.Common.{◌≡◌, ℕ, ◌<◌, List, length, get_or}
use Rattle.keccak.specs.Sponge.{to_bytes}
use Rattle.keccak.proofs.sponge.output_block.Given as goal

abbrev pub invariant-loop-k : goal.invariant-loop-k
invariant-loop-k l =
    (length l.bytes-items ≡ 21) × ((j : ℕ) (d : List ℕ) → j < l.k → get_or l.bytes-items j d ≡ to_bytes 8 (get_or l.state j 0))
