use Rattle.std.proofs.Common.{◌≡◌}
use Rattle.keccak.specs.Sponge.{pad, absorb_blocks}
use Rattle.keccak.proofs.sponge.absorb.Given as goal

abbrev pub invariant-loop-block : goal.invariant-loop-block
invariant-loop-block l = l.state ≡ absorb_blocks (pad l.message) l.block-index
