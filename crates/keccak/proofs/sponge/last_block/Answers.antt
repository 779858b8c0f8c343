use Rattle.keccak.proofs.Padding.{last_block_is}
use Rattle.keccak.proofs.sponge.last_block.Goals as goal

pub returns : goal.returns
returns c = last_block_is c.args.rest.now c.copy_from_slice.new.self c.copy_from_slice.ensures.after c.requires
