use Rattle.std.proofs.Common.{◌≡◌, ℕ, ◌+◌, ◌*◌, ◌/◌, List, [], length, get_or, take, drop, refl, sym, ap, ◌∙◌, add-one, mul_comm, arith}
use Rattle.keccak.specs.Permutation.{permute}
use Rattle.keccak.specs.Sponge.{rate, pad, nth_block, xor_block, absorb_blocks, absorb}
use Rattle.keccak.proofs.Chunks.{chunk_at}
use Rattle.keccak.proofs.Padding.{blocks_of_pad, full_block, padded_block}
use Rattle.keccak.proofs.sponge.absorb.Goals as goal

absorb_more : (p s b : List ℕ) (n : ℕ) → s ≡ absorb_blocks p n → b ≡ nth_block p n → permute (xor_block s b) ≡ absorb_blocks p (n + 1)
unfolding absorb_blocks
absorb_more p s b n e f = rw (add-one, e, f)

pub loop-block-init : goal.loop-block-init
unfolding absorb_blocks
loop-block-init c = refl

pub loop-block-preserved : goal.loop-block-preserved
loop-block-preserved c =
    let m = c.args.message.now in
    let i = c.loop-block.block-index in
    let b = get_or c.as_chunks.result.0.now i [] in
    let is : b ≡ take rate (drop (rate * i) m) = ap (λ bs. get_or bs i []) c.as_chunks.ensures.front ∙ chunk_at rate (length m / rate) i m (omega arith) in
    c.absorb_block.ensures ∙ absorb_more (pad m) c.loop-block.state b i c.loop-block.invariant (is ∙ sym (full_block m i (omega arith)))

pub returns : goal.returns
unfolding absorb
returns c =
    let m = c.args.message.now in
    let rest = c.as_chunks.result.1.now in
    let n = length m / rate in
    let e : c.loop-block.block-index ≡ n = omega arith in
    let so_far = c.loop-block.invariant ∙ ap (absorb_blocks (pad m)) e in
    let last = padded_block m rest n refl (c.as_chunks.ensures.back ∙ ap (λ k. drop k m) (mul_comm n rate)) in
    c.absorb_block-2.ensures
    ∙ absorb_more (pad m) c.loop-block.state c.last_block.result n so_far (c.last_block.ensures ∙ sym last)
    ∙ ap (absorb_blocks (pad m)) (sym (blocks_of_pad m))
