use Rattle.std.proofs.Common.{◌≡◌, ℕ, cond, ltb, length, get_or, take, drop, length-take, length-drop, sym, ap, ◌∙◌, ◌*◌, ◌/◌, [], arith, rules}
use Rattle.std.proofs.lemmas.List.FromFn.{fill_by_all}
use Rattle.keccak.specs.Permutation.{◌⊕◌, permute}
use Rattle.keccak.specs.Sponge.{from_bytes, block_lane, xor_block}
use Rattle.keccak.proofs.Bytes.{from_bytes_is}
use Rattle.keccak.proofs.Chunks.{chunk_at}
use Rattle.keccak.proofs.sponge.absorb_block.Goals as goal

pub loop-k-preserved : goal.loop-k-preserved
loop-k-preserved c =
    let b = c.args.block.now in
    let k = c.loop-k.k in
    let bytes = get_or c.as_chunks.result.0.now k [] in
    let is : bytes ≡ take 8 (drop (8 * k) b) = ap (λ bs. get_or bs k []) c.as_chunks.ensures.front ∙ chunk_at 8 (length b / 8) k b (omega arith) in
    let long : length bytes ≡ 8 = ap length is ∙ (simp (length-take, length-drop) (omega arith)) in
    let lane : c.from_le_bytes.result ≡ block_lane b k = c.from_le_bytes.ensures ∙ sym (from_bytes_is bytes long) ∙ ap from_bytes is in
    search rules

pub returns : goal.returns
unfolding xor_block
returns c =
    let s = c.args.state.now in
    let b = c.args.block.now in
    let e : c.loop-k.k ≡ 21 = omega arith in
    let xored : c.loop-k.state ≡ xor_block s b =
    fill_by_all (λ (j : ℕ). cond (ltb j 21) (get_or s j 0 ⊕ block_lane b j) (get_or s j 0)) c.loop-k.state 25 0 c.loop-k.invariant.0
    (λ j h. rw e at (c.loop-k.invariant.1 j)) in
    c.permute_in_place.ensures ∙ ap permute xored
