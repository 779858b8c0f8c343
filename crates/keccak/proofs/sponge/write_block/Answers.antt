use Rattle.std.proofs.Common.{◌≡◌, length, take, ap, ◌∙◌}
use Rattle.std.proofs.lemmas.List.Folds.{flat_map-map}
use Rattle.std.specs.List.{flat_map}
use Rattle.keccak.specs.Sponge.{to_bytes, output_block}
use Rattle.keccak.proofs.sponge.write_block.Goals as goal

pub returns : goal.returns
unfolding output_block
returns c =
    let s = take 21 c.args.state in
    let flat : c.as_flattened.result.now ≡ flat_map (to_bytes 8) s =
    c.as_flattened.ensures.value ∙ ap (flat_map (λ x. x)) c.output_block-block.ensures ∙ flat_map-map (λ x. x) (to_bytes 8) s in
    c.copy_from_slice.ensures.after ∙ ap (take (length c.args.part.now)) flat
