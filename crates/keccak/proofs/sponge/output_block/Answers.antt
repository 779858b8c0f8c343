use Rattle.std.proofs.Common.{◌≡◌, map, length, take, sym, ap, ◌∙◌, arith}
use Rattle.std.proofs.lemmas.List.{length-map, length-take-le, get_or-map, get_or-take, same_lists}
use Rattle.keccak.specs.Sponge.{to_bytes}
use Rattle.keccak.proofs.sponge.output_block.Goals as goal

pub returns : goal.returns
returns c =
    let s = c.args.state in
    let f = to_bytes 8 in
    let front = take 21 s in
    let long : length front ≡ 21 = length-take-le 21 s (omega arith) in
    let items = c.loop-k.bytes-items in
    same_lists items (map f front) (c.loop-k.invariant.0 ∙ sym (length-map front f ∙ long)) (λ k d below.
    c.loop-k.invariant.1 k d (omega arith)
    ∙ ap f (sym (get_or-take 21 s k 0 (omega arith)))
    ∙ sym (get_or-map f front k 0 d (omega arith)))
