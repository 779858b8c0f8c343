use Rattle.std.proofs.Common.{◌≡◌, ◌/◌, ◌%◌, ◌∷◌, [], get_or, ap, ◌∙◌, arith}
use Rattle.wire.proofs.Laws.{put_number}
use Rattle.wire.proofs.bytes.put_numbers.Goals as goal

pub loop-i-preserved : goal.loop-i-preserved
loop-i-preserved c =
    let x = get_or c.args.numbers.now c.loop-i.i 0 in
    let high : x / 256 % 256 ≡ x / 256 = omega (arith, c.type_inv.numbers c.loop-i.i) in
    c.put_bytes.ensures ∙ put_number c.args.out.now c.args.place c.args.numbers.now c.loop-i.i _ _
    c.requires c.loop-i-test.true c.loop-i.invariant (c.to_be_bytes.ensures ∙ ap (λ h. h ∷ x % 256 ∷ []) high)
