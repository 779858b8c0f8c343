use Rattle.std.proofs.Common.{◌∙◌}
use Rattle.std.proofs.lemmas.List.{map-id}
use Rattle.lwe.specs.Exchange.{Σ2}
use Rattle.lwe.specs.Matrices.{by_rows, padded, signed}
use Rattle.lwe.proofs.Places.{plain_signed}
use Rattle.lwe.proofs.sums.answering_sum.Goals as goal

pub returns : goal.returns
returns c =
    let s = c.args.sizes.now in
    c.noisy_sums.ensures ∙ (λ t. padded 0 64 (by_rows s.la s.lb (Σ2 s.q s.n (plain_signed s.la c.args.y1.now t) (signed s.lb (map-id c.args.x2.now t)) (signed s.lb c.args.noise.now))))
