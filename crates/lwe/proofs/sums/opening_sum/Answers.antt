use Rattle.std.proofs.Common.{◌∙◌}
use Rattle.std.proofs.lemmas.List.{map-id}
use Rattle.lwe.specs.Matrices.{by_rows, padded, reduced, signed, times, transposed}
use Rattle.lwe.proofs.Places.{plain_signed, no_noise}
use Rattle.lwe.proofs.sums.opening_sum.Goals as goal

pub returns : goal.returns
returns c =
    let s = c.args.sizes.now in
    c.noisy_sums.ensures ∙ (λ t. padded 0 64 (by_rows s.la s.lb (reduced s.q (no_noise 64 s.lb (times s.n (transposed (signed s.la (map-id c.args.x1.now t))) (plain_signed s.lb c.args.y2.now t)) t))))
