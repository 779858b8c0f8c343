use Rattle.std.proofs.Common.{◌*◌, ◌/◌, ◌%◌}
use Rattle.lwe.specs.Exchange.{Y1}
use Rattle.lwe.specs.Images.{public_matrix}
use Rattle.lwe.specs.Matrices.{signed}
use Rattle.lwe.proofs.Places.{Filled}
use Rattle.lwe.proofs.Rows.{Walked}
use Rattle.lwe.proofs.images.opening_image.Given as goal

abbrev pub invariant-loop-i : goal.invariant-loop-i
invariant-loop-i g l =
    let A = public_matrix (g.S.MatrixSource.meaning l.initial.source) l.seed in
    Walked g.S.MatrixSource.meaning l.seed l.i l.initial.source l.source
    × Filled 8192 (l.i * l.l) (λ k. Y1 l.sizes.q l.n A (signed l.l l.x1) (signed l.l l.e1) (k / l.l) (k % l.l)) l.image
