use Rattle.std.proofs.Common.{◌≡◌, ℕ, ◌*◌, ◌^◌, ◌<◌, length}
use Rattle.lwe.specs.Images.{public_matrix}
use Rattle.lwe.specs.Matrices.{Within, signed, times, transposed}
use Rattle.lwe.proofs.Rows.{Walked}
use Rattle.lwe.proofs.images.answering_image.Given as goal

-- so far, the sums over the rows above i
abbrev pub invariant-loop-i : goal.invariant-loop-i
invariant-loop-i g l =
    let A = public_matrix (g.S.MatrixSource.meaning l.initial.source) l.seed in
    Walked g.S.MatrixSource.meaning l.seed l.i l.initial.source l.source
    × (length l.sums ≡ 8192)
    × ((c : ℕ) → c < l.l → (j : ℕ) → j < l.n → signed l.n l.sums c j ≡ times l.i (transposed A) (signed l.l l.x2) j c)
    × Within (l.i * 2 ^ 32) l.sums
