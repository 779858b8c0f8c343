use Rattle.std.proofs.Common.{◌≡◌, ◌+◌, ◌*◌, ◌^◌, get_or, pos, sym, refl, ◌∙◌, arith}
use Rattle.std.proofs.lemmas.List.Edits.{length-between, get_or-between}
use Rattle.lwe.specs.Exchange.{Y2}
use Rattle.lwe.specs.Images.{public_matrix}
use Rattle.lwe.specs.Matrices.{signed}
use Rattle.lwe.proofs.Places.{row_ends, get_or_same}
use Rattle.lwe.proofs.Rows.{row_entries, walked_none, walked_more}
use Rattle.lwe.proofs.Steps.{sums_entry, image_same, imaged}
use Rattle.lwe.proofs.images.answering_image.Goals as goal

pub loop-i-init : goal.loop-i-init
loop-i-init g c = (walked_none _ _ _, refl, λ k h j m. get_or_same 8192 (k * c.args.sizes.now.n + j) (pos 0), λ k. rw (get_or_same 8192 k (pos 0)) (omega arith))

pub loop-i-preserved : goal.loop-i-preserved
loop-i-preserved g c =
    let i = c.loop-i.i in
    let n = c.args.sizes.now.n in
    let l = c.args.sizes.now.lb in
    let m = g.S.MatrixSource.meaning c.args.source.now in
    let seed = c.args.seed.now in
    let walked = c.loop-i.invariant.0 in
    let ends = row_ends i n l (omega arith) in
    let row = c.read_row.new.row in
    let across = length-between c.args.x2.now (i * l) (i * l + l) (omega arith) in
    let entries = row_entries g.S.MatrixSource.meaning seed i n c.args.source.now c.loop-i.source row walked (λ r h. c.read_row.ensures.entries c.in_ok-read_row.was r (omega arith)) in (
      walked_more _ g.S.MatrixSource.turned seed i _ _ _ c.read_row.result c.read_row.ensures.turned walked c.in_ok-read_row.was,
      c.type_inv.sums,
      λ k h j m'.
          sums_entry i k j (m.entry seed) (signed l c.args.x2.now) (get_or row j 0) (signed n c.loop-i.sums k j) (signed n c.add_row.new.sums k j) _ (c.loop-i.invariant.2 k h j m') (entries j m') (get_or-between c.args.x2.now (i * l) (i * l + l) k (pos 0) (omega arith))
          (c.add_row.ensures.value k (omega arith) j (omega arith)),
      λ k. omega (arith, c.add_row.ensures.grows (i * 2 ^ 32) c.loop-i.invariant.3 k),
    )

pub returns : goal.returns
returns g c =
    let n = c.args.sizes.now.n in
    let l = c.args.sizes.now.lb in
    let m = g.S.MatrixSource.meaning c.args.source.now in
    let all : c.loop-i.i ≡ n = omega arith in
    let Y = Y2 c.args.sizes.now.q n (public_matrix m c.args.seed.now) (signed l c.args.x2.now) (signed l c.args.e2.now) in
    imaged g.S.MatrixSource.meaning c.args.seed.now n l c.loop-i.i Y c.args.source.now c.loop-i.source c.noisy_image.result c.loop-i.invariant.0 (omega arith) (sym c.side.ensures ∙ c.if-side-n.false)
    (c.noisy_image.ensures ∙ image_same c.args.sizes.now.q n l c.loop-i.i (public_matrix m c.args.seed.now) (signed l c.args.x2.now) (signed l c.args.e2.now) c.loop-i.sums all (omega arith) c.loop-i.invariant.2)
