use Rattle.std.proofs.Common.{◌≡◌, ◌+◌, ◌*◌, pos, sym, ap, ◌∙◌, zero-mul, arith}
use Rattle.std.proofs.lemmas.List.Edits.{length-between, get_or-between}
use Rattle.lwe.specs.Exchange.{Y1}
use Rattle.lwe.specs.Images.{public_matrix}
use Rattle.lwe.specs.Matrices.{signed}
use Rattle.lwe.proofs.Places.{filled_none, filled_row, filled_all, row_ends}
use Rattle.lwe.proofs.Rows.{row_entries, walked_none, walked_more}
use Rattle.lwe.proofs.Steps.{image_entry, imaged}
use Rattle.lwe.proofs.images.opening_image.Goals as goal

pub loop-i-init : goal.loop-i-init
loop-i-init g c = (walked_none _ _ _, rw zero-mul (filled_none _ 8192))

pub loop-i-preserved : goal.loop-i-preserved
loop-i-preserved g c =
    let i = c.loop-i.i in
    let n = c.args.sizes.now.n in
    let l = c.args.sizes.now.la in
    let m = g.S.MatrixSource.meaning c.args.source.now in
    let seed = c.args.seed.now in
    let walked = c.loop-i.invariant.0 in
    let ends = row_ends i n l (omega arith) in
    let row = c.read_row.new.row in
    let entries = row_entries g.S.MatrixSource.meaning seed i n c.args.source.now c.loop-i.source row walked (λ r h. c.read_row.ensures.entries c.in_ok-read_row.was r (omega arith)) in
    let long = c.image_row.auto.image ∙ length-between c.loop-i.image (i * l) (i * l + l) (omega (arith, c.loop-i.invariant.1.long)) in (
      walked_more _ g.S.MatrixSource.turned seed i _ _ _ c.read_row.result c.read_row.ensures.turned walked c.in_ok-read_row.was,
      filled_row 8192 l i _ c.loop-i.image c.image_row.new.image (omega arith) long c.loop-i.invariant.1
          (λ k h.
          c.image_row.ensures k (omega arith)
          ∙ image_entry c.args.sizes.now.q n l i k (m.entry seed) (signed l c.args.x1.now) (signed l c.args.e1.now) row c.columns_of-columns.result _ h entries c.columns_of-columns.ensures (get_or-between c.args.e1.now (i * l) (i * l + l) k (pos 0) (omega arith))),
    )

pub returns : goal.returns
returns g c =
    let n = c.args.sizes.now.n in
    let l = c.args.sizes.now.la in
    let m = g.S.MatrixSource.meaning c.args.source.now in
    let all : c.loop-i.i ≡ n = omega arith in
    let Y = Y1 c.args.sizes.now.q n (public_matrix m c.args.seed.now) (signed l c.args.x1.now) (signed l c.args.e1.now) in
    imaged g.S.MatrixSource.meaning c.args.seed.now n l c.loop-i.i Y c.args.source.now c.loop-i.source c.loop-i.image c.loop-i.invariant.0 (omega arith) (sym c.side.ensures ∙ c.if-side-n.false)
    (filled_all 8192 (c.loop-i.i * l) n l Y c.loop-i.image (ap (λ i. i * l) all) (omega arith) c.loop-i.invariant.1)
