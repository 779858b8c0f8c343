use Rattle.std.proofs.Common.{◌+◌, ◌-◌, ◌*◌, pos, ◌∙◌, arith}
use Rattle.std.proofs.lemmas.List.Edits.{length-between}
use Rattle.lwe.specs.Matrices.{signed, transposed}
use Rattle.lwe.proofs.Places.{put_length, row_put, row_within}
use Rattle.lwe.proofs.sizes.Sizes.columns_of.Goals as goal

pub loop-c-preserved : goal.loop-c-preserved
loop-c-preserved c =
    let i = c.loop-c.c in
    let n = c.args.self.now.n in
    let ends = row_within i n (omega arith) (omega arith) in
    let part = length-between c.loop-c.columns (i * n) (i * n + n) (omega (arith, c.loop-c.invariant.0)) in
    let long = c.take_column.auto.column ∙ part in (
      put_length (i * n) (i * n + n - i * n) c.loop-c.columns c.take_column.new.column (pos 0) (omega (arith, c.loop-c.invariant.0)) long ∙ c.loop-c.invariant.0,
      row_put (pos 0) n i c.loop-c.columns c.take_column.new.column (transposed (signed c.args.self.now.la c.args.x.now)) (omega (arith, c.loop-c.invariant.0)) long c.loop-c.invariant.1 (λ r h. c.take_column.ensures r (omega arith)),
    )
