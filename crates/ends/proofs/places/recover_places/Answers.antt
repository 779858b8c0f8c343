use Rattle.std.proofs.Common.{length, get_or, sym, ap, ◌∙◌, arith}
use Rattle.lwe.specs.Matrices.{padded}
use Rattle.lwe.proofs.Arrays.{padded_more, padded_all}
use Rattle.ends.specs.Keys.{recover_all}
use Rattle.ends.proofs.Settling.{recovered_at, recovered_is, length_recovered}
use Rattle.ends.proofs.places.recover_places.Goals as goal

pub loop-k-preserved : goal.loop-k-preserved
loop-k-preserved g c =
    let m = g.R.Rule.meaning c.args.rule.now in
    let sums = c.args.sums.now in
    let hints = c.args.hints.now in
    let k = c.loop-k.k in
    let long = length_recovered m sums hints c.requires.counts.0 in
    let value = recovered_is m (get_or sums k 0) (get_or hints k 0) c.unwrap.result (c.requires.sums k (omega arith)) (c.requires.hints k (omega arith)) (sym c.unwrap.ensures ∙ c.recover.ensures) in
    padded_more 0 (length c.fill.new.self) (recover_all m sums hints) c.loop-k.digits k c.unwrap.result (omega (arith, c.fill.auto.self, c.requires.counts.1)) (omega arith) c.loop-k.invariant
    (value ∙ sym (recovered_at m sums hints k (omega arith) c.requires.counts.0))

pub returns : goal.returns
returns g c =
    let m = g.R.Rule.meaning c.args.rule.now in
    let xs = recover_all m c.args.sums.now c.args.hints.now in
    let long = length_recovered m c.args.sums.now c.args.hints.now c.requires.counts.0 in
    c.loop-k.invariant ∙ padded_all 0 (length c.fill.new.self) c.loop-k.k xs (omega (arith, c.fill.auto.self, c.requires.counts.1)) ∙ ap (λ n. padded 0 n xs) c.fill.auto.self
