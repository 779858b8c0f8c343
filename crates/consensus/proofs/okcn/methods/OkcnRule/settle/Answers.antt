use Rattle.std.proofs.Common.{◌*◌, ◌<◌, arith}
use Rattle.consensus.specs.OkcnValues.{some_point, digit_fits}
use Rattle.consensus.specs.Residues.{residue_below}
use Rattle.consensus.proofs.okcn.methods.OkcnRule.settle.Goals as goal

pub overflow_cast-result : goal.overflow_cast-result
overflow_cast-result c =
    let r = c.args.self.now in
    let point = c.difference_mod-point in
    let inside : point.result < r.numbers.draws * r.numbers.modulus = rw point.ensures (residue_below _ _ (some_point r)) in
    omega (arith, digit_fits r point.result inside)
