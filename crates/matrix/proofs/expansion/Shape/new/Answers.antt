use Rattle.std.proofs.Common.{◌≡◌, Err, arith, rules}
use Rattle.matrix.specs.declared.fault.SourceFault.TheVariants.{Shape}
use Rattle.matrix.proofs.Building.{built, not_built}
use Rattle.matrix.proofs.expansion.Shape.new.Goals as goal

pub returns-in_err-bits : goal.returns-in_err-bits
returns-in_err-bits c =
    let e : c.from_residual.result ≡ Err Shape = search rules in
    let none = not_built c.args.n c.args.q c.exponent.result (omega arith) (omega arith) c.in_err-bits.ensures.ok_part c.exponent.ensures in rw e none

pub returns : goal.returns
returns c = built c.args.n c.args.q c.in_ok-bits.bits c.exponent.result (omega arith) (omega arith) c.in_ok-bits.ensures.ok_part c.exponent.ensures
