use Rattle.consensus.specs.Divisors.{euclid_last, euclid_step, gcd_is}
use Rattle.consensus.proofs.arithmetic.+gcd.Goals as goal

pub returns-then-b-eq0 : goal.returns-then-b-eq0
returns-then-b-eq0 t c =
    let greatest = euclid_last c.args.a c.args.b c.if-b-eq0.true in
    record { answer = gcd_is c.args.a c.args.b c.args.a greatest; greatest = greatest }

pub returns-else-b-eq0 : goal.returns-else-b-eq0
returns-else-b-eq0 t c =
    let greatest = euclid_step c.args.a c.args.b c.gcd.result c.gcd.ensures.greatest in
    record { answer = gcd_is c.args.a c.args.b c.gcd.result greatest; greatest = greatest }
