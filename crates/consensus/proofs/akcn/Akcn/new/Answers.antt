use Rattle.std.proofs.Common.{sym, refl, subst}
use Rattle.consensus.specs.Numbers.{AkcnKept}
use Rattle.consensus.specs.Rules.{akcn_bound}
use Rattle.consensus.proofs.Building.{granted}
use Rattle.consensus.proofs.akcn.Akcn.new.Goals as goal

pub invariant_of-result : goal.invariant_of-result
invariant_of-result c =
    let x = c.args in
    let (numbers, is) = granted x.q x.m x.g (akcn_bound x.q x.m x.g) _ c.in_ok-numbers.numbers c.in_ok-numbers.ensures in
    record { kept = subst AkcnKept (sym is) (record { allowed = numbers.allowed; meets = numbers.largest.meets; same = refl }) }

pub returns-clause-exactly : goal.returns-clause-exactly
returns-clause-exactly c =
    let x = c.args in
    let (numbers, is) = granted x.q x.m x.g (akcn_bound x.q x.m x.g) _ c.in_ok-numbers.numbers c.in_ok-numbers.ensures in
    rw is (numbers.allowed, numbers.largest)
