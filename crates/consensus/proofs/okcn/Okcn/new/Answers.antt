use Rattle.std.proofs.Common.{ℕ, ◌/◌, sym, ap, subst}
use Rattle.consensus.specs.Numbers.{OkcnKept, made}
use Rattle.consensus.specs.Rules.{okcn_bound}
use Rattle.consensus.specs.declared.numbers.Numbers.{Numbers}
use Rattle.consensus.proofs.Building.{granted}
use Rattle.consensus.proofs.okcn.Okcn.new.Goals as goal

pub invariant_of-result : goal.invariant_of-result
invariant_of-result c =
    let x = c.args in
    let (numbers, is) = granted x.q x.m x.g (okcn_bound x.q x.g) _ c.in_ok-numbers.numbers c.in_ok-numbers.ensures in
    let draw = λ (n : Numbers) (d : ℕ). record n { draws = x.m / d } in
    let same = ap (draw (made x.q x.m x.g (okcn_bound x.q x.g))) c.gcd.ensures.answer in
    record { kept = subst (λ (n : Numbers). OkcnKept (draw n c.gcd.result)) (sym is) (record { allowed = numbers.allowed; meets = numbers.largest.meets; same = same }) }

pub returns-clause-exactly : goal.returns-clause-exactly
returns-clause-exactly c =
    let x = c.args in
    let (numbers, is) = granted x.q x.m x.g (okcn_bound x.q x.g) _ c.in_ok-numbers.numbers c.in_ok-numbers.ensures in
    rw is (numbers.allowed, numbers.largest)
