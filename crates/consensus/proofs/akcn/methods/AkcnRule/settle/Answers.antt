use Rattle.std.proofs.Common.{◌≡◌, ◌≤◌, ap, arith}
use Rattle.consensus.specs.declared.numbers.Numbers.{Numbers}
use Rattle.consensus.proofs.Fits.{digit_place, hint_small}
use Rattle.consensus.proofs.akcn.methods.AkcnRule.settle.Goals as goal

pub round-requires : goal.round-requires
round-requires c =
    let r = c.args.self.now.numbers in
    let kept = c.args.self.now.kept in
    let granted = c.in_ok-check_settling.ensures.granted in
    let drawn : r.draws ≡ r.digits = ap (λ (n : Numbers). n.draws) kept.same in
    let place = digit_place r.modulus r.digits r.hints kept.allowed c.args.draw (omega arith) in
    let placed : c.round-shift.result ≤ r.modulus = rw (c.round-shift.ensures, c.from.ensures) place in
    let small = hint_small r.modulus r.digits r.hints kept.allowed c.args.sum c.round-shift.result granted.0 placed in
    (rw c.from-2.ensures small, omega arith, omega arith)
