use Rattle.std.proofs.Common.{◌≡◌, ◌^◌, rules, tests}
use Rattle.std.proofs.lemmas.Iterator.{first_from_Range}
use Rattle.matrix.proofs.Building.{exponent_found}
use Rattle.matrix.proofs.expansion.exponent.Goals as goal

pub returns : goal.returns
returns c =
    let q = c.args.q in
    exponent_found q c.find.result (first_from_Range _ _ _ _ (λ k. q ≡ 2 ^ k) (λ k. q ≡ 2 ^ k → ⊥) c.find.ensures.ran (λ k f call. search (rules, tests)) (λ k f call. (search rules, search (rules, tests))))
