use Rattle.std.proofs.Common.{ℕ, Bool, Option, ◌∙◌, ap, unwrap_or, eqb, not, length, rules, tests}
use Rattle.std.proofs.lemmas.Iterator.{YieldsList-from_slice}
use Rattle.std.proofs.lemmas.Iterator.Search.{position_from_yields_List}
use Rattle.text.proofs.Cutting.{spaces_found}
use Rattle.text.proofs.words.leading_spaces.Goals as goal

pub returns-clause-value : goal.returns-clause-value
returns-clause-value c =
    let bytes = c.args.bytes.now in
    let is : ℕ → Bool = λ b. not (eqb b 32) in
    let first = position_from_yields_List is _ _ c.position.result c.position.ensures.ran (YieldsList-from_slice bytes cc) (λ x b q k. search (rules, tests)) in
    c.unwrap_or.ensures ∙ ap (λ (o : Option ℕ). unwrap_or o (length bytes)) first ∙ spaces_found bytes
