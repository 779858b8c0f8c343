use Rattle.std.proofs.Common.{ℕ, Bool, Option, ◌∙◌, ap, unwrap_or, eqb, length, rules, tests}
use Rattle.std.proofs.lemmas.Iterator.{YieldsList-from_slice}
use Rattle.std.proofs.lemmas.Iterator.Search.{position_from_yields_List}
use Rattle.text.proofs.Cutting.{place_found}
use Rattle.text.proofs.words.place_of.Goals as goal

pub returns-clause-value : goal.returns-clause-value
returns-clause-value c =
    let bytes = c.args.bytes.now in
    let is : ℕ → Bool = λ b. eqb b c.args.byte in
    let first = position_from_yields_List is _ _ c.position.result c.position.ensures.ran (YieldsList-from_slice bytes cc) (λ x b q k. search (rules, tests)) in
    c.unwrap_or.ensures ∙ ap (λ (o : Option ℕ). unwrap_or o (length bytes)) first ∙ place_found c.args.byte bytes
