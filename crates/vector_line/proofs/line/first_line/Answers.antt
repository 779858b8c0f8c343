use Rattle.std.proofs.Common.{◌≡◌, ℕ, Bool, Option, sym, ap, ◌∙◌, unwrap_or, eqb, length, rules, tests}
use Rattle.std.proofs.lemmas.Iterator.{YieldsList-from_slice}
use Rattle.std.proofs.lemmas.Iterator.Search.{position_from_yields_List}
use Rattle.text.specs.Words.{place}
use Rattle.text.proofs.Cutting.{place_found}
use Rattle.vector_line.proofs.Steps.{cut_here, uncut}
use Rattle.vector_line.proofs.line.first_line.Goals as goal
use Rattle.vector_line.proofs.line.first_line.Goals.{After-position}

feed : (c : After-position) → unwrap_or c.position.result (length c.args.input.now) ≡ place 10 c.args.input.now
feed c =
    let input = c.args.input.now in
    let is : ℕ → Bool = λ b. eqb b 10 in
    let first = position_from_yields_List is _ _ c.position.result c.position.ensures.ran (YieldsList-from_slice input cc) (λ x b q k. search (rules, tests)) in
    ap (λ (o : Option ℕ). unwrap_or o (length input)) first ∙ place_found 10 input

pub returns-in-Some : goal.returns-in-Some
returns-in-Some c =
    let cut = cut_here c.args.input.now c.in-Some.i
    (ap (λ (o : Option ℕ). unwrap_or o (length c.args.input.now)) (sym c.in-Some.is) ∙ feed (goal.at.returns-in-Some c).After-position) in
    record { front = cut.0; back = cut.1 }

pub returns-in-None : goal.returns-in-None
returns-in-None c =
    let cut = uncut c.args.input.now
    (ap (λ (o : Option ℕ). unwrap_or o (length c.args.input.now)) (sym c.in-None.is) ∙ feed (goal.at.returns-in-None c).After-position) in
    record { front = cut.0; back = cut.1 }
