use Rattle.std.proofs.Common.{length, sym, ap, arith}
use Rattle.text.proofs.Cutting.{Cut, onward, cut_at, cut_some, cut_none}
use Rattle.text.proofs.words.WordsIterator.next.Goals as goal
use Rattle.text.proofs.words.WordsIterator.next.Goals.{After-is_empty}

made_cut : (c : After-is_empty)
    → Cut c.args.self.now.rest.now (onward c.args.self.now.rest.now c.leading_spaces-start.result)
    c.split_at.result.0.now c.split_at.result.1.now
made_cut c =
    cut_at c.args.self.now.rest.now c.leading_spaces-start.result c.place_of.result c.split_at.result.0.now c.split_at.result.1.now
    c.leading_spaces-start.ensures.value c.place_of.ensures.value c.split_at.ensures.front c.split_at.ensures.back

pub returns-then-is_empty-clause-steps : goal.returns-then-is_empty-clause-steps
returns-then-is_empty-clause-steps c = cut_none _ _ _ _ (made_cut (goal.at.returns-then-is_empty-clause-steps c).After-is_empty) (sym c.if-is_empty.ensures)

pub returns-else-is_empty-clause-steps : goal.returns-else-is_empty-clause-steps
returns-else-is_empty-clause-steps c = cut_some _ _ _ _ (made_cut (goal.at.returns-else-is_empty-clause-steps c).After-is_empty) (sym c.if-is_empty.ensures)

pub returns-else-is_empty-clause-goes : goal.returns-else-is_empty-clause-goes
returns-else-is_empty-clause-goes c =
    let steps = cut_some _ _ _ _ (made_cut (goal.at.returns-else-is_empty-clause-goes c).After-is_empty) (sym c.if-is_empty.ensures) in
    record { on = λ _. (tt, tt, omega (arith, ap length steps)); keeps = tt; rests = λ _. tt }
