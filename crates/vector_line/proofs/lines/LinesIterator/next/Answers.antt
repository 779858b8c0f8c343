use Rattle.std.proofs.Common.{[], ◌∷◌, length, sym, ap, ap₂, ◌∙◌, arith}
use Rattle.std.proofs.lemmas.Bool.Decides.{nat_tests}
use Rattle.vector_line.specs.Lines.{lines_after}
use Rattle.vector_line.proofs.Cutting.{line_off}
use Rattle.vector_line.proofs.lines.LinesIterator.next.Goals as goal

pub returns : goal.returns
returns c =
    let rest = c.args.self.now.rest.now in
    let steps = line_off [] rest (grind (arith, nat_tests, sym c.if-is_empty.ensures)) ∙ ap₂ (λ line others. line ∷ lines_after [] others) (sym c.first_line.ensures.front) (sym c.first_line.ensures.back) in
    record { steps = steps; goes = record { on = λ _. (tt, tt, omega (arith, ap length steps)); keeps = tt; rests = λ _. tt } }
