use Rattle.std.proofs.Common.{◌≡◌, drop}
use Rattle.ends.specs.Draws.{first_over}
use Rattle.ends.proofs.draws.WordsNeeded.check.Given as goal

-- what is left gives the answer
abbrev pub invariant-loop-i : goal.invariant-loop-i
invariant-loop-i l = first_over l.self 0 l.words ≡ first_over l.self l.i (drop l.i l.words)
