-- The lines of an input. Assumes nothing.
use Rattle.std.specs.Prelude.{ℕ, cond, List, [], ◌∷◌, ◌++◌, ◌==◌}
use Rattle.text.specs.Words.{before}
use Rattle.vector_line.specs.declared.lines.Lines.{Lines}

-- the lines of bytes that follow a line so far: each ends at a line feed (10), and the last one may lack it
abbrev pub lines_after : List ℕ → List ℕ → List (List ℕ)
lines_after line [] = before line []
lines_after line (b ∷ bs) = cond (b == 10) (line ∷ lines_after [] bs) (lines_after (line ++ b ∷ []) bs)

abbrev pub lines : List ℕ → List (List ℕ)
lines input = lines_after [] input

-- the lines that are still to come
abbrev pub lines_left : Lines → List (List ℕ)
lines_left l = lines l.rest.now
