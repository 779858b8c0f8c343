-- What a line asks for. Assumes nothing.
use Rattle.std.specs.Prelude.{ℕ, cond, List, [], ◌∷◌, Some, None, codes, Option}
use Rattle.std.specs.Option.{option_map}
use Rattle.std.specs.Str.{bytes_eq}
use Rattle.text.specs.Words.{words}
use Rattle.vector_line.specs.Arguments.{Word}
use Rattle.vector_line.specs.Rows.{row_line}
use Rattle.vector_line.specs.Shakes.{shake_line}

-- what a request prints, by its name and the words after it
abbrev pub line_of : Word → List Word → Option (List ℕ)
line_of name arguments =
    cond (bytes_eq name (codes "shake128")) (shake_line arguments) (cond (bytes_eq name (codes "row")) (row_line arguments) None)

-- None: no request; Some None: nothing is printed; Some (Some text): the text is.
-- A line with no word prints nothing; else its first word is the name of a request
abbrev pub answer_to : List Word → Option (Option (List ℕ))
answer_to [] = Some None
answer_to (name ∷ arguments) = option_map (λ text. Some text) (line_of name arguments)

abbrev pub answer_of : List ℕ → Option (Option (List ℕ))
answer_of line = answer_to (words line)
