-- The words after the name of a request. Assumes nothing.
use Rattle.std.specs.Prelude.{ℕ, List, [], ◌∷◌, Some, None, Option}

abbrev pub Word : Type 0
Word = List ℕ

-- exactly two words
abbrev pub two_words : List Word → Option (Word × Word)
two_words [] = None
two_words (a ∷ []) = None
two_words (a ∷ b ∷ []) = Some (a, b)
two_words (a ∷ b ∷ c ∷ words) = None

-- exactly four words
abbrev pub four_words : List Word → Option (Word × Word × Word × Word)
four_words [] = None
four_words (a ∷ []) = None
four_words (a ∷ b ∷ []) = None
four_words (a ∷ b ∷ c ∷ []) = None
four_words (a ∷ b ∷ c ∷ d ∷ []) = Some (a, b, c, d)
four_words (a ∷ b ∷ c ∷ d ∷ e ∷ words) = None
