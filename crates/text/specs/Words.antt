-- The words of a line. Assumes nothing.
use Rattle.std.specs.Prelude.{ℕ, suc, cond, List, [], ◌∷◌, ◌++◌, take, ◌==◌}
use Rattle.text.specs.declared.words.Words.{Words}

-- where a byte first stands, and the length where it does not
abbrev pub place : ℕ → List ℕ → ℕ
place byte [] = 0
place byte (b ∷ bs) = cond (b == byte) 0 (suc (place byte bs))

-- how many spaces (32) come first
abbrev pub spaces : List ℕ → ℕ
spaces [] = 0
spaces (b ∷ bs) = cond (b == 32) (suc (spaces bs)) 0

-- a `#` (35) begins a comment, which reaches to the end of the line
abbrev pub uncommented : List ℕ → List ℕ
uncommented line = take (place 35 line) line

-- a word before others; with no byte it is none
abbrev pub before : List ℕ → List (List ℕ) → List (List ℕ)
before [] words = words
before (b ∷ bs) words = (b ∷ bs) ∷ words

-- the words of bytes that follow a word so far: the longest runs of bytes other than the space
abbrev pub words_after : List ℕ → List ℕ → List (List ℕ)
words_after word [] = before word []
words_after word (b ∷ bs) = cond (b == 32) (before word (words_after [] bs)) (words_after (word ++ b ∷ []) bs)

abbrev pub words : List ℕ → List (List ℕ)
words line = words_after [] (uncommented line)

-- the words that are still to come
abbrev pub left : Words → List (List ℕ)
left w = words_after [] w.rest.now
