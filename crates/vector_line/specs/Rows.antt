-- What `row SEED I N Q` prints. Assumes nothing.
use Rattle.std.specs.Prelude.{ℕ, List, [], ◌∷◌, ◌++◌, map, Some, None, Ok, Err, codes, decimal, Option, Result}
use Rattle.matrix.specs.Expansion.{expansion_built}
use Rattle.matrix.specs.Faults.{number}
use Rattle.matrix.specs.Matrices.{Matrices, Row}
use Rattle.matrix.specs.Replies.{turn_reply}
use Rattle.matrix.specs.declared.fault.SourceFault.{SourceFault}
use Rattle.std.specs.List.{range_with_len, flat_map}
use Rattle.std.specs.Option.{option_map}
use Rattle.text.specs.Hex.{seed_of}
use Rattle.text.specs.Numbers.{followed, decimal_value}
use Rattle.vector_line.specs.Arguments.{Word, four_words}
use Rattle.vector_line.specs.Refusals.{granted, refusal_text}
use Rattle.vector_line.specs.declared.row.RowRequest.{RowRequest}

-- the first n entries of the row that a source is turned to
abbrev pub entries_to : Matrices → Option Row → (n : ℕ) → List ℕ
entries_to m None n = []
entries_to m (Some row) n = map (m.entry row.0 row.1) (range_with_len 0 n)

-- all of them
abbrev pub turned_entries : Matrices → Option Row → List ℕ
turned_entries m row = entries_to m row m.side

-- row i of the source with side n and modulus q: it is built, and turned to the row
abbrev pub row_reply : List ℕ → (i n q : ℕ) → Result (List ℕ) SourceFault
row_reply seed i n q =
    granted (expansion_built n q) (λ m. granted (turn_reply m seed i) (λ _. Ok (map (m.entry seed i) (range_with_len 0 n))))

-- a number after another one
abbrev pub spaced_number : ℕ → List ℕ
spaced_number n = codes " " ++ decimal n

abbrev pub spaced_text : List ℕ → List ℕ
spaced_text [] = []
spaced_text (n ∷ others) = decimal n ++ flat_map spaced_number others

-- the entries, or the number of the refusal
abbrev pub row_text : Result (List ℕ) SourceFault → List ℕ
row_text (Ok entries) = spaced_text entries
row_text (Err fault) = refusal_text (number fault)

-- the request that words make, if they are a seed and three numbers
abbrev pub row_request : List Word → Option RowRequest
row_request words =
    followed (four_words words)
    (λ w.
    followed (seed_of w.0)
    (λ seed.
    followed (decimal_value w.1)
    (λ i. followed (decimal_value w.2) (λ n. followed (decimal_value w.3) (λ q. Some (record { seed = seed; row = i; n = n; q = q }))))))

abbrev pub row_line : List Word → Option (List ℕ)
row_line words = option_map (λ r. row_text (row_reply r.seed r.row r.n r.q)) (row_request words)
