use Rattle.std.proofs.Common.{◌≡◌, ◌++◌, drop, string_bytes}
use Rattle.std.specs.List.{flat_map}
use Rattle.vector_line.specs.Rows.{spaced_number, spaced_text}
use Rattle.vector_line.proofs.row.spaced.Given as goal

-- what is left gives the rest of the text
abbrev pub invariant-loop-number : goal.invariant-loop-number
invariant-loop-number l = spaced_text l.numbers ≡ string_bytes l.text ++ flat_map spaced_number (drop l.number-index l.others)
