-- The line that a record prints, and the lines of a whole input. Assumes nothing.
use Rattle.std.specs.Prelude.{ℕ, ◌+◌, ◌*◌, ◌/◌, ◌%◌, min, List, ◌++◌, length, drop, Ok, Err, codes, decimal, Result}
use Rattle.std.specs.List.{range_with_len, flat_map}
use Rattle.refusal.specs.Printed.{printed}
use Rattle.trial_record.specs.Faults.{number}
use Rattle.trial_record.specs.Trials.{record_reply}
use Rattle.trial_record.specs.declared.fault.TrialFault.{TrialFault}
use Rattle.trial_record.specs.declared.record.Outcome.{Outcome}

-- four numbers, or the number of a refusal
abbrev pub line : Result Outcome TrialFault → List ℕ
line (Ok o) =
    decimal o.digit ++ (codes " " ++ (decimal o.hint ++ (codes " " ++ (decimal o.recovered ++ (codes " " ++ decimal o.distance)))))
line (Err fault) = printed (number fault)

-- the line of the record with the number i, whose bytes stand from 14 * i on
abbrev pub line_at : List ℕ → ℕ → List ℕ
line_at input i = line (record_reply (drop (14 * i) input)) ++ codes "\n"

-- whole records, and one more where bytes are left
abbrev pub records : List ℕ → ℕ
records input = length input / 14 + min 1 (length input % 14)

abbrev pub output : List ℕ → List ℕ
output input = flat_map (line_at input) (range_with_len 0 (records input))
