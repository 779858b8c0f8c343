use Rattle.std.proofs.Common.{◌≡◌, ◌^◌, ◌<◌, drop}
use Rattle.text.specs.Numbers.{decimal_value}
use Rattle.text.proofs.Reading.{read_from}
use Rattle.text.proofs.decimal.decimal.Given as goal

-- what is left gives the answer, after the value so far
abbrev pub invariant-loop-byte : goal.invariant-loop-byte
invariant-loop-byte l = (l.value < 2 ^ 32) × (decimal_value l.word ≡ read_from l.value (drop l.byte-index l.word))
