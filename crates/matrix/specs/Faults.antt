-- The number, the place and the words of a refusal. Assumes nothing.
use Rattle.std.specs.Prelude.{ℕ, List, codes}
use Rattle.matrix.specs.declared.fault.SourceFault.{SourceFault}
use Rattle.matrix.specs.declared.fault.SourceFault.TheVariants.{Shape, NotTurned, Row, Column, UnknownSeed}

abbrev pub number : SourceFault → ℕ
number Shape = 3
number NotTurned = 6
number Row = 8
number Column = 8
number UnknownSeed = 14

abbrev pub place : SourceFault → ℕ
place Shape = 0
place NotTurned = 0
place Row = 0
place Column = 0
place UnknownSeed = 0

abbrev pub words : SourceFault → List ℕ
words Shape = codes "the side, the modulus or the numbers do not make a matrix source"
words NotTurned = codes "a column is read before any turn"
words Row = codes "a row is out of range"
words Column = codes "a column is out of range"
words UnknownSeed = codes "the source does not know the seed"
