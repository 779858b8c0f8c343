-- The number, the place and the words of a refusal. Assumes nothing.
use Rattle.std.specs.Prelude.{ℕ, List, codes}
use Rattle.noise.specs.declared.fault.NoiseFault.{NoiseFault}
use Rattle.noise.specs.declared.fault.NoiseFault.TheVariants.{Law, Word}

abbrev pub number : NoiseFault → ℕ
number Law = 1
number Word = 5

abbrev pub place : NoiseFault → ℕ
place Law = 0
place Word = 0

abbrev pub words : NoiseFault → List ℕ
words Law = codes "no noise law has the number"
words Word = codes "a noise word is out of range"
