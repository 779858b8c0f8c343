-- What the calls of a noise law answer, refusals included. Assumes nothing.
use Rattle.std.specs.Prelude.{ℕ, ◌^◌, cond, ℤ, Ok, Err, Result, nat_le, nat_lt}
use Rattle.noise.specs.Laws.{width_of, value_of}
use Rattle.noise.specs.declared.fault.NoiseFault.{NoiseFault}
use Rattle.noise.specs.declared.fault.NoiseFault.TheVariants.{Law, Word}
use Rattle.noise.specs.declared.law.NoiseLaw.{NoiseLaw}
use Rattle.noise.specs.declared.law.NoiseLaw.TheVariants.{Zero, One, Two, Three, Four, Five}

abbrev pub number_of : NoiseLaw → ℕ
number_of Zero = 0
number_of One = 1
number_of Two = 2
number_of Three = 3
number_of Four = 4
number_of Five = 5

-- the number of the law that is built
abbrev pub law_reply : ℕ → Result ℕ NoiseFault
law_reply number = cond (nat_le number 5) (Ok number) (Err Law)

abbrev pub value_reply : ℕ → ℕ → Result ℤ NoiseFault
value_reply number word = cond (nat_lt word (2 ^ width_of number)) (Ok (value_of number word)) (Err Word)
