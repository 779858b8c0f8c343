-- The number, the place and the words of a refusal. Assumes nothing.
use Rattle.std.specs.Prelude.{ℕ, List, codes}
use Rattle.lwe.specs.declared.fault.LweFault.{LweFault}
use Rattle.lwe.specs.declared.fault.LweFault.TheVariants.{Sizes, Place}

abbrev pub number : LweFault → ℕ
number Sizes = 1
number Place = 8

abbrev pub place : LweFault → ℕ
place Sizes = 0
place Place = 0

abbrev pub words : LweFault → List ℕ
words Sizes = codes "a size of the exchange is outside its limits"
words Place = codes "a place is out of range"
