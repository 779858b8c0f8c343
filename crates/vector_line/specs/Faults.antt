-- What a call comes to that memory may stop. Assumes nothing.
use Rattle.std.specs.Prelude.{◌≡◌, Some, None, Option, Ok, Err, Result}
use Rattle.vector_line.specs.declared.fault.LineFault.{LineFault}
use Rattle.vector_line.specs.declared.fault.LineFault.TheVariants.{NoRequest, Memory}

-- a fact that a fault tells, unless memory ran out
abbrev pub Tells : LineFault → Type 0 → Type 0
Tells NoRequest P = P
Tells (Memory error) P = Unit {0}

-- the call gave what is wanted, or said that nothing is, unless memory ran out
abbrev pub Gives : {X Y : Type 0} → (X → Y) → Option Y → Result X LineFault → Type 0
Gives view wanted (Ok x) = wanted ≡ Some (view x)
Gives view wanted (Err fault) = Tells fault (wanted ≡ None)
