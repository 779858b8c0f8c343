-- Which refusal comes first, and the answer that follows from it. Assumes nothing.
use Rattle.std.specs.Prelude.{Bool, cond, Some, None, Ok, Err, Option, Result}

module _ {F : Type 0} where
  -- the fault where the test fails, else what comes later
  abbrev pub check : Bool → F → Option F → Option F
  check passed fault later = cond passed later (Some fault)

  -- the first of two
  abbrev pub first_of : Option F → Option F → Option F
  first_of None later = later
  first_of (Some fault) later = Some fault

  -- the answer: the fault, or the value where there is none
  abbrev pub unless : {X : Type 0} → Option F → X → Result X F
  unless None x = Ok x
  unless (Some fault) x = Err fault
