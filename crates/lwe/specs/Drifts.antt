-- What is told of a place's drift. Assumes nothing.
use Rattle.std.specs.Prelude.{ℕ, ◌*◌, ◌/◌, ◌%◌, cond, ℤ, Ok, Err, Result, nat_lt}
use Rattle.lwe.specs.Exchange.{Drawn, DifferBy, drift, opening_sum, answering_sum}
use Rattle.lwe.specs.Matrices.{Matrix, signed}
use Rattle.lwe.specs.declared.drift.DrawnValues.{DrawnValues}
use Rattle.lwe.specs.declared.fault.LweFault.{LweFault}
use Rattle.lwe.specs.declared.fault.LweFault.TheVariants.{Place}
use Rattle.lwe.specs.declared.sizes.Sizes.{Sizes}

-- the matrices that the values are, row by row
abbrev pub drawn_by : Sizes → DrawnValues → Drawn
drawn_by s v = record {
  X1 = signed s.la v.x1.now;
  E1 = signed s.la v.e1.now;
  X2 = signed s.lb v.x2.now;
  E2 = signed s.lb v.e2.now;
  Eσ = signed s.lb v.noise.now;
}

-- a place is counted row by row from 0; one out of range is refused
abbrev pub drift_reply : Sizes → Drawn → (place : ℕ) → Result ℤ LweFault
drift_reply s d place = cond (nat_lt place (s.la * s.lb)) (Ok (drift s.n d (place / s.lb) (place % s.lb))) (Err Place)

-- at this place the two sums that come of these draws differ by z, whatever the public matrix
abbrev pub Tells : Sizes → Drawn → (place : ℕ) → ℤ → Type 0
Tells s d place z =
    (A : Matrix)
    → DifferBy s.q z (opening_sum s.q s.n A d (place / s.lb) (place % s.lb)) (answering_sum s.q s.n A d (place / s.lb) (place % s.lb))
