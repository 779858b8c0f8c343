-- What the views of a message mean. Assumes nothing.
use Rattle.std.specs.Prelude.{ℕ, List, Result, map}
use Rattle.lwe.specs.Limits.{Dimensions}
use Rattle.wire.specs.declared.fault.WireFault.{WireFault}
use Rattle.wire.specs.declared.kind.Kind.{Kind}
use Rattle.wire.specs.declared.numbers.Numbers.{Numbers}
use Rattle.wire.specs.declared.reading.Answer.{Answer}
use Rattle.wire.specs.declared.reading.Offer.{Offer}
use Rattle.wire.specs.declared.writing.Parts.{Parts}
use Rattle.wire.specs.Bytes.{number_at}
use Rattle.wire.specs.Faults.{Verdict}
use Rattle.wire.specs.Headers.{header_fault}
use Rattle.wire.specs.Messages.{Fields, message, offer, answer, Taken, number_fault, InRange}

-- the number of two bytes
abbrev pub pair_number : List ℕ → ℕ
pair_number pair = number_at pair 0

-- the numbers where they stand
abbrev pub list : Numbers → List ℕ
list v = map pair_number v.pairs.now

abbrev pub offered : Offer → Fields
offered v = offer v.number v.seed (list v.entries)

abbrev pub answered : Answer → Fields
answered v = answer v.number (list v.entries) (list v.hints)

-- what is to be written
abbrev pub stated : Parts → Fields
stated p = message p.number p.seed.now p.entries.now p.hints.now

-- the answer to a message: the first fault of its header, or a view that means its fields
abbrev pub Read : {V : Type 0} → Dimensions → Kind → List ℕ → (V → Fields) → Result V WireFault → Type 0
Read s k m means r = Verdict (header_fault s k m) r (λ v. Taken s k m (means v))

-- the answer to a check: the first number at fault, or every number is in range
abbrev pub Checked : (q g : ℕ) → Fields → Result (Unit {0}) WireFault → Type 0
Checked q g f r = Verdict (number_fault q g f) r (λ _. InRange q g f)
