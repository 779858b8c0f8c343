-- Why a message or a buffer is refused: the number, the place and the words; and which fault comes first. Assumes nothing.
use Rattle.std.specs.Prelude.{◌≡◌, ℕ, Bool, cond, List, [], ◌∷◌, Some, None, Ok, Err, codes, Option, Result}
use Rattle.wire.specs.declared.fault.WireFault.{WireFault}
use Rattle.wire.specs.declared.fault.WireFault.TheVariants.{Room, Short, Field, Shape, Entry}

abbrev pub number : WireFault → ℕ
number Room = 4
number (Short size) = 9
number (Field p) = 9
number (Shape p) = 10
number (Entry i) = 13

abbrev pub place : WireFault → ℕ
place Room = 0
place (Short size) = size
place (Field p) = p
place (Shape p) = p
place (Entry i) = i

abbrev pub words : WireFault → List ℕ
words Room = codes "the buffer is shorter than the message"
words (Short size) = codes "the message is shorter than a header"
words (Field p) = codes "a field of the header is wrong"
words (Shape p) = codes "the rows or the columns differ from the sizes"
words (Entry i) = codes "an entry or a hint is out of range"

-- the fault, unless the test holds; then what comes next
abbrev pub unless : Bool → WireFault → Option WireFault → Option WireFault
unless holds fault next = cond holds next (Some fault)

-- the fault of the first test that fails
abbrev pub first_unless : List (Bool × WireFault) → Option WireFault
first_unless [] = None
first_unless ((holds, fault) ∷ rest) = unless holds fault (first_unless rest)

-- the first of two faults
abbrev pub first_of : Option WireFault → Option WireFault → Option WireFault
first_of None next = next
first_of (Some fault) next = Some fault

-- what is answered: the first fault, or exactly where there is none a value of which P holds
abbrev pub Verdict : {T : Type 0} → Option WireFault → Result T WireFault → (T → Type 0) → Type 0
Verdict found (Ok x) P = (found ≡ None) × P x
Verdict found (Err fault) P = found ≡ Some fault
