-- What comes of a call that may refuse. Assumes nothing.
use Rattle.std.specs.Prelude.{ℕ, List, Ok, Err, Result}
use Rattle.refusal.specs.Printed.{printed}

-- what follows where it is granted
abbrev pub granted : {X Y F : Type 0} → Result X F → (X → Result Y F) → Result Y F
granted (Ok x) next = next x
granted (Err fault) next = Err fault

-- what is printed of a refusal with a number
abbrev pub refusal_text : ℕ → List ℕ
refusal_text number = printed number
