-- The number that a word of decimal digits writes. Assumes nothing.
use Rattle.std.specs.Prelude.{ℕ, ◌+◌, ◌-◌, ◌*◌, ◌^◌, cond, ◌&&◌, List, [], ◌∷◌, Some, None, Option, nat_le, nat_lt}

-- what follows a value that may be absent
abbrev pub followed : {X Y : Type 0} → Option X → (X → Option Y) → Option Y
followed None next = None
followed (Some x) next = next x

-- '0' (48) to '9' (57)
abbrev pub digit : ℕ → Option ℕ
digit b = cond (nat_le 48 b && nat_le b 57) (Some (b - 48)) None

-- the number that more digits write, after the number so far
abbrev pub read_on : ℕ → List ℕ → Option ℕ
read_on n [] = Some n
read_on n (b ∷ bs) = followed (digit b) (λ d. read_on (n * 10 + d) bs)

-- a number below 2 ^ 32
abbrev pub fitting : ℕ → Option ℕ
fitting n = cond (nat_lt n (2 ^ 32)) (Some n) None

-- one or more digits, of a number below 2 ^ 32
abbrev pub decimal_value : List ℕ → Option ℕ
decimal_value [] = None
decimal_value (b ∷ bs) = followed (read_on 0 (b ∷ bs)) fitting
