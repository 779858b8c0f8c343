-- Bytes written as hex. Assumes nothing.
use Rattle.std.specs.Prelude.{ℕ, ◌+◌, ◌-◌, ◌*◌, ◌/◌, ◌%◌, cond, ◌&&◌, List, [], ◌∷◌, length, Some, None, Option, ◌==◌, nat_le, nat_lt}
use Rattle.text.specs.Numbers.{followed}

-- '0' (48) to '9' (57), 'a' (97) to 'f' (102) and 'A' (65) to 'F' (70)
abbrev pub hex_digit : ℕ → Option ℕ
hex_digit b =
    cond (nat_le 48 b && nat_le b 57) (Some (b - 48))
    (cond (nat_le 97 b && nat_le b 102) (Some (b - 97 + 10)) (cond (nat_le 65 b && nat_le b 70) (Some (b - 65 + 10)) None))

-- the byte that two digits write
abbrev pub byte_of : ℕ → ℕ → Option ℕ
byte_of high low = followed (hex_digit high) (λ h. followed (hex_digit low) (λ l. Some (h * 16 + l)))

-- the bytes that a word writes, if it is made of pairs of digits
abbrev pub bytes_of : List ℕ → Option (List ℕ)
bytes_of [] = Some []
bytes_of (high ∷ []) = None
bytes_of (high ∷ low ∷ word) = followed (byte_of high low) (λ byte. followed (bytes_of word) (λ bytes. Some (byte ∷ bytes)))

-- the same of a word that writes n bytes alone
abbrev pub sized_bytes : ℕ → List ℕ → Option (List ℕ)
sized_bytes n word = cond (length word == 2 * n) (bytes_of word) None

-- the same of a word of 64 digits alone
abbrev pub seed_of : List ℕ → Option (List ℕ)
seed_of word = cond (length word == 64) (bytes_of word) None

-- a digit as it is written
abbrev pub letter : ℕ → ℕ
letter digit = cond (nat_lt digit 10) (48 + digit) (97 + digit - 10)

abbrev pub hex_of : List ℕ → List ℕ
hex_of [] = []
hex_of (byte ∷ bytes) = letter (byte / 16) ∷ letter (byte % 16) ∷ hex_of bytes
