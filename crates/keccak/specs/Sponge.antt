-- SHAKE128 of FIPS 202 on bytes: the sponge over the permutation, with a rate of 1344 bits and a capacity of 256.
-- Bit i of a string is bit i % 8 of its byte i / 8, so a lane is eight bytes, the lowest first. Assumes nothing.
use Rattle.std.specs.Prelude.{ℕ, zero, suc, ◌+◌, ◌-◌, ◌*◌, ◌/◌, ◌%◌, cond, List, [], ◌∷◌, ◌++◌, map, length, take, drop, replicate, nat_lt, slice_index}
use Rattle.std.specs.List.{range_with_len, flat_map}
use Rattle.keccak.specs.Permutation.{◌⊕◌, permute}

-- in bytes
abbrev pub rate : ℕ
rate = 168

-- the number that bytes stand for, the lowest first
abbrev pub from_bytes : List ℕ → ℕ
from_bytes [] = 0
from_bytes (b ∷ bs) = b + 256 * from_bytes bs

-- the n lowest bytes of a number, the lowest first
abbrev pub to_bytes : (n w : ℕ) → List ℕ
to_bytes zero w = []
to_bytes (suc n) w = w % 256 ∷ to_bytes n (w / 256)

-- ---- padding

-- what fills the last n bytes of the last block: the bits 1111 that mark SHAKE, then 1, zeros and 1, each byte from its lowest
-- bit on
abbrev pub padding : (n : ℕ) → List ℕ
padding zero = []
padding (suc zero) = 0x9f ∷ []
padding (suc (suc n)) = 0x1f ∷ (replicate n 0 ++ 0x80 ∷ [])

-- the message and its padding: a whole number of blocks, and always a byte of padding
unfoldable pub pad : List ℕ → List ℕ
pad m = m ++ padding (rate - length m % rate)

-- ---- absorbing

abbrev pub nth_block : List ℕ → (i : ℕ) → List ℕ
nth_block p i = take rate (drop (rate * i) p)

abbrev pub block_lane : List ℕ → (k : ℕ) → ℕ
block_lane b k = from_bytes (take 8 (drop (8 * k) b))

-- a block is XORed into the first 21 lanes, and the lanes of the capacity stay
unfoldable pub xor_block : List ℕ → List ℕ → List ℕ
xor_block s b = map (λ k. cond (nat_lt k 21) (slice_index s k ⊕ block_lane b k) (slice_index s k)) (range_with_len 0 25)

-- the state after blocks 0 to n - 1 of a padded message
unfoldable pub absorb_blocks : List ℕ → (n : ℕ) → List ℕ
absorb_blocks p zero = replicate 25 0
absorb_blocks p (suc n) = permute (xor_block (absorb_blocks p n) (nth_block p n))

unfoldable pub absorb : List ℕ → List ℕ
absorb m = absorb_blocks (pad m) (length (pad m) / rate)

-- ---- squeezing

-- the bytes of the first 21 lanes
unfoldable pub output_block : List ℕ → List ℕ
output_block s = flat_map (to_bytes 8) (take 21 s)

-- n blocks of output, with a permutation between each two
unfoldable pub squeeze : (n : ℕ) → List ℕ → List ℕ
squeeze zero s = []
squeeze (suc n) s = output_block s ++ squeeze n (permute s)

-- the first d bytes, of as many blocks as they take
unfoldable pub shake128 : List ℕ → (d : ℕ) → List ℕ
shake128 m d = take d (squeeze ((d + (rate - 1)) / rate) (absorb m))
