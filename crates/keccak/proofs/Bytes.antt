-- Numbers and their bytes, the lowest first. Assumes nothing.
use Rattle.std.proofs.Common.{◌≡◌, ℕ, ◌+◌, ◌*◌, ◌/◌, ◌%◌, ◌<◌, List, [], ◌∷◌, length, get_or, drop, refl, ap, arith}
use native.Mathlib.Nat.{div-div-eq-div-mul}
use Rattle.std.proofs.lemmas.List.{drop_more, drop_all}
use Rattle.std.specs.List.{flat_map}
use Rattle.keccak.specs.Sponge.{from_bytes, to_bytes}

from_bytes_more : (i j : ℕ) (xs : List ℕ) → i + 1 ≡ j → i < length xs → from_bytes (drop i xs) ≡ get_or xs i 0 + 256 * from_bytes (drop j xs)
from_bytes_more i j xs e h = rw (drop_more xs i 0 h, e)

-- eight bytes, as `from_le_bytes` adds them up
pub from_bytes_is : (xs : List ℕ) → length xs ≡ 8 → from_bytes xs
    ≡ get_or xs 0 0 + get_or xs 1 0 * 256 + get_or xs 2 0 * 65536 + get_or xs 3 0 * 16777216 + get_or xs 4 0 * 4294967296
    + get_or xs 5 0 * 1099511627776 + get_or xs 6 0 * 281474976710656 + get_or xs 7 0 * 72057594037927936
from_bytes_is xs h =
    let e0 = from_bytes_more 0 1 xs refl (omega arith) in
    let e1 = from_bytes_more 1 2 xs refl (omega arith) in
    let e2 = from_bytes_more 2 3 xs refl (omega arith) in
    let e3 = from_bytes_more 3 4 xs refl (omega arith) in
    let e4 = from_bytes_more 4 5 xs refl (omega arith) in
    let e5 = from_bytes_more 5 6 xs refl (omega arith) in
    let e6 = from_bytes_more 6 7 xs refl (omega arith) in
    let e7 = from_bytes_more 7 8 xs refl (omega arith) in
    let e8 = ap from_bytes (drop_all 8 xs (omega arith)) in
    omega arith

-- the bytes of a number of 64 bits, as `to_le_bytes` gives them
pub to_bytes_is : (w : ℕ) → w % 256 ∷ w / 256 % 256 ∷ w / 65536 % 256 ∷ w / 16777216 % 256 ∷ w / 4294967296 % 256
    ∷ w / 1099511627776 % 256 ∷ w / 281474976710656 % 256 ∷ w / 72057594037927936 % 256 ∷ [] ≡ to_bytes 8 w
to_bytes_is w = simp div-div-eq-div-mul

pub length_bytes : (s : List ℕ) → length (flat_map (to_bytes 8) s) ≡ 8 * length s
length_bytes [] = refl
length_bytes (lane ∷ s) = omega (arith, length_bytes s)
