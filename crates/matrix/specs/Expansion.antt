-- The matrices that seeds are expanded to. Assumes nothing.
use Rattle.std.specs.Prelude.{ℕ, zero, suc, ◌+◌, ◌*◌, ◌/◌, ◌%◌, ◌^◌, Bool, true, false, cond, ◌&&◌, ◌||◌, List, ◌∷◌, map, Ok, Err, Result, ◌==◌, nat_le, slice_index}
use Rattle.std.specs.List.{range_with_len}
use Rattle.keccak.specs.Sponge.{shake128}
use Rattle.matrix.specs.Matrices.{Matrices}
use Rattle.matrix.specs.declared.fault.SourceFault.{SourceFault}
use Rattle.matrix.specs.declared.fault.SourceFault.TheVariants.{Shape}

-- what row i of a seed is expanded from: i in two bytes, low byte first, and then the seed
abbrev pub row_message : List ℕ → ℕ → List ℕ
row_message seed i = i % 256 ∷ (i / 256 ∷ seed)

-- its bytes, two for each of n entries
unfoldable pub row_bytes : ℕ → List ℕ → ℕ → List ℕ
row_bytes n seed i = shake128 (row_message seed i) (2 * n)

-- entry j of a row's bytes: bytes 2 * j and 2 * j + 1, low byte first, modulo q
unfoldable pub entry_at : ℕ → List ℕ → ℕ → ℕ
entry_at q bytes j = (slice_index bytes (2 * j) + 256 * slice_index bytes (2 * j + 1)) % q

-- every seed has a matrix of n rows of n entries below q
abbrev pub expansion : (n q : ℕ) → Matrices
expansion n q = record {
  side = n;
  modulus = q;
  known = λ _. true;
  entry = λ seed i j. entry_at q (row_bytes n seed i) j;
}

-- q is one of 2, 4, .., 2 ^ most
abbrev pub power_of_two : (most q : ℕ) → Bool
power_of_two zero q = false
power_of_two (suc k) q = q == 2 ^ suc k || power_of_two k q

abbrev pub fits_expansion : (n q : ℕ) → Bool
fits_expansion n q = nat_le 1 n && nat_le n 1024 && power_of_two 15 q

abbrev pub expansion_built : (n q : ℕ) → Result Matrices SourceFault
expansion_built n q = cond (fits_expansion n q) (Ok (expansion n q)) (Err Shape)

-- the n entries of row i of a seed
abbrev pub row_entries : (n q : ℕ) (seed : List ℕ) (i : ℕ) → List ℕ
row_entries n q seed i = map (entry_at q (row_bytes n seed i)) (range_with_len 0 n)
