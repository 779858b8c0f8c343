-- Matrices in arrays: the front of a padded array, and entries below the modulus. Assumes nothing.
use Rattle.std.proofs.Common.{◌≡◌, ℕ, ◌+◌, ◌-◌, ◌*◌, ◌/◌, ◌%◌, ◌<◌, ◌≤◌, true, List, length, get_or, take, replicate, ℤ, pos, Ok, Result, sym, refl, ◌∙◌, arith, eq-eqb}
use native.Mathlib.Decide.{dec_lt}
use Rattle.std.proofs.lemmas.List.FromFn.{get_or-map-range_with_len, length-map-range_with_len}
use Rattle.std.proofs.lemmas.List.{get_or_append_left, get_or-append_right, get_or_past, get_or-replicate, length-replicate, take_all, take-append-le}
use Rattle.consensus.specs.Residues.{residue_below}
use Rattle.matrix.specs.Matrices.{Matrices}
use Rattle.matrix.specs.declared.fault.SourceFault.{SourceFault}
use Rattle.lwe.specs.Images.{image_reply}
use Rattle.lwe.specs.Matrices.{Matrix, Residues, by_rows, padded, plain, reduced, signed}

-- the elements that an array was made of
pub front : {X : Type 0} (d : X) (n p : ℕ) (xs : List X) → length xs ≡ p → p ≤ n → take p (padded d n xs) ≡ xs
front d n p xs long fits =
    let all : take n xs ≡ xs = take_all n xs (omega arith) in
    let inside : p ≤ length xs = omega arith in
    rw all (take-append-le p xs (replicate (n - length xs) d) inside ∙ take_all p xs (omega arith))

-- reading past the elements gives what the array is padded with
pub get_or_padded : {X : Type 0} (d : X) (n : ℕ) (xs : List X) → length xs ≤ n → (k : ℕ) → get_or (padded d n xs) k d ≡ get_or xs k d
get_or_padded d n xs fits k =
    let all : take n xs ≡ xs = take_all n xs fits in
    rw all
    (elim (dec_lt k (length xs)) [
      | yes h ↦ get_or_append_left xs (replicate (n - length xs) d) d k h
      | no h ↦
          get_or-append_right xs (replicate (n - length xs) d) (length xs) k d refl (omega arith)
          ∙ get_or_same (n - length xs) (k - length xs) d
          ∙ sym (get_or_past xs k d (omega arith))
    ])
  where
    get_or_same : {X : Type 0} (n k : ℕ) (d : X) → get_or (replicate n d) k d ≡ d
    get_or_same n k d = elim (dec_lt k n) [
      | yes h ↦ get_or-replicate n k d d h
      | no h ↦ get_or_past (replicate n d) k d (rw length-replicate (omega arith))
    ]

pub length_by_rows : (m l : ℕ) (a : Residues) → length (by_rows m l a) ≡ m * l
length_by_rows m l a = length-map-range_with_len (λ k. a (k / l) (k % l)) 0 (m * l)

-- remainders are below the modulus
pub by_rows_below : (q m l : ℕ) (a : Matrix) → 0 < q → (k : ℕ) → k < m * l → get_or (by_rows m l (reduced q a)) k 0 < q
by_rows_below q m l a some k h =
    rw (get_or-map-range_with_len (λ k. reduced q a (k / l) (k % l)) 0 (m * l) k k 0 h (omega arith)) (residue_below (a (k / l) (k % l)) q some)

-- the matrix of a padded array is that of its elements
pub signed_padded : (l n : ℕ) (xs : List ℤ) → length xs ≤ n → signed l (padded (pos 0) n xs) ≡ signed l xs
signed_padded l n xs fits = λ t i j. get_or_padded (pos 0) n xs fits (i * l + j) t

pub plain_padded : (l n : ℕ) (xs : List ℕ) → length xs ≤ n → plain l (padded 0 n xs) ≡ plain l xs
plain_padded l n xs fits = λ t i j. pos (get_or_padded 0 n xs fits (i * l + j) t)

-- an image that is not refused
pub imaged_is : (m : Matrices) (seed : List ℕ) (n l : ℕ) (image : Residues) (xs : List ℕ) → m.side ≡ n → m.known seed ≡ true → Ok xs ≡ image_reply m seed n l image → xs ≡ padded 0 8192 (by_rows n l image)
imaged_is m seed n l image xs side known e =
    let fits = eq-eqb m.side n side in
    let p : ◌≡◌ {A = Result (List ℕ) SourceFault} (Ok xs) (Ok (padded 0 8192 (by_rows n l image))) = e ∙ rw (fits, known) in
    cc
