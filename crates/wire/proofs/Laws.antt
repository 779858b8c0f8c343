-- Laws of numbers in two bytes each. Assumes nothing.
use Rattle.std.proofs.Common.{◌≡◌, ℕ, zero, suc, ◌+◌, ◌-◌, ◌*◌, ◌/◌, ◌%◌, ◌<◌, ◌≤◌, List, [], ◌∷◌, ◌++◌, length, get_or, take, drop, map, sym, refl, ap, ◌∙◌, arith}
use lib.Seq.{paste}
use Rattle.std.proofs.lemmas.List.Edits.{paste-paste}
use Rattle.std.proofs.lemmas.List.{drop_more, take_more, length-take-le}
use Rattle.std.specs.Simd.{first_chunks}
use Rattle.wire.specs.Views.{pair_number}
use Rattle.wire.specs.Bytes.{bytes_of, numbers_of}

abbrev pub Bytes : List ℕ → Type 0
Bytes m = (i : ℕ) → get_or m i 0 < 256

pub numbers_bytes : (xs : List ℕ) → numbers_of (bytes_of xs) ≡ xs
numbers_bytes [] = refl
numbers_bytes (x ∷ xs) = let e : x / 256 * 256 + x % 256 ≡ x = omega arith in cc (numbers_bytes xs)

pub bytes_numbers : (bs : List ℕ) (k : ℕ) → length bs ≡ 2 * k → Bytes bs → bytes_of (numbers_of bs) ≡ bs
bytes_numbers [] k e b = refl
bytes_numbers (x ∷ []) k e b = absurd (omega arith)
bytes_numbers (x ∷ y ∷ bs) k e b =
    let low : y < 256 = b 1 in
    let high : (x * 256 + y) / 256 ≡ x = omega arith in
    let rest : (x * 256 + y) % 256 ≡ y = omega arith in
    cc (bytes_numbers bs (k - 1) (omega arith) (λ i. b (suc (suc i))))

pub length_bytes : (xs : List ℕ) → length (bytes_of xs) ≡ 2 * length xs
length_bytes [] = refl
length_bytes (x ∷ xs) = omega (arith, length_bytes xs)

pub length_numbers : (bs : List ℕ) → length (numbers_of bs) ≡ length bs / 2
length_numbers [] = refl
length_numbers (x ∷ []) = refl
length_numbers (x ∷ y ∷ bs) = omega (arith, length_numbers bs)

pub pairs_numbers : (k : ℕ) (bs : List ℕ) → k ≡ length bs / 2 → map pair_number (first_chunks 2 k bs) ≡ numbers_of bs
pairs_numbers zero [] e = refl
pairs_numbers (suc k) [] e = absurd (omega arith)
pairs_numbers zero (x ∷ []) e = refl
pairs_numbers (suc k) (x ∷ []) e = absurd (omega arith)
pairs_numbers zero (x ∷ y ∷ bs) e = absurd (omega arith)
pairs_numbers (suc k) (x ∷ y ∷ bs) e = ap (λ t. (x * 256 + y) ∷ t) (pairs_numbers k bs (omega arith))

pub bytes_append : (xs ys : List ℕ) → bytes_of (xs ++ ys) ≡ bytes_of xs ++ bytes_of ys
bytes_append [] ys = refl
bytes_append (x ∷ xs) ys = ap (λ t. x / 256 ∷ x % 256 ∷ t) (bytes_append xs ys)

-- the bytes from i on begin with the number at i
pub drop_two : (m : List ℕ) (i : ℕ) → i + 2 ≤ length m → drop i m ≡ get_or m i 0 ∷ get_or m (i + 1) 0 ∷ drop (i + 2) m
drop_two m i h =
    let e : i + 1 + 1 ≡ i + 2 = omega arith in
    drop_more m i 0 (omega arith) ∙ ap (λ t. get_or m i 0 ∷ t) (drop_more m (i + 1) 0 (omega arith) ∙ ap (λ j. get_or m (i + 1) 0 ∷ drop j m) e)

two_more : (k : ℕ) → 2 * suc k ≡ suc (suc (2 * k))
two_more k = omega arith

pub take_numbers : (k : ℕ) (bs : List ℕ) → numbers_of (take (2 * k) bs) ≡ take k (numbers_of bs)
take_numbers zero bs = refl
take_numbers (suc k) [] = ap (λ j. numbers_of (take j [])) (two_more k)
take_numbers (suc k) (x ∷ []) = ap (λ j. numbers_of (take j (x ∷ []))) (two_more k)
take_numbers (suc k) (x ∷ y ∷ bs) = ap (λ j. numbers_of (take j (x ∷ y ∷ bs))) (two_more k) ∙ ap (λ t. (x * 256 + y) ∷ t) (take_numbers k bs)

pub drop_numbers : (k : ℕ) (bs : List ℕ) → numbers_of (drop (2 * k) bs) ≡ drop k (numbers_of bs)
drop_numbers zero bs = refl
drop_numbers (suc k) [] = ap (λ j. numbers_of (drop j [])) (two_more k)
drop_numbers (suc k) (x ∷ []) = ap (λ j. numbers_of (drop j (x ∷ []))) (two_more k)
drop_numbers (suc k) (x ∷ y ∷ bs) = ap (λ j. numbers_of (drop j (x ∷ y ∷ bs))) (two_more k) ∙ drop_numbers k bs

-- one turn of the loop that writes the numbers xs into d
pub put_number : (d : List ℕ) (p : ℕ) (xs : List ℕ) (i : ℕ) (out pair : List ℕ) → p + 2 * length xs ≤ length d → i < length xs
    → out ≡ paste d p (bytes_of (take i xs)) (2 * i) → pair ≡ bytes_of (get_or xs i 0 ∷ [])
    → paste out (p + 2 * i) pair (length pair) ≡ paste d p (bytes_of (take (i + 1) xs)) (2 * (i + 1))
put_number d p xs i out pair fits inside was is =
    let before = take i xs in
    let long : 2 * i ≡ length (bytes_of before) = omega (arith, length_bytes before, length-take-le i xs (omega arith)) in
    let two : length pair ≡ 2 = ap length is in
    let more : bytes_of before ++ pair ≡ bytes_of (take (i + 1) xs) =
    ap (λ t. bytes_of before ++ t) is ∙ sym (bytes_append before (get_or xs i 0 ∷ [])) ∙ ap bytes_of (sym (take_more xs i 0 inside)) in
    let count : 2 * i + length pair ≡ 2 * (i + 1) = omega arith in
    (λ j. paste (was j) (p + 2 * i) pair (length pair))
    ∙ paste-paste d p (bytes_of before) pair (2 * i) (length pair) long refl (omega arith)
    ∙ (λ j. paste d p (more j) (count j))
