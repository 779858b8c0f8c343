-- Places of a list that holds rows of equal length, and a list of which one part was written. Assumes nothing.
use Rattle.std.proofs.Common.{◌≡◌, ℕ, ◌+◌, ◌-◌, ◌*◌, ◌/◌, ◌%◌, ◌<◌, ◌≤◌, List, ◌++◌, length, get_or, map, take, drop, replicate, pos, sym, ap, ◌∙◌, subst, take-append-drop, mul-le-mul_right, add-mul, mul-le-mul_left, arith, length-drop, length-take, below_more}
use Rattle.std.proofs.Math.ListN.{get_or-map}
use Rattle.std.proofs.lemmas.Int.{ints}
use native.Mathlib.Decide.{dec_lt}
use borrow.Rule.Slice.PartMut.{put_mid, post_of, same_len_mid}
use Rattle.std.proofs.lemmas.Nat.{div_below, mod_below, mul-add-lt, mul-le}
use Rattle.std.specs.List.{between}
use Rattle.std.proofs.lemmas.List.Edits.{length-between, get_or-between}
use Rattle.std.proofs.lemmas.List.FromFn.{fill_by_all, get_or-map-range_with_len, length-map-range_with_len}
use Rattle.std.proofs.lemmas.List.{drop-replicate, get_or_append_left, get_or-append_right, get_or-drop, get_or_past, get_or-replicate, get_or-take, length-replicate, take_all}
use Rattle.lwe.specs.Matrices.{Matrix, Residues, by_rows, padded, plain, plus, signed}

-- row j of n rows, each of l places, ends within them
pub row_ends : (j n l : ℕ) → j < n → j * l + l ≤ n * l
row_ends j n l h = omega (arith, mul-le-mul_right l h)

-- a place of a matrix with at most 1024 rows and 8 columns lies in an array of 8192
pub within_array : (k l i : ℕ) → k < 1024 → l ≤ 8 → i < l → k * l + i < 8192
within_array k l i hk hl hi = omega (arith, mul-add-lt k l i 1024 hk hi, mul-le l 1024 8 1024 hl (omega arith))

-- eight columns of at most 1024 places lie in an array of 8192
pub row_within : (c n : ℕ) → c < 8 → n ≤ 1024 → c * n + n ≤ 8192
row_within c n hc hn = omega (arith, row_ends c 8 n hc, mul-le-mul_left 8 hn)

pub get_or_same : {X : Type 0} (n k : ℕ) (d : X) → get_or (replicate n d) k d ≡ d
get_or_same n k d = elim (dec_lt k n) [
  | yes h ↦ get_or-replicate n k d d h
  | no h ↦ get_or_past (replicate n d) k d (rw length-replicate (omega arith))
]

-- a list of numbers from 0 up, as one of signed numbers
pub plain_signed : (l : ℕ) (xs : List ℕ) → signed l (map pos xs) ≡ plain l xs
plain_signed l xs = λ t i j. get_or-map pos xs (i * l + j) 0 t

-- noise of zeros changes nothing
pub no_noise : (n l : ℕ) (a : Matrix) → plus a (signed l (replicate n (pos 0))) ≡ a
no_noise n l a = λ t i j. still i j t
  where
    still : (i j : ℕ) → plus a (signed l (replicate n (pos 0))) i j ≡ a i j
    still i j = rw (get_or_same n (i * l + j) (pos 0)) (omega (arith, ints))

-- matrices that agree lie in equal lists
pub by_rows_same : (m l : ℕ) (a b : Residues) → 0 < l → ((i : ℕ) → i < m → (j : ℕ) → j < l → a i j ≡ b i j) → by_rows m l a ≡ by_rows m l b
by_rows_same m l a b some e =
    fill_by_all (λ k. b (k / l) (k % l)) (by_rows m l a) (m * l) 0 (length-map-range_with_len (λ k. a (k / l) (k % l)) 0 (m * l))
    (λ k h. get_or-map-range_with_len (λ k. a (k / l) (k % l)) 0 (m * l) k k 0 h (omega arith) ∙ e (k / l) (div_below k l m some h) (k % l) (mod_below k l some))

-- ---- a list that is filled from its front on, and 0 behind

pub record Filled (size count : ℕ) (f : ℕ → ℕ) (xs : List ℕ) : Type 0 where
  pub long : length xs ≡ size
  pub below : (k : ℕ) → k < count → get_or xs k 0 ≡ f k
  pub above : (k : ℕ) → count ≤ k → get_or xs k 0 ≡ 0

pub filled_none : (f : ℕ → ℕ) (size : ℕ) → Filled size 0 f (replicate size 0)
filled_none f size = record { long = length-replicate size 0; below = λ k h. absurd (omega arith); above = λ k h. get_or_same size k 0 }

-- a whole matrix, at the front of an array of zeros
pub front_all : (size m l : ℕ) (a : Residues) (ys : List ℕ) → m * l ≤ size → length ys ≡ m * l → ((k : ℕ) → k < m * l → get_or ys k 0 ≡ a (k / l) (k % l))
    → ys ++ drop (m * l) (replicate {A = ℕ} size 0) ≡ padded 0 size (by_rows m l a)
front_all size m l a ys fits long at = λ i. front i ++ rest i where
  rows_length : length (by_rows m l a) ≡ m * l
  rows_length = length-map-range_with_len (λ k. a (k / l) (k % l)) 0 (m * l)

  front : ys ≡ take size (by_rows m l a)
  front = fill_by_all (λ k. a (k / l) (k % l)) ys (m * l) 0 long at ∙ sym (take_all size (by_rows m l a) (omega (arith, rows_length)))

  rest : drop (m * l) (replicate {A = ℕ} size 0) ≡ replicate (size - length (by_rows m l a)) 0
  rest = drop-replicate (m * l) size 0 ∙ ap (λ j. replicate j 0) (omega (arith, rows_length))

-- the same for a list that is filled from its front on
pub filled_all : (size count m l : ℕ) (a : Residues) (xs : List ℕ) → count ≡ m * l → m * l ≤ size → Filled size count (λ k. a (k / l) (k % l)) xs → xs ≡ padded 0 size (by_rows m l a)
filled_all size count m l a xs whole fits filled =
    sym (take-append-drop (m * l) xs)
    ∙ ap (λ ys. take (m * l) xs ++ ys) rest
    ∙ front_all size m l a (take (m * l) xs) fits (length-take (m * l) xs ∙ omega (arith, filled.long)) (λ k h. get_or-take (m * l) xs k 0 h ∙ filled.below k (omega arith))
  where
    rest : drop (m * l) xs ≡ drop (m * l) (replicate {A = ℕ} size 0)
    rest =
        fill_by_all (λ k. 0) (drop (m * l) xs) (size - m * l) 0 (rw length-drop (omega (arith, filled.long))) (λ k h. get_or-drop (m * l) xs k 0 ∙ filled.above (m * l + k) (omega arith))
        ∙ sym (fill_by_all (λ k. 0) (drop (m * l) (replicate {A = ℕ} size 0)) (size - m * l) 0 (rw (length-drop, length-replicate) (omega arith)) (λ k h. get_or-drop (m * l) (replicate {A = ℕ} size 0) k 0 ∙ get_or_same size (m * l + k) 0))

-- ---- a list of which one part was written

-- the list xs after its k places from a on became ys
module _ {X : Type 0} (a k : ℕ) (xs ys : List X) (d : X) (fits : a + k ≤ length xs) (long : length ys ≡ k) where
  front : length (take a xs) ≡ a
  front = simp length-take (omega arith)

  pub put_length : length (put_mid a k xs ys) ≡ length xs
  put_length = same_len_mid a k xs ys (long ∙ sym (length-take k (drop a xs) ∙ rw length-drop (omega arith)))

  pub put_below : (i : ℕ) → i < a → get_or (put_mid a k xs ys) i d ≡ get_or xs i d
  put_below i h = get_or_append_left (take a xs) (ys ++ post_of a k xs) d i (omega (arith, front)) ∙ get_or-take a xs i d h

  pub put_inside : (m : ℕ) → m < k → get_or (put_mid a k xs ys) (a + m) d ≡ get_or ys m d
  put_inside m h =
      get_or-append_right (take a xs) (ys ++ post_of a k xs) a (a + m) d front (omega arith)
      ∙ ap (λ i. get_or (ys ++ post_of a k xs) i d) (omega arith)
      ∙ get_or_append_left ys (post_of a k xs) d m (omega arith)

  pub put_above : (i : ℕ) → a + k ≤ i → get_or (put_mid a k xs ys) i d ≡ get_or xs i d
  put_above i h =
      get_or-append_right (take a xs) (ys ++ post_of a k xs) a i d front (omega arith)
      ∙ get_or-append_right ys (post_of a k xs) k (i - a) d long (omega arith)
      ∙ get_or-drop k (drop a xs) (i - a - k) d
      ∙ get_or-drop a xs (k + (i - a - k)) d
      ∙ ap (λ i. get_or xs i d) (omega arith)

-- what holds of each element holds of each of a part
pub between_each : {X : Type 0} (P : X → Type 0) (a e : ℕ) (xs : List X) (d : X) → e ≤ length xs → P d → ((i : ℕ) → P (get_or xs (a + i) d)) → (i : ℕ) → P (get_or (between a e xs) i d)
between_each P a e xs d fits zero at i = elim (dec_lt (a + i) e) [
  | yes h ↦ subst P (sym (get_or-between xs a e i d h)) (at i)
  | no h ↦ subst P (sym (get_or_past (between a e xs) i d (omega (arith, length-between xs a e fits)))) zero
]

-- what holds of each element of both holds of each element of the list that they make
pub put_each : {X : Type 0} (P : X → Type 0) (a k : ℕ) (xs ys : List X) (d : X) → a + k ≤ length xs → length ys ≡ k
    → ((i : ℕ) → P (get_or xs i d)) → ((i : ℕ) → P (get_or ys i d)) → (i : ℕ) → P (get_or (put_mid a k xs ys) i d)
put_each P a k xs ys d fits long here there i = elim (dec_lt i a) [
  | yes h ↦ subst P (sym (put_below a k xs ys d fits long i h)) (here i)
  | no h ↦ elim (dec_lt i (a + k)) [
    | yes m ↦
        let at : a + (i - a) ≡ i = omega arith in
        subst (λ j. P (get_or (put_mid a k xs ys) j d)) at (subst P (sym (put_inside a k xs ys d fits long (i - a) (omega arith))) (there (i - a)))
    | no m ↦ subst P (sym (put_above a k xs ys d fits long i (omega arith))) (here i)
  ]
]

-- the step of a loop that writes rows of l places one after another: the rows above i are those of f, and now row i is too
pub row_put : {X : Type 0} (d : X) (l i : ℕ) (xs ys : List X) (f : ℕ → ℕ → X) → i * l + l ≤ length xs → length ys ≡ i * l + l - i * l
    → ((j : ℕ) → j < i → (k : ℕ) → k < l → get_or xs (j * l + k) d ≡ f j k) → ((k : ℕ) → k < l → get_or ys k d ≡ f i k)
    → (j : ℕ) → j < i + 1 → (k : ℕ) → k < l → get_or (put_mid (i * l) (i * l + l - i * l) xs ys) (j * l + k) d ≡ f j k
row_put d l i xs ys f fits long above here =
    let a = i * l in
    below_more _ _
    (λ j h k m. put_below a (a + l - a) xs ys d (omega arith) long (j * l + k) (omega (arith, row_ends j i l h)) ∙ above j h k m)
    (λ k m. put_inside a (a + l - a) xs ys d (omega arith) long k (omega arith) ∙ here k m)

-- the same for a list that is filled from its front on
pub filled_row : (size l i : ℕ) (f : ℕ → ℕ) (xs ys : List ℕ) → i * l + l ≤ size → length ys ≡ i * l + l - i * l
    → Filled size (i * l) f xs → ((k : ℕ) → k < l → get_or ys k 0 ≡ f (i * l + k)) → Filled size ((i + 1) * l) f (put_mid (i * l) (i * l + l - i * l) xs ys)
filled_row size l i f xs ys fits long filled here =
    let a = i * l in
    let within : a + (a + l - a) ≤ length xs = omega (arith, filled.long) in
    record {
      long = put_length a (a + l - a) xs ys 0 within long ∙ filled.long;
      below = λ k h. elim (dec_lt k a) [
        | yes m ↦ put_below a (a + l - a) xs ys 0 within long k m ∙ filled.below k m
        | no m ↦
            let at : a + (k - a) ≡ k = omega arith in
            rw at at (put_inside a (a + l - a) xs ys 0 within long (k - a) (omega (arith, add-mul i 1 l)) ∙ here (k - a) (omega (arith, add-mul i 1 l)))
      ];
      above = λ k h. put_above a (a + l - a) xs ys 0 within long k (omega (arith, add-mul i 1 l)) ∙ filled.above k (omega (arith, add-mul i 1 l));
    }
