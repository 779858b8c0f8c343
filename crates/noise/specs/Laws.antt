-- The noise laws: how many words go to each value. Assumes nothing.
use Rattle.std.specs.Prelude.{ℕ, ◌+◌, ◌-◌, cond, List, [], ◌∷◌, ℤ, pos, neg_ℤ, nat_lt, slice_index_or}

-- so many words go to the value
pub record Share : Type 0 where
  pub value : ℤ
  pub count : ℕ

abbrev pub share : ℤ → ℕ → Share
share value count = record { value = value; count = count }

-- both signs of the sizes from `size` on, the plus first
abbrev pub both_signs : ℕ → List ℕ → List Share
both_signs size [] = []
both_signs size (count ∷ counts) = share (pos size) count ∷ share (neg_ℤ (pos size)) count ∷ both_signs (size + 1) counts

-- the shares of 0, +1, −1, +2, −2 and so on, from the counts by size
abbrev pub spread : List ℕ → List Share
spread [] = []
spread (count ∷ counts) = share (pos 0) count ∷ both_signs 1 counts

-- words of `width` bits; the words from 0 on go to the first share, the next ones to the second, and so on
pub record Law : Type 0 where
  pub width : ℕ
  pub shares : List Share

abbrev pub of_width : ℕ → List Share → Law
of_width width shares = record { width = width; shares = shares }

unfoldable pub laws : List Law
laws =
    of_width 1 (share (pos 0) 1 ∷ share (pos 1) 1 ∷ [])
    ∷ of_width 8 (spread (94 ∷ 62 ∷ 17 ∷ 2 ∷ []))
    ∷ of_width 12 (spread (1646 ∷ 992 ∷ 216 ∷ 17 ∷ []))
    ∷ of_width 12 (spread (1238 ∷ 929 ∷ 393 ∷ 94 ∷ 12 ∷ 1 ∷ []))
    ∷ of_width 16 (spread (19794 ∷ 14865 ∷ 6292 ∷ 1499 ∷ 200 ∷ 15 ∷ []))
    ∷ of_width 16 (spread (22218 ∷ 15490 ∷ 5242 ∷ 858 ∷ 67 ∷ 2 ∷ []))
    ∷ []

-- the law with a number from 0 to 5
abbrev pub law_of : ℕ → Law
law_of number = slice_index_or laws number (of_width 0 [])

abbrev pub width_of : ℕ → ℕ
width_of number = (law_of number).width

-- the value of the share that a word falls into
abbrev pub found : List Share → ℕ → ℤ
found [] word = pos 0
found (s ∷ shares) word = cond (nat_lt word s.count) s.value (found shares (word - s.count))

-- the value that a law sends a word below 2 ^ width to
abbrev pub value_of : ℕ → ℕ → ℤ
value_of number word = found (law_of number).shares word
