-- Cutting words off bytes. Assumes nothing.
use Rattle.std.proofs.Common.{Bool, cond, not, unwrap_or, position, one-add, ◌≡◌, ℕ, suc, ◌+◌, ◌-◌, true, false, eqb, List, [], ◌∷◌, ◌++◌, length, take, drop, sym, refl, ap, ◌∙◌, ap₂, inl, inr, append_assoc, append-nil, arith}
use Rattle.std.specs.List.{position_or_len}
use Rattle.std.proofs.lemmas.Bool.Decides.{nat_tests}
use Rattle.std.proofs.lemmas.List.Recursion.{is_position_or_len}
use Rattle.std.proofs.lemmas.List.Sums.{prefix_len-le-length}
use Rattle.std.proofs.lemmas.List.{nil_from_length, take_rest}
use Rattle.std.proofs.lemmas.Bool.{cases_Bool, eqb-true}
use Rattle.text.specs.Words.{place, spaces, before, words_after}

-- the library's search, and the length where it finds nothing
found : (p : ℕ → Bool) (bs : List ℕ) → unwrap_or (position p bs) (length bs) ≡ position_or_len p bs
found p bs = let le = prefix_len-le-length (λ b. not (p b)) bs in grind (arith, nat_tests)

pub place_found : (byte : ℕ) (bs : List ℕ) → unwrap_or (position (λ b. eqb b byte) bs) (length bs) ≡ place byte bs
place_found byte bs =
    found (λ b. eqb b byte) bs
    ∙ sym (is_position_or_len (place byte) (λ b. eqb b byte) refl (λ b bs. ap (cond (eqb b byte) 0) (sym (one-add (place byte bs)))) bs)

pub spaces_found : (bs : List ℕ) → unwrap_or (position (λ b. not (eqb b 32)) bs) (length bs) ≡ spaces bs
spaces_found bs = found (λ b. not (eqb b 32)) bs ∙ sym (is_position_or_len spaces (λ b. not (eqb b 32)) refl step bs)
  where
    step : (b : ℕ) (bs : List ℕ) → spaces (b ∷ bs) ≡ cond (not (eqb b 32)) 0 (1 + spaces bs)
    step b bs = elim (eqb b 32) as (λ v. cond v (suc (spaces bs)) 0 ≡ cond (not v) 0 (1 + spaces bs)) [ true ↦ sym (one-add (spaces bs)) | false ↦ refl ]

-- spaces before the first word do not matter
pub spaces_off : (bs : List ℕ) → words_after [] bs ≡ words_after [] (drop (spaces bs) bs)
spaces_off [] = refl
spaces_off (b ∷ bs) =
    elim (cases_Bool (eqb b 32)) [ inl e ↦ rw e (spaces_off bs) | inr e ↦ rw (e, e) ]

-- a word ends at the next space
pub word_off : (word bs : List ℕ) → words_after word bs ≡ before (word ++ take (place 32 bs) bs) (words_after [] (drop (place 32 bs) bs))
word_off word [] = ap (λ w. before w []) (sym (append-nil word))
word_off word (b ∷ bs) =
    elim (cases_Bool (eqb b 32)) [
      | inl e ↦ rw (e, e) (ap (λ w. before w (words_after [] bs)) (sym (append-nil word)))
      | inr e ↦ rw e (word_off (word ++ b ∷ []) bs ∙ ap (λ w. before w (words_after [] (drop (place 32 bs) bs))) (append_assoc word (b ∷ []) (take (place 32 bs) bs)))
    ]

-- past the spaces a word begins, or the bytes end
pub no_word : (bs : List ℕ) → length (take (place 32 (drop (spaces bs) bs)) (drop (spaces bs) bs)) ≡ 0 → drop (spaces bs) bs ≡ []
no_word [] none = refl
no_word (b ∷ bs) none =
    elim (cases_Bool (eqb b 32)) [
      | inl e ↦ rw e (no_word bs (rw e at none))
      | inr e ↦
          let never : suc (length (take (place 32 bs) bs)) ≡ 0 = rw (e, e) at none in
          rw e (nil_from_length (b ∷ bs) (omega arith))
    ]

-- how bytes are cut: `from` begins with the first word, and `rest` follows it
pub record Cut (bs from word rest : List ℕ) : Type 0 where
  pub begun : from ≡ drop (spaces bs) bs
  pub first : word ≡ take (place 32 from) from
  pub others : rest ≡ drop (place 32 from) from

pub cut_words : (bs from word rest : List ℕ) → Cut bs from word rest → words_after [] bs ≡ before word (words_after [] rest)
cut_words bs from word rest c =
    spaces_off bs ∙ ap (words_after []) (sym c.begun) ∙ word_off [] from
    ∙ ap₂ (λ x y. before x (words_after [] y)) (sym c.first) (sym c.others)

pub cut_some : (bs from word rest : List ℕ) → Cut bs from word rest → eqb (length word) 0 ≡ false → words_after [] bs ≡ word ∷ words_after [] rest
cut_some bs from word rest c e = cut_words bs from word rest c ∙ whole word e
  where
    whole : (w : List ℕ) → eqb (length w) 0 ≡ false → before w (words_after [] rest) ≡ w ∷ words_after [] rest
    whole [] e = cc
    whole (b ∷ bs) e = refl

pub cut_none : (bs from word rest : List ℕ) → Cut bs from word rest → eqb (length word) 0 ≡ true → (words_after [] bs ≡ []) × (words_after [] rest ≡ [])
cut_none bs from word rest c e =
    let empty : length word ≡ 0 = eqb-true (length word) 0 e in
    let past : drop (spaces bs) bs ≡ []
    = no_word bs (ap (λ l. length (take (place 32 l) l)) (sym c.begun) ∙ ap length (sym c.first) ∙ empty) in
    (spaces_off bs ∙ ap (words_after []) past, ap (words_after []) (c.others ∙ ap (λ l. drop (place 32 l) l) (c.begun ∙ past)))

-- the bytes from a place on, as a part of a slice
abbrev pub onward : List ℕ → ℕ → List ℕ
onward bs n = take (length bs - n) (drop n bs)

pub cut_at : (bs : List ℕ) (start end : ℕ) (word rest : List ℕ) → start ≡ spaces bs → end ≡ place 32 (onward bs start)
    → word ≡ take end (onward bs start) → rest ≡ drop end (onward bs start) → Cut bs (onward bs start) word rest
cut_at bs start end word rest s e w r = record {
  begun = take_rest bs start ∙ ap (λ n. drop n bs) s;
  first = w ∙ ap (λ n. take n (onward bs start)) e;
  others = r ∙ ap (λ n. drop n (onward bs start)) e;
}
