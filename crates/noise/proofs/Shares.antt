-- Any list of shares: how many words go to a value, and which place a word's share has. Assumes nothing.
use Rattle.std.proofs.Common.{◌≡◌, ℕ, zero, suc, ◌+◌, ◌-◌, ◌<◌, ◌≤◌, Bool, true, false, cond, leb, List, [], ◌∷◌, ◌++◌, map, get_or, ℤ, pos, sum_by, count_by, sym, refl, ap, ◌∙◌, subst, ap₂, ⊎_elim, not-suc-le-zero, add-zero, suc-add, zero-add, one-add, arith}
use Rattle.std.specs.List.{range_with_len, ContainsAt}
use Rattle.std.proofs.ByRecursion.{has_append_right}
use Rattle.std.proofs.lemmas.List.Sums.{sum_by-cons, sum_by-append}
use Rattle.std.proofs.lemmas.Bool.{lt-ltb, le-ltb, le-leb, lt-leb, cases_lt}
use Rattle.noise.specs.Bounds.{starts}
use Rattle.noise.specs.Laws.{Share, found}
use Rattle.noise.specs.Tables.{same}

-- all words of the shares
abbrev pub total : List Share → ℕ
total shares = sum_by (λ s. s.count) shares

-- what the shares of a value add up to
abbrev pub weight : List Share → ℤ → ℕ
weight shares value = sum_by (λ s. cond (same s.value value) s.count 0) shares

-- ---- sums over the numbers from `first` on

counting_add : (first n m : ℕ) → range_with_len first (n + m) ≡ range_with_len first n ++ range_with_len (first + n) m
counting_add first zero m = ap₂ range_with_len (sym (add-zero first)) (zero-add m)
counting_add first (suc n) m =
    ap (range_with_len first) (suc-add n m)
    ∙ ap (λ l. first ∷ l) (counting_add (first + 1) n m ∙ ap (λ k. range_with_len (first + 1) n ++ range_with_len k m) (omega arith))

sums_agree : (f g : ℕ → ℕ) (first n : ℕ) → ((k : ℕ) → first ≤ k → k < first + n → f k ≡ g k)
    → sum_by f (range_with_len first n) ≡ sum_by g (range_with_len first n)
sums_agree f g first zero e = refl
sums_agree f g first (suc n) e =
    sum_by-cons f first (range_with_len (first + 1) n)
    ∙ ap₂ ◌+◌ (e first (omega arith) (omega arith)) (sums_agree f g (first + 1) n (λ k a b. e k (omega arith) (omega arith)))
    ∙ sym (sum_by-cons g first (range_with_len (first + 1) n))

counted : (b : Bool) (first n : ℕ) → sum_by (λ k. cond b 1 0) (range_with_len first n) ≡ cond b n 0
counted b first zero = elim b as (λ v. ◌≡◌ {A = ℕ} 0 (cond v 0 0)) [ true ↦ refl | false ↦ refl ]
counted b first (suc n) =
    sum_by-cons (λ k. cond b 1 0) first (range_with_len (first + 1) n)
    ∙ ap (λ k. cond b 1 0 + k) (counted b (first + 1) n)
    ∙ elim b as (λ v. cond v 1 0 + cond v n 0 ≡ cond v (suc n) 0) [ true ↦ omega arith | false ↦ refl ]

-- ---- the share that a word falls into

in_first : (s : Share) (shares : List Share) (word : ℕ) → word < s.count → found (s ∷ shares) word ≡ s.value
in_first s shares word h = ap (λ b. cond b s.value (found shares (word - s.count))) (lt-ltb word s.count h)

in_others : (s : Share) (shares : List Share) (word : ℕ) → s.count ≤ word → found (s ∷ shares) word ≡ found shares (word - s.count)
in_others s shares word h = ap (λ b. cond b s.value (found shares (word - s.count))) (le-ltb word s.count h)

module _ (s : Share) (shares : List Share) (value : ℤ) (first : ℕ) where
  meets : ℕ → ℕ
  meets word = cond (same (found (s ∷ shares) (word - first)) value) 1 0

  -- the words of the first share
  first_words : sum_by meets (range_with_len first s.count) ≡ cond (same s.value value) s.count 0
  unfolding meets
  first_words =
      sums_agree meets (λ word. cond (same s.value value) 1 0) first s.count
      (λ word a b. ap (λ v. cond (same v value) 1 0) (in_first s shares (word - first) (omega arith)))
      ∙ counted (same s.value value) first s.count

  -- the words after them
  other_words : sum_by meets (range_with_len (first + s.count) (total shares))
      ≡ count_by (λ word. same (found shares (word - (first + s.count))) value) (range_with_len (first + s.count) (total shares))
  unfolding meets
  other_words =
      sums_agree meets (λ word. cond (same (found shares (word - (first + s.count))) value) 1 0) (first + s.count) (total shares)
      (λ word a b. ap (λ v. cond (same v value) 1 0) (in_others s shares (word - first) (omega arith) ∙ ap (found shares) (omega arith)))

-- where the first share begins at the word `first`, as many words go to a value as its shares say
words_from : (shares : List Share) (value : ℤ) (first : ℕ)
    → count_by (λ word. same (found shares (word - first)) value) (range_with_len first (total shares)) ≡ weight shares value
unfolding meets
words_from [] value first = refl
words_from (s ∷ shares) value first =
    ap (λ n. sum_by (meets s shares value first) (range_with_len first n)) (sum_by-cons (λ s. s.count) s shares)
    ∙ ap (sum_by (meets s shares value first)) (counting_add first s.count (total shares))
    ∙ sum_by-append (meets s shares value first) (range_with_len first s.count) (range_with_len (first + s.count) (total shares))
    ∙ ap₂ ◌+◌ (first_words s shares value first) (other_words s shares value first ∙ words_from shares value (first + s.count))
    ∙ sym (sum_by-cons (λ s. cond (same s.value value) s.count 0) s shares)

pub words_met : (shares : List Share) (value : ℤ)
    → count_by (λ word. same (found shares word) value) (range_with_len 0 (total shares)) ≡ weight shares value
words_met shares value =
    sums_agree (λ word. cond (same (found shares word) value) 1 0) (λ word. cond (same (found shares (word - 0)) value) 1 0) 0 (total shares)
    (λ word a b. ap (λ k. cond (same (found shares k) value) 1 0) (omega arith))
    ∙ words_from shares value 0

-- a word that is dealt to the shares goes to a value of theirs
pub among : (shares : List Share) (word : ℕ) → word < total shares → ContainsAt (map (λ s. s.value) shares) (found shares word)
among [] word h = absurd (not-suc-le-zero h)
among (s ∷ shares) word h =
    let all = sum_by-cons (λ s. s.count) s shares in
    ⊎_elim
    (λ l. subst (ContainsAt (map (λ s. s.value) (s ∷ shares))) (sym (in_first s shares word l)) (0, omega arith, λ d. refl))
    (λ g. subst (ContainsAt (map (λ s. s.value) (s ∷ shares))) (sym (in_others s shares word g))
    (has_append_right (s.value ∷ []) (map (λ s. s.value) shares) (found shares (word - s.count)) (among shares (word - s.count) (omega arith))))
    (cases_lt word s.count)

-- ---- the place of a word's share

-- a word below the shares has reached none of their first words
reached_none : (shares : List Share) (first word : ℕ) → word < first → count_by (λ b. leb b word) (starts first shares) ≡ 0
reached_none [] first word h = refl
reached_none (s ∷ shares) first word h =
    sum_by-cons (λ b. cond (leb b word) 1 0) first (starts (first + s.count) shares)
    ∙ ap₂ ◌+◌ (ap (λ b. cond b 1 0) (lt-leb first word h)) (reached_none shares (first + s.count) word (omega arith))

-- the share of a word stands where as many shares after the first have begun
pub place : (s : Share) (shares : List Share) (first word : ℕ) → first ≤ word → word < first + total (s ∷ shares)
    → found (s ∷ shares) (word - first) ≡ get_or (map (λ s. s.value) (s ∷ shares)) (count_by (λ b. leb b word) (starts (first + s.count) shares)) (pos 0)
place s [] first word h l = in_first s [] (word - first) (omega (arith, zero-add s.count))
place s (t ∷ shares) first word h l =
    ⊎_elim
    (λ early.
    in_first s (t ∷ shares) (word - first) (omega arith)
    ∙ ap value_at (sym (reached_none (t ∷ shares) (first + s.count) word early)))
    (λ late.
    in_others s (t ∷ shares) (word - first) (omega arith) ∙ ap (found (t ∷ shares)) (omega arith)
    ∙ place t shares (first + s.count) word late (omega (arith, sum_by-cons (λ s. s.count) s (t ∷ shares)))
    ∙ ap value_at (sym (one_more late)))
    (cases_lt word (first + s.count))
  where
    value_at : ℕ → ℤ
    value_at k = get_or (map (λ s. s.value) (s ∷ t ∷ shares)) k (pos 0)

    one_more : first + s.count ≤ word
        → count_by (λ b. leb b word) (starts (first + s.count) (t ∷ shares)) ≡ suc (count_by (λ b. leb b word) (starts (first + s.count + t.count) shares))
    one_more late =
        sum_by-cons (λ b. cond (leb b word) 1 0) (first + s.count) (starts (first + s.count + t.count) shares)
        ∙ ap (λ b. cond b 1 0 + count_by (λ b. leb b word) (starts (first + s.count + t.count) shares)) (le-leb (first + s.count) word late)
        ∙ one-add (count_by (λ b. leb b word) (starts (first + s.count + t.count) shares))
