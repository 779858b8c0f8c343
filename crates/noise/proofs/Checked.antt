-- One test of a law, which all laws of the table pass, and what follows from it. Assumes nothing.
use Rattle.std.proofs.Common.{◌≡◌, ℕ, suc, ◌+◌, ◌*◌, ◌%◌, ◌^◌, ◌<◌, ◌≤◌, Bool, true, ◌&&◌, eqb, leb, List, [], ◌∷◌, map, length, get_or, ℤ, pos, negsuc, Ok, Err, count_by, sym, refl, ap, ◌∙◌, subst, not-suc-le-zero, mod-eq_of_lt, one-mul, zero-add, arith, pow_mono, lit≤}
use Rattle.std.specs.List.{range_with_len, AllByRecursion}
use Rattle.std.proofs.lemmas.List.FromFn.{get_or-range_with_len, length-range_with_len}
use Rattle.std.proofs.ByRecursion.{All-get_or, All-weaker}
use Rattle.std.proofs.lemmas.List.Sums.{count_by-le-length}
use Rattle.std.proofs.lemmas.Bool.{and_parts, eqb-true, leb-true, cond_above, cond_below}
use Rattle.std.proofs.lemmas.Nat.{pow_below}
use Rattle.noise.specs.Bounds.{starts, bounds, bounds_of, index_of, value_at}
use Rattle.noise.specs.Laws.{Share, Law, of_width, laws, law_of, width_of, value_of, found}
use Rattle.noise.specs.Replies.{number_of, value_reply}
use Rattle.noise.specs.Tables.{same, words_to, Holds}
use Rattle.noise.specs.declared.fault.NoiseFault.TheVariants.{Word}
use Rattle.noise.specs.declared.law.NoiseLaw.{NoiseLaw}
use Rattle.noise.specs.declared.law.NoiseLaw.TheVariants.{Zero, One, Two, Three, Four, Five}
use Rattle.noise.proofs.Shares.{total, weight, words_met, among, place}

every : {X : Type 0} → (X → Bool) → List X → Bool
every test [] = true
every test (x ∷ xs) = test x && every test xs

all_every : {X : Type 0} (test : X → Bool) (xs : List X) → every test xs ≡ true → AllByRecursion (λ x. test x ≡ true) xs
unfolding every
all_every test [] e = tt
all_every test (x ∷ xs) e = let p = and_parts (test x) (every test xs) e in (p.0, all_every test xs p.1)

same_true : (a b : ℤ) → same a b ≡ true → a ≡ b
same_true (pos a) (pos b) e = ap pos (eqb-true a b e)
same_true (pos a) (negsuc b) e = cc
same_true (negsuc a) (pos b) e = cc
same_true (negsuc a) (negsuc b) e = ap negsuc (eqb-true a b e)

values : List Share → List ℤ
values shares = map (λ s. s.value) shares

-- the shares of a value add up to the count of each of them: no other share has its value
distinct : List Share → Bool
distinct shares = every (λ s. eqb (weight shares s.value) s.count) shares

-- the values stand in the order 0, +1, −1, +2, −2
in_order : List Share → Bool
in_order shares = every (λ k. same (get_or (values shares) k (pos 0)) (value_at k)) (range_with_len 0 (length shares))

-- the last two: the code's shifts and its counts fit
passes : Law → Bool
passes law =
    eqb (total law.shares) (2 ^ law.width)
    && (distinct law.shares && (in_order law.shares && (leb law.width 16 && leb (length (bounds law.shares)) 10)))

record Passed (law : Law) : Type 0 where
  whole : total law.shares ≡ 2 ^ law.width
  apart : distinct law.shares ≡ true
  ordered : in_order law.shares ≡ true
  short : law.width ≤ 16
  few : length (bounds law.shares) ≤ 10

passed : (law : Law) → passes law ≡ true → Passed law
unfolding passes
passed law e =
    let shares = law.shares in
    let whole = eqb (total shares) (2 ^ law.width) in
    let short = leb law.width 16 in
    let few = leb (length (bounds shares)) 10 in
    let p = and_parts whole (distinct shares && (in_order shares && (short && few))) e in
    let q = and_parts (distinct shares) (in_order shares && (short && few)) p.1 in
    let r = and_parts (in_order shares) (short && few) q.1 in
    let s = and_parts short few r.1 in
    record {
      whole = eqb-true (total shares) (2 ^ law.width) p.0;
      apart = q.0;
      ordered = r.0;
      short = leb-true law.width 16 s.0;
      few = leb-true (length (bounds shares)) 10 s.1;
    }

-- the one test of the table
all_pass : every passes laws ≡ true
unfolding laws every passes distinct in_order values
all_pass = refl

pub known : (number : ℕ) → number ≤ 5 → number < length laws
unfolding laws
known number h = omega arith

law_passed : (number : ℕ) → number ≤ 5 → Passed (law_of number)
law_passed number h =
    passed (law_of number) (All-get_or (λ law. passes law ≡ true) laws number (of_width 0 []) (known number h) (all_every passes laws all_pass))

-- ---- the words that go to a value

holds : (law : Law) → Passed law → Holds law
unfolding distinct words_to
holds law p = record {
  total = p.whole;
  counts =
      All-weaker (λ s. eqb (weight law.shares s.value) s.count ≡ true) (λ s. words_to law s.value ≡ s.count)
      (λ s e. counted s.value ∙ eqb-true (weight law.shares s.value) s.count e)
      law.shares (all_every (λ s. eqb (weight law.shares s.value) s.count) law.shares p.apart);
  nowhere_else = λ word h. among law.shares word (rw p.whole h);
}
  where
    counted : (value : ℤ) → words_to law value ≡ weight law.shares value
    counted value = ap (λ n. count_by (λ word. same (found law.shares word) value) (range_with_len 0 n)) (sym p.whole) ∙ words_met law.shares value

pub law_holds : (number : ℕ) → number ≤ 5 → Holds (law_of number)
law_holds number h = holds (law_of number) (law_passed number h)

-- ---- the value by the place of the share

in_place : (shares : List Share) → in_order shares ≡ true → (k : ℕ) → k < length shares → get_or (values shares) k (pos 0) ≡ value_at k
unfolding in_order
in_place shares e k h =
    let test : ℕ → Bool = λ k. same (get_or (values shares) k (pos 0)) (value_at k) in
    let all = all_every test (range_with_len 0 (length shares)) e in
    let at = All-get_or (λ k. test k ≡ true) (range_with_len 0 (length shares)) k 0 (omega (arith, length-range_with_len 0 (length shares))) all in
    same_true (get_or (values shares) k (pos 0)) (value_at k)
    (subst (λ (n : ℕ). test n ≡ true) (get_or-range_with_len 0 (length shares) k 0 h ∙ zero-add k) at)

length_starts : (first : ℕ) (shares : List Share) → length (starts first shares) ≡ length shares
length_starts first [] = refl
length_starts first (s ∷ shares) = ap suc (length_starts (first + s.count) shares)

-- the bounds that a word has reached lead to its value
by_place : (shares : List Share) (word : ℕ) → in_order shares ≡ true → word < total shares
    → value_at (count_by (λ b. leb b word) (bounds shares)) ≡ found shares word
unfolding values
by_place [] word e h = absurd (not-suc-le-zero h)
by_place (s ∷ shares) word e h =
    let firsts = starts (0 + s.count) shares in
    let reached = count_by (λ b. leb b word) firsts in
    let few : reached < length (s ∷ shares) = omega (arith, count_by-le-length (λ b. leb b word) firsts, length_starts (0 + s.count) shares) in
    sym (in_place (s ∷ shares) e reached few)
    ∙ sym (place s shares 0 word (omega arith) (omega arith))
    ∙ ap (found (s ∷ shares)) (omega arith)

-- ---- at a known law

pub width_short : (number : ℕ) → number ≤ 5 → width_of number ≤ 16
width_short number h = (law_passed number h).short

-- no word has more than sixteen bits
pub words_end : (number : ℕ) → number ≤ 5 → 2 ^ width_of number ≤ 65536
words_end number h = pow_mono (width_short number h)

pub number_small : (law : NoiseLaw) → number_of law ≤ 5
number_small Zero = lit≤ tt
number_small One = lit≤ tt
number_small Two = lit≤ tt
number_small Three = lit≤ tt
number_small Four = lit≤ tt
number_small Five = lit≤ tt

few_bounds : (number : ℕ) → number ≤ 5 → length (bounds_of number) ≤ 10
few_bounds number h = (law_passed number h).few

pub index_small : (number word : ℕ) → number ≤ 5 → index_of number word ≤ 10
index_small number word h = omega (arith, few_bounds number h, count_by-le-length (λ b. leb b word) (bounds_of number))

-- `1 << width`
pub shifted : (width : ℕ) → width ≤ 16 → 1 * 2 ^ width % 4294967296 ≡ 2 ^ width
shifted width h = ap (λ n. n % 4294967296) (one-mul (2 ^ width)) ∙ mod-eq_of_lt (pow_below width 32 (omega arith))

pub refused : (number word : ℕ) → 2 ^ width_of number ≤ word → Err Word ≡ value_reply number word
refused number word l = cond_above word (2 ^ width_of number) (Ok (value_of number word)) (Err Word) (Err Word) l refl

pub valued : (number word index : ℕ) (value : ℤ) → number ≤ 5 → word < 2 ^ width_of number → index ≡ index_of number word → value ≡ value_at index
    → Ok value ≡ value_reply number word
valued number word index value h below i v =
    let p = law_passed number h in
    ap Ok (v ∙ ap value_at i ∙ by_place (law_of number).shares word p.ordered (rw p.whole below))
    ∙ cond_below word (2 ^ width_of number) (Ok (value_of number word)) (Err Word) below
