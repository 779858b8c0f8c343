-- Reading decimal digits one by one. Assumes nothing.
use Rattle.std.proofs.Common.{◌≡◌, ℕ, ◌+◌, ◌*◌, ◌^◌, ◌<◌, ◌≤◌, ltb, List, [], ◌∷◌, length, get_or, drop, Some, None, Option, ap₂, sym, refl, ap, ◌∙◌, arith}
use Rattle.std.proofs.lemmas.List.{at_drop_more, at_drop_all}
use Rattle.std.proofs.lemmas.Bool.{cond-true, cond-false, lt-ltb, le-ltb}
use Rattle.std.specs.Char.{digit_value}
use Rattle.std.specs.Option.{SomeIff}
use Rattle.std.proofs.lemmas.Bool.Decides.{nat_tests}
use Rattle.text.specs.Hex.{hex_digit, byte_of}
use Rattle.text.specs.Numbers.{followed, digit, read_on, fitting}

-- the library's digits
digit_read : (b : ℕ) (o : Option ℕ) → SomeIff o (digit_value b < 10) (digit_value b) → o ≡ digit b
digit_read b None h = grind (arith, nat_tests)
digit_read b (Some d) h = grind (arith, nat_tests)

hex_digit_read : (b : ℕ) (o : Option ℕ) → SomeIff o (digit_value b < 16) (digit_value b) → o ≡ hex_digit b
hex_digit_read b None h = grind (arith, nat_tests)
hex_digit_read b (Some d) h = grind (arith, nat_tests)

-- two hex digits
pub byte_read : (high low h : ℕ) (a b : ℕ) (o : Option ℕ) → a ≡ high → b ≡ low → (digit_value a < 16) × (h ≡ digit_value a) → SomeIff o (digit_value b < 16) (digit_value b)
    → followed o (λ l. Some (h * 16 + l)) ≡ byte_of high low
byte_read high low h a b o is_high is_low e f =
    ap₂ (λ (p q : Option ℕ). followed p (λ x. followed q (λ y. Some (x * 16 + y))))
    (hex_digit_read a (Some h) e ∙ ap hex_digit is_high) (hex_digit_read b o f ∙ ap hex_digit is_low)

abbrev pub read_from : ℕ → List ℕ → Option ℕ
read_from n bs = followed (read_on n bs) fitting

pub fits : (n : ℕ) → n < 2 ^ 32 → fitting n ≡ Some n
fits n h = cond-true (ltb n (2 ^ 32)) (Some n) None (lt-ltb n (2 ^ 32) h)

-- a number grows with each digit
pub too_large : (n : ℕ) (bs : List ℕ) → 2 ^ 32 ≤ n → read_from n bs ≡ None
too_large n [] h = cond-false (ltb n (2 ^ 32)) (Some n) None (le-ltb n (2 ^ 32) h)
too_large n (b ∷ bs) h =
    elim (digit b) as (λ o. followed (followed o (λ d. read_on (n * 10 + d) bs)) fitting ≡ None)
    [ None ↦ refl | Some d ↦ too_large (n * 10 + d) bs (omega arith) ]

pub at_digit : (o : Option ℕ) (n : ℕ) (word : List ℕ) (i : ℕ) → i < length word → o ≡ digit (get_or word i 0)
    → read_from n (drop i word) ≡ followed (followed o (λ d. read_on (n * 10 + d) (drop (i + 1) word))) fitting
at_digit o n word i within e =
    let here : read_from n (drop i word) ≡ followed (followed (digit (get_or word i 0)) (λ d. read_on (n * 10 + d) (drop (i + 1) word))) fitting
    = at_drop_more (read_from n) word i 0 within in
    here ∙ ap (λ (p : Option ℕ). followed (followed p (λ d. read_on (n * 10 + d) (drop (i + 1) word))) fitting) (sym e)

pub one_digit : (n d b : ℕ) (word : List ℕ) (i : ℕ) → i < length word → b ≡ get_or word i 0 → (digit_value b < 10) × (d ≡ digit_value b)
    → read_from n (drop i word) ≡ read_from (n * 10 + d) (drop (i + 1) word)
one_digit n d b word i within is e = at_digit (Some d) n word i within (digit_read b (Some d) e ∙ ap digit is)

pub at_end : (n : ℕ) (word : List ℕ) (i : ℕ) → length word ≤ i → n < 2 ^ 32 → read_from n (drop i word) ≡ Some n
at_end n word i past h = at_drop_all (read_from n) word i past ∙ fits n h
