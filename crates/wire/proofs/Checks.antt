-- What the faults of a message say. Assumes nothing.
use Rattle.std.proofs.Common.{◌≡◌, ℕ, zero, suc, ◌+◌, ◌≤◌, List, [], ◌∷◌, length, map, position, nat_le, Some, None, Option, sym, refl, ◌∙◌, arith}
use Rattle.std.specs.Option.{option_map}
use Rattle.std.proofs.lemmas.Bool.{cond-true, lt-ltb}
use Rattle.std.proofs.lemmas.Bool.Decides.{nat_tests}
use Rattle.lwe.specs.Limits.{Dimensions}
use Rattle.wire.specs.declared.fault.WireFault.{WireFault}
use Rattle.wire.specs.declared.fault.WireFault.TheVariants.{Entry}
use Rattle.wire.specs.declared.header.Header.{Header}
use Rattle.wire.specs.declared.kind.Kind.{Kind}
use Rattle.wire.specs.declared.kind.Kind.TheVariants.{Offer, Answer}
use Rattle.wire.specs.Bytes.{number_at}
use Rattle.wire.specs.Faults.{first_of}
use Rattle.wire.specs.Headers.{message_length, header, header_of, short_fault, field_fault, header_fault}
use Rattle.wire.specs.Messages.{over, Below}

-- the first number at fault is the first that is not below the limit
pub over_position : {X : Type 0} (f : X → ℕ) (limit from : ℕ) (xs : List X)
    → over limit from (map f xs) ≡ option_map (λ i. Entry (from + i)) (position (λ x. nat_le limit (f x)) xs)
over_position f limit from [] = refl
over_position f limit from (x ∷ xs) = let rest = over_position f limit (from + 1) xs in grind (arith, nat_tests)

-- no number is at fault if and only if each is below the limit
pub over_below : (limit j : ℕ) (xs : List ℕ) → over limit j xs ≡ None → Below limit xs
over_below limit j [] e k h = absurd (omega arith)
over_below limit j (x ∷ xs) e zero h = grind (arith, nat_tests)
over_below limit j (x ∷ xs) e (suc k) h =
    let on : over limit (j + 1) xs ≡ None = grind (arith, nat_tests) in
    over_below limit (j + 1) xs on k (omega arith)

pub below_over : (limit j : ℕ) (xs : List ℕ) → Below limit xs → over limit j xs ≡ None
below_over limit j [] h = refl
below_over limit j (x ∷ xs) h = cond-true _ _ _ (lt-ltb _ _ (h 0 (omega arith))) ∙ below_over limit (j + 1) xs (λ k l. h (suc k) (omega arith))

first_none : (a b : Option WireFault) → first_of a b ≡ None → (a ≡ None) × (b ≡ None)
first_none None b e = (refl, e)
first_none (Some f) b e = let z : ◌≡◌ {A = ℕ} 0 1 = cc in absurd (omega arith)

-- a header has no fault if and only if it is the one due
fields_right : (got due : Header) (size : ℕ) → got.number ≡ due.number → field_fault got due size ≡ None
    → (got ≡ due) × (got.number ≡ 0 → ⊥) × (size ≡ due.length)
fields_right got due size number e =
    let kind : got.kind ≡ due.kind = grind (arith, nat_tests) in
    let rows : got.rows ≡ due.rows = grind (arith, nat_tests) in
    let columns : got.columns ≡ due.columns = grind (arith, nat_tests) in
    let one : got.first ≡ due.first = grind (arith, nat_tests) in
    let two : got.second ≡ due.second = grind (arith, nat_tests) in
    let hints : got.hints ≡ due.hints = grind (arith, nat_tests) in
    let all : got.length ≡ due.length = grind (arith, nat_tests) in
    let same : got ≡ due = λ i. record {
      kind = kind i;
      number = number i;
      rows = rows i;
      columns = columns i;
      first = one i;
      second = two i;
      hints = hints i;
      length = all i;
    } in
    (same, λ z. grind (arith, nat_tests), grind (arith, nat_tests))

pub fields_fine : (due : Header) (size : ℕ) → (due.number ≡ 0 → ⊥) → size ≡ due.length → field_fault due due size ≡ None
fields_fine due size h e = grind (arith, nat_tests)

pub header_number : (s : Dimensions) (k : Kind) (session : ℕ) → (header s k session).number ≡ session
header_number s Offer session = refl
header_number s Answer session = refl

pub header_length : (s : Dimensions) (k : Kind) (session : ℕ) → (header s k session).length ≡ message_length s k
header_length s Offer session = refl
header_length s Answer session = refl

-- what a message with no fault in its header keeps
pub record Sound (s : Dimensions) (k : Kind) (m : List ℕ) : Type 0 where
  pub enough : 16 ≤ length m
  pub session : number_at m 2 ≡ 0 → ⊥
  pub states : header_of m ≡ header s k (number_at m 2)
  pub long : length m ≡ message_length s k

pub sound : (s : Dimensions) (k : Kind) (m : List ℕ) → header_fault s k m ≡ None → Sound s k m
sound s k m e =
    let due = header s k (number_at m 2) in
    let both = first_none (short_fault m) (field_fault (header_of m) due (length m)) e in
    let short = both.0 in
    let right = fields_right (header_of m) due (length m) (sym (header_number s k (number_at m 2))) both.1 in
    let enough : 16 ≤ length m = grind (arith, nat_tests) in
    record { enough = enough; session = right.1; states = right.0; long = right.2 ∙ header_length s k (number_at m 2) }
