-- A header reads back as its fields, and is their only writing. Assumes nothing.
use Rattle.std.proofs.Common.{◌≡◌, ℕ, ◌+◌, ◌*◌, ◌/◌, ◌%◌, ◌≤◌, List, ◌∷◌, ◌++◌, length, get_or, drop, ◌∙◌, arith}
use Rattle.wire.specs.declared.header.Header.{Header}
use Rattle.wire.specs.Bytes.{number_at, bytes_of}
use Rattle.wire.specs.Headers.{fields, header_of}
use Rattle.wire.proofs.Laws.{Bytes, drop_two}

whole : (x : ℕ) → x / 256 * 256 + x % 256 ≡ x
whole x = omega arith

pub head_back : (h : Header) (rest : List ℕ) → header_of (bytes_of (fields h) ++ rest) ≡ h
head_back h rest = λ i. record {
  kind = whole h.kind i;
  number = whole h.number i;
  rows = whole h.rows i;
  columns = whole h.columns i;
  first = whole h.first i;
  second = whole h.second i;
  hints = whole h.hints i;
  length = whole h.length i;
}

module _ (m : List ℕ) (bytes : Bytes m) where
  word_only : (i : ℕ) → i + 2 ≤ length m → drop i m ≡ number_at m i / 256 ∷ number_at m i % 256 ∷ drop (i + 2) m
  word_only i h =
      let high : get_or m i 0 ≡ number_at m i / 256 = omega (arith, bytes (i + 1)) in
      let low : get_or m (i + 1) 0 ≡ number_at m i % 256 = omega (arith, bytes (i + 1)) in
      drop_two m i h ∙ (λ j. high j ∷ low j ∷ drop (i + 2) m)

  pub head_only : 16 ≤ length m → m ≡ bytes_of (fields (header_of m)) ++ drop 16 m
  head_only h =
      let w : (i : ℕ) → i ≤ 14 → drop i m ≡ number_at m i / 256 ∷ number_at m i % 256 ∷ drop (i + 2) m = λ i k. word_only i (omega arith) in
      cc (w 0 (omega arith), w 2 (omega arith), w 4 (omega arith), w 6 (omega arith), w 8 (omega arith), w 10 (omega arith), w 12 (omega arith), w 14 (omega arith))
