-- Reading and writing pairs of hex digits. Assumes nothing.
use Rattle.std.proofs.Common.{◌≤◌, append-nil, ◌≡◌, ℕ, suc, ◌+◌, ◌*◌, ◌/◌, ◌%◌, ◌<◌, List, [], ◌∷◌, ◌++◌, length, get_or, drop, Some, None, Option, sym, refl, ap, ◌∙◌, ap₂, append_assoc, arith}
use Rattle.std.proofs.lemmas.List.{drop_more, drop_all}
use Rattle.std.proofs.lemmas.Bool.Decides.{nat_tests}
use Rattle.text.specs.Numbers.{followed}
use Rattle.text.specs.Hex.{hex_digit, byte_of, bytes_of, letter, hex_of}

-- bytes before those that may follow
abbrev pub after : List ℕ → Option (List ℕ) → Option (List ℕ)
after front rest = followed rest (λ bytes. Some (front ++ bytes))

after_more : (front : List ℕ) (byte : ℕ) (rest : Option (List ℕ))
    → after front (followed rest (λ bytes. Some (byte ∷ bytes))) ≡ after (front ++ byte ∷ []) rest
after_more front byte None = refl
after_more front byte (Some bytes) = ap (λ l. Some l) (sym (append_assoc front (byte ∷ []) bytes))

two_off : (word : List ℕ) (i : ℕ) → 2 * i + 1 < length word
    → drop (2 * i) word ≡ get_or word (2 * i) 0 ∷ get_or word (2 * i + 1) 0 ∷ drop (2 * (i + 1)) word
two_off word i within =
    drop_more word (2 * i) 0 (omega arith)
    ∙ ap (λ l. get_or word (2 * i) 0 ∷ l) (drop_more word (2 * i + 1) 0 within ∙ ap (λ n. get_or word (2 * i + 1) 0 ∷ drop n word) (omega arith))

-- one pair further
pub at_pair : (o : Option ℕ) (front word : List ℕ) (i : ℕ) → 2 * i + 1 < length word → o ≡ byte_of (get_or word (2 * i) 0) (get_or word (2 * i + 1) 0)
    → bytes_of word ≡ after front (bytes_of (drop (2 * i) word))
    → bytes_of word ≡ followed o (λ byte. after (front ++ byte ∷ []) (bytes_of (drop (2 * (i + 1)) word)))
at_pair o front word i within e so_far =
    so_far ∙ ap (λ l. after front (bytes_of l)) (two_off word i within)
    ∙ ap (λ (p : Option ℕ). after front (followed p (λ byte. followed rest (λ bytes. Some (byte ∷ bytes))))) (sym e) ∙ moved o
  where
    rest : Option (List ℕ)
    rest = bytes_of (drop (2 * (i + 1)) word)

    moved : (p : Option ℕ) → after front (followed p (λ byte. followed rest (λ bytes. Some (byte ∷ bytes)))) ≡ followed p (λ byte. after (front ++ byte ∷ []) rest)
    moved None = refl
    moved (Some byte) = after_more front byte rest

pub at_end : (front word : List ℕ) (i : ℕ) → length word ≤ 2 * i
    → bytes_of word ≡ after front (bytes_of (drop (2 * i) word)) → bytes_of word ≡ Some front
at_end front word i past so_far =
    so_far ∙ ap (λ l. after front (bytes_of l)) (drop_all (2 * i) word past) ∙ ap (λ l. Some l) (append-nil front)

none_after : {Y : Type 0} (o : Option ℕ) → followed {Y = Y} o (λ byte. None) ≡ None
none_after None = refl
none_after (Some byte) = refl

-- a digit is left over
pub odd_length : (word : List ℕ) → length word % 2 ≡ 1 → bytes_of word ≡ None
odd_length [] odd = cc
odd_length (a ∷ []) odd = refl
odd_length (a ∷ b ∷ word) odd =
    let fewer : length word % 2 ≡ 1 = omega arith in
    ap (λ (rest : Option (List ℕ)). followed (byte_of a b) (λ byte. followed rest (λ bytes. Some (byte ∷ bytes)))) (odd_length word fewer) ∙ none_after (byte_of a b)

digit_back : (d : ℕ) → d < 16 → hex_digit (letter d) ≡ Some d
digit_back d h = grind (arith, nat_tests)

byte_back : (b : ℕ) → b < 256 → byte_of (letter (b / 16)) (letter (b % 16)) ≡ Some b
byte_back b h =
    let whole : b / 16 * 16 + b % 16 ≡ b = omega arith in
    ap₂ (λ (p q : Option ℕ). followed p (λ x. followed q (λ y. Some (x * 16 + y)))) (digit_back (b / 16) (omega arith)) (digit_back (b % 16) (omega arith))
    ∙ ap (λ n. Some n) whole

-- what is written is read back
pub reads_back : (bytes : List ℕ) → ((i : ℕ) → get_or bytes i 0 < 256) → bytes_of (hex_of bytes) ≡ Some bytes
reads_back [] h = refl
reads_back (byte ∷ bytes) h =
    ap₂ (λ (p : Option ℕ) (q : Option (List ℕ)). followed p (λ x. followed q (λ xs. Some (x ∷ xs))))
    (byte_back byte (h 0)) (reads_back bytes (λ i. h (suc i)))

-- one byte further in writing
pub written_more : (text pushed ended bytes : List ℕ) (i : ℕ) → i < length bytes → hex_of bytes ≡ text ++ hex_of (drop i bytes)
    → pushed ≡ text ++ letter (get_or bytes i 0 / 16) ∷ [] → ended ≡ pushed ++ letter (get_or bytes i 0 % 16) ∷ []
    → hex_of bytes ≡ ended ++ hex_of (drop (i + 1) bytes)
written_more text pushed ended bytes i within so_far p e =
    let high = letter (get_or bytes i 0 / 16) in
    let low = letter (get_or bytes i 0 % 16) in
    let rest = hex_of (drop (i + 1) bytes) in
    so_far ∙ ap (λ l. text ++ hex_of l) (drop_more bytes i 0 within)
    ∙ sym (append_assoc text (high ∷ []) (low ∷ rest)) ∙ ap (λ l. l ++ low ∷ rest) (sym p)
    ∙ sym (append_assoc pushed (low ∷ []) rest) ∙ ap (λ l. l ++ rest) (sym e)
