-- What the loops and the tests of a request's words come to. Assumes nothing.
use Rattle.std.proofs.Common.{◌≡◌, ℕ, ◌+◌, ◌-◌, ◌<◌, ◌≤◌, Bool, true, false, cond, ltb, List, [], ◌∷◌, ◌++◌, length, get_or, take, drop, Some, None, Ok, Err, decimal, Option, sym, ap, ◌∙◌, append_assoc, append-nil, zero-add, arith}
use Rattle.std.specs.List.{flat_map}
use Rattle.std.proofs.lemmas.List.FromFn.{map-range_with_len_more}
use Rattle.std.proofs.lemmas.List.{at_drop_more, at_drop_all, take_all, take-append-le, take_rest, drop_all}
use Rattle.matrix.specs.Matrices.{Matrices, Row}
use Rattle.matrix.specs.Replies.{column_reply}
use Rattle.matrix.specs.declared.fault.SourceFault.TheVariants.{Column}
use Rattle.text.specs.Words.{place}
use Rattle.vector_line.specs.Rows.{entries_to, spaced_number, spaced_text}

-- one more entry of a row
pub one_more : (m : Matrices) (row : Option Row) (j entry : ℕ) (before after : List ℕ)
    → Ok entry ≡ column_reply m row j → before ≡ entries_to m row j → after ≡ before ++ entry ∷ [] → after ≡ entries_to m row (j + 1)
one_more m None j entry before after e b a = cc
one_more m (Some row) j entry before after e b a =
    let f : ℕ → ℕ = m.entry row.0 row.1 in
    let here : entry ≡ f j = granted (ltb j m.side) (f j) e in
    a ∙ ap (λ l. l ++ entry ∷ []) b ∙ ap (λ n. entries_to m (Some row) j ++ n ∷ []) here ∙ sym (map-range_with_len_more f 0 j j (zero-add j))
  where
    granted : (b : Bool) (x : ℕ) → Ok entry ≡ cond b (Ok x) (Err Column) → entry ≡ x
    granted true x e = cc
    granted false x e = cc

-- the numbers after the first
pub begun : (ns others : List ℕ) → 0 < length ns → others ≡ drop 1 ns → spaced_text ns ≡ decimal (get_or ns 0 0) ++ flat_map spaced_number (drop 0 others)
begun [] others h e = let z : ◌≡◌ {A = ℕ} 0 1 = omega arith in cc
begun (n ∷ ns) others h e = ap (λ l. decimal n ++ flat_map spaced_number l) (sym e)

-- one more number
pub spaced_more : (whole text pushed others : List ℕ) (i : ℕ) → i < length others → whole ≡ text ++ flat_map spaced_number (drop i others)
    → pushed ≡ text ++ spaced_number (get_or others i 0) → whole ≡ pushed ++ flat_map spaced_number (drop (i + 1) others)
spaced_more whole text pushed others i h so_far p =
    so_far ∙ ap (λ l. text ++ l) (at_drop_more (flat_map spaced_number) others i 0 h)
    ∙ sym (append_assoc text (spaced_number (get_or others i 0)) (flat_map spaced_number (drop (i + 1) others)))
    ∙ ap (λ l. l ++ flat_map spaced_number (drop (i + 1) others)) (sym p)

pub spaced_all : (whole text others : List ℕ) (i : ℕ) → length others ≤ i → whole ≡ text ++ flat_map spaced_number (drop i others) → text ≡ whole
spaced_all whole text others i h so_far =
    sym (so_far ∙ ap (λ l. text ++ l) (at_drop_all (flat_map spaced_number) others i h) ∙ append-nil text)

-- a part of a list, from a place on
abbrev pub onward : List ℕ → ℕ → List ℕ
onward ns i = take (length ns - i) (drop i ns)

-- where the line feed stands
pub cut_here : (input : List ℕ) (i : ℕ) → i ≡ place 10 input
    → (take i input ≡ take (place 10 input) input) × (onward input (i + 1) ≡ drop (place 10 input + 1) input)
cut_here input i e = (ap (λ n. take n input) e, take_rest input (i + 1) ∙ ap (λ n. drop (n + 1) input) e)

-- no line feed
pub uncut : (input : List ℕ) → length input ≡ place 10 input
    → (input ≡ take (place 10 input) input) × ([] ≡ drop (place 10 input + 1) input)
uncut input e = (sym (take_all (place 10 input) input (omega arith)), sym (drop_all (place 10 input + 1) input (omega arith)))

-- what a vector holds after all of it was written
pub filled : (out items : List ℕ) (len : ℕ) → length out ≡ len → take len (out ++ drop (length out) items) ≡ out
filled out items len e = take-append-le len out (drop (length out) items) (omega arith) ∙ take_all len out (omega arith)
