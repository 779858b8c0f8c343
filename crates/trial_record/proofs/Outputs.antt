-- An output grows by one line with each record. Assumes nothing.
use Rattle.std.proofs.Common.{◌≡◌, ℕ, ◌+◌, ◌*◌, ◌<◌, ◌≤◌, min, true, List, [], ◌∷◌, ◌++◌, length, drop, codes, sym, ap, ap₂, ◌∙◌, append_assoc, append-nil, map-id, zero-add, arith, length-append}
use Rattle.std.specs.Prelude.{nat_le}
use Rattle.std.specs.List.{range_with_len, flat_map}
use Rattle.std.proofs.Math.ListN.{get_or-append}
use Rattle.std.proofs.Math.Seq.{drop-append_seam}
use Rattle.std.proofs.lemmas.Bool.Decides.{nat_tests}
use Rattle.std.proofs.lemmas.List.FromFn.{map-range_with_len_more}
use Rattle.std.proofs.lemmas.List.{flat_map_more}
use Rattle.trial_record.specs.Lines.{line, line_at, records}
use Rattle.trial_record.specs.Trials.{word, record_at, record_reply, run_reply}

word_front : (x rest : List ℕ) (i : ℕ) → i + 1 < length x → word (x ++ rest) i ≡ word x i
word_front x rest i h = rw (get_or-append x rest 0 i (omega arith), get_or-append x rest 0 (i + 1) h)

record_front : (x rest : List ℕ) → 14 ≤ length x → record_at (x ++ rest) ≡ record_at x
record_front x rest h =
    let w = word_front x rest in
    cc (w 0 (omega arith), w 2 (omega arith), w 4 (omega arith), w 6 (omega arith), w 8 (omega arith), w 10 (omega arith), w 12 (omega arith))

-- a record is read from the 14 bytes at the front alone
reply_front : (x rest : List ℕ) → length x ≡ min 14 (length (x ++ rest)) → record_reply (x ++ rest) ≡ record_reply x
reply_front x [] h = ap record_reply (append-nil x)
reply_front x (r ∷ rs) h =
    let rest = r ∷ rs in
    let long : 14 ≤ length x = omega (arith, length-append x (r ∷ rs)) in
    let here : nat_le 14 (length x) ≡ true = grind (arith, nat_tests) in
    let there : nat_le 14 (length (x ++ rest)) ≡ true = grind (arith, nat_tests, length-append x rest) in
    rw (here, there) (ap run_reply (record_front x rest long))

-- what is printed after n records of the input, which stand in front of the rest
pub record Printed (input text : List ℕ) (n : ℕ) (rest : List ℕ) : Type 0 where
  pub front : List ℕ
  pub parts : input ≡ front ++ rest
  pub long : length front ≡ min (14 * n) (length input)
  pub near : 14 * n < length input + 14
  pub lines : text ≡ flat_map (line_at input) (range_with_len 0 n)

lines_more : (f : ℕ → List ℕ) (n : ℕ) → flat_map f (range_with_len 0 (n + 1)) ≡ flat_map f (range_with_len 0 n) ++ f n
lines_more f n =
    ap (flat_map f) (sym (map-id (range_with_len 0 (n + 1))) ∙ map-range_with_len_more (λ x. x) 0 n n (zero-add n) ∙ ap (λ xs. xs ++ (n ∷ [])) (map-id (range_with_len 0 n)))
    ∙ sym (flat_map_more f [] (range_with_len 0 n) n)

-- a text of n lines, and one more line pushed onto it with its end
pub one_line_more : (f : ℕ → List ℕ) (n : ℕ) (text pushed ended line end : List ℕ) → text ≡ flat_map f (range_with_len 0 n)
    → pushed ≡ text ++ line → ended ≡ pushed ++ end → f n ≡ line ++ end → ended ≡ flat_map f (range_with_len 0 (n + 1))
one_line_more f n text pushed ended line end so_far p e here =
    e ∙ ap (λ t. t ++ end) p ∙ append_assoc text line end ∙ ap₂ ◌++◌ so_far (sym here) ∙ sym (lines_more f n)

-- one more record, and its line pushed onto the text
pub one_more : {input text : List ℕ} {n : ℕ} {before : List ℕ} (x : List ℕ) {rest pushed ended : List ℕ} → Printed input text n before
    → before ≡ x ++ rest → length x ≡ min 14 (length before) → 0 < length before
    → pushed ≡ text ++ line (record_reply x) → ended ≡ pushed ++ codes "\n" → Printed input ended (n + 1) rest
one_more {input} {text} {n} {before} x {rest} p e short some push end =
    let sizes = ap (length {A = ℕ}) p.parts in
    let full : length p.front ≡ 14 * n = omega (arith, sizes, length-append p.front before) in
    let seam = drop-append_seam p.front before in
    let here : drop (14 * n) input ≡ before = rw (← full, p.parts) seam in
    let reply : record_reply before ≡ record_reply x = rw e (reply_front x rest (rw e at short)) in
    let added : line_at input n ≡ line (record_reply x) ++ codes "\n" = cc in
    record {
      front = p.front ++ x;
      parts = p.parts ∙ ap (λ xs. p.front ++ xs) e ∙ sym (append_assoc p.front x rest);
      long = omega (arith, length-append p.front x, sizes, length-append p.front before);
      near = omega (arith, sizes, length-append p.front before);
      lines = one_line_more (line_at input) n text _ _ (line (record_reply x)) (codes "\n") p.lines push end added;
    }

pub all_printed : {input text : List ℕ} {n : ℕ} {rest : List ℕ} → Printed input text n rest → length rest ≡ 0 → records input ≡ n
all_printed {rest = rest} p e = omega (arith, length-append p.front rest, ap (length {A = ℕ}) p.parts)
