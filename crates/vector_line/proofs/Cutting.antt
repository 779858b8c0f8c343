-- Cutting lines off an input. Assumes nothing.
use Rattle.std.proofs.Common.{◌≡◌, ℕ, ◌+◌, ◌<◌, eqb, List, [], ◌∷◌, ◌++◌, length, take, drop, sym, ap, ◌∙◌, inl, inr, append_assoc, append-nil, length-append, suc-add, arith}
use Rattle.std.proofs.lemmas.Bool.{cases_Bool}
use Rattle.text.specs.Words.{place}
use Rattle.vector_line.specs.Lines.{lines_after}

-- a line ends at the next line feed
pub line_off : (line bs : List ℕ) → 0 < length line + length bs
    → lines_after line bs ≡ (line ++ take (place 10 bs) bs) ∷ lines_after [] (drop (place 10 bs + 1) bs)
line_off [] [] h = absurd (omega arith)
line_off (b ∷ line) [] h = ap (λ l. (b ∷ l) ∷ []) (sym (append-nil line))
line_off line (b ∷ bs) h =
    elim (cases_Bool (eqb b 10)) [
      | inl e ↦ rw e (ap (λ w. w ∷ lines_after [] bs) (sym (append-nil line)))
      | inr e ↦
          rw e
          (line_off (line ++ b ∷ []) bs (omega (arith, length-append line (b ∷ [])))
          ∙ ap (λ w. w ∷ lines_after [] (drop (place 10 bs + 1) bs)) (append_assoc line (b ∷ []) (take (place 10 bs) bs))
          ∙ ap (λ n. (line ++ b ∷ take (place 10 bs) bs) ∷ lines_after [] (drop n (b ∷ bs))) (sym (suc-add (place 10 bs) 1)))
    ]
