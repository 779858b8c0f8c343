-- A loop that writes the front of a list over an array of one element. Assumes nothing.
use Rattle.std.proofs.Common.{◌≡◌, ℕ, ◌+◌, ◌-◌, ◌<◌, min, List, ◌++◌, length, get_or, take, drop, set, replicate, sym, ap, ◌∙◌, ⊎_elim, arith}
use lib.Seq.{paste}
use Rattle.std.proofs.lemmas.List.Edits.{paste_more}
use Rattle.std.proofs.lemmas.List.{take_all, drop-replicate, length-replicate}
use Rattle.std.proofs.lemmas.Bool.{cases_lt}
use Rattle.lwe.specs.Matrices.{padded}

pub padded_more : {X : Type 0} (d : X) (n : ℕ) (xs array : List X) (i : ℕ) (x : X) → i < n → i < length xs
    → array ≡ paste (replicate n d) 0 xs i → x ≡ get_or xs i d → set array i x ≡ paste (replicate n d) 0 xs (i + 1)
padded_more d n xs array i x room inside was is =
    let here : 0 + i ≡ i = omega arith in
    cc (paste_more (replicate n d) 0 xs i d (omega (arith, length-replicate n d)) inside)

pub padded_all : {X : Type 0} (d : X) (n k : ℕ) (xs : List X) → k ≡ min (length xs) n → paste (replicate n d) 0 xs k ≡ padded d n xs
padded_all d n k xs e = λ i. front i ++ rest i where
  front : take k xs ≡ take n xs
  front = ⊎_elim
      (λ h. let same : k ≡ n = omega arith in ap (λ j. take j xs) same)
      (λ h. take_all k xs (omega arith) ∙ sym (take_all n xs (omega arith)))
      (cases_lt n (length xs))

  left : n - (0 + k) ≡ n - length xs
  left = omega arith

  rest : drop (0 + k) (replicate n d) ≡ replicate (n - length xs) d
  rest = drop-replicate (0 + k) n d ∙ ap (λ j. replicate j d) left
