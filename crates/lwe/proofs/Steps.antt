-- What the loops over the rows of the public matrix come to, and what they answer. Assumes nothing.
use Rattle.std.proofs.Common.{◌≡◌, ℕ, ◌+◌, ◌*◌, ◌/◌, ◌%◌, ◌<◌, List, get_or, ℤ, pos, ◌+ℤ◌, ◌*ℤ◌, Ok, sym, ap, ◌∙◌, arith, eq-eqb}
use Rattle.std.proofs.lemmas.Nat.{div-mul-add, mod-mul-add}
use Rattle.consensus.specs.Arithmetic.{residue}
use Rattle.matrix.specs.Matrices.{Matrices}
use Rattle.lwe.specs.Exchange.{Y1, Y2}
use Rattle.lwe.specs.Images.{Imaged}
use Rattle.lwe.specs.Matrices.{Matrix, Residues, whole, sum, times, transposed, plus, reduced, signed, by_rows, padded}
use Rattle.lwe.proofs.FiniteSums.{sum_same, sum_more}
use Rattle.lwe.proofs.Places.{by_rows_same}
use Rattle.lwe.proofs.Rows.{Walked}

-- entry k of row i of Y1, from that row of the public matrix
pub image_entry : (q n l i k : ℕ) (a : Residues) (X E : Matrix) (row : List ℕ) (columns noise : List ℤ) → k < l
    → ((r : ℕ) → r < n → get_or row r 0 ≡ a i r) → ((c : ℕ) → c < l → (r : ℕ) → r < n → signed n columns c r ≡ X r c) → get_or noise k (pos 0) ≡ E i k
    → residue (sum n (λ r. pos (get_or row r 0) *ℤ signed n columns k r) +ℤ get_or noise k (pos 0)) q ≡ Y1 q n (whole a) X E ((i * l + k) / l) ((i * l + k) % l)
image_entry q n l i k a X E row columns noise h entries secret noisy =
    let at_row = div-mul-add i l k h in
    let at_column = mod-mul-add i l k h in
    let products = sum_same n (λ r. pos (get_or row r 0) *ℤ signed n columns k r) (λ r. pos (a i r) *ℤ X r k) (λ r m. rw (entries r m, secret k h r m)) in
    rw (products, noisy) (sym (ap (λ t. Y1 q n (whole a) X E t ((i * l + k) % l)) at_row ∙ ap (Y1 q n (whole a) X E i) at_column))

-- one more row of the public matrix in the sums of Y2
pub sums_entry : (i c j : ℕ) (a : Residues) (X : Matrix) (entry : ℕ) (was now factor : ℤ)
    → was ≡ times i (transposed (whole a)) X j c → entry ≡ a i j → factor ≡ X i c → now ≡ was +ℤ pos entry *ℤ factor → now ≡ times (i + 1) (transposed (whole a)) X j c
sums_entry i c j a X entry was now factor so_far entries secret value =
    rw (value, so_far, entries, secret) (sym (sum_more i (λ r. pos (a r j) *ℤ X r c)))

-- a granted answer
pub imaged : {S : Type 0} (meaning : S → Matrices) (seed : List ℕ) (n l i : ℕ) (image : Residues) (before after : S) (xs : List ℕ)
    → Walked meaning seed i before after → 0 < i → (meaning before).side ≡ n → xs ≡ padded 0 8192 (by_rows n l image) → Imaged meaning seed n l image before after (Ok xs)
imaged meaning seed n l i image before after xs walked h side e = record {
  answer = ap Ok e ∙ rw (eq-eqb (meaning before).side n side, walked.known h);
  kept = walked.kept;
  refused = λ fault err. let z : ◌≡◌ {A = ℕ} 0 1 = cc in absurd (omega arith);
}

-- the sums over all rows give Y2
pub image_same : (q n l i : ℕ) (A X E : Matrix) (sums : List ℤ) → i ≡ n → 0 < l → ((c : ℕ) → c < l → (j : ℕ) → j < n → signed n sums c j ≡ times i (transposed A) X j c)
    → padded 0 8192 (by_rows n l (reduced q (plus (transposed (signed n sums)) E))) ≡ padded 0 8192 (by_rows n l (Y2 q n A X E))
image_same q n l i A X E sums all some e =
    ap (padded 0 8192)
    (by_rows_same n l (reduced q (plus (transposed (signed n sums)) E)) (Y2 q n A X E) some
    (λ j h c m. ap (λ (z : ℤ). residue (z +ℤ E j c) q) (e c m j h ∙ ap (λ i. times i (transposed A) X j c) all)))
