-- The exchange from learning with errors. Assumes nothing.
-- Two ends share a public matrix A of n rows and n columns. The opening end draws a secret X1 and noise E1, of la columns, and
-- sends Y1; the answering end draws X2 and E2, of lb columns, and Eσ, and sends Y2. Each then works out a sum for each place, a
-- row below la and a column below lb. The two sums differ by the drift.
use Rattle.std.specs.Prelude.{◌≡◌, ℕ, ◌<◌, ℤ, pos, ◌-ℤ◌, ◌*ℤ◌}
use Rattle.consensus.specs.Arithmetic.{residue, around, apart}
use Rattle.lwe.specs.Matrices.{Matrix, Residues, whole, sum, transposed, times, plus, reduced}

-- Y1 = A·X1 + E1 mod q
abbrev pub Y1 : (q n : ℕ) (A X1 E1 : Matrix) → Residues
Y1 q n A X1 E1 = reduced q (plus (times n A X1) E1)

-- Y2 = Aᵀ·X2 + E2 mod q
abbrev pub Y2 : (q n : ℕ) (A X2 E2 : Matrix) → Residues
Y2 q n A X2 E2 = reduced q (plus (times n (transposed A) X2) E2)

-- Σ2 = Y1ᵀ·X2 + Eσ mod q, of the Y1 that the answering end received
abbrev pub Σ2 : (q n : ℕ) (received X2 Eσ : Matrix) → Residues
Σ2 q n received X2 Eσ = reduced q (plus (times n (transposed received) X2) Eσ)

-- Σ1 = X1ᵀ·Y2 mod q, of the Y2 that the opening end received
abbrev pub Σ1 : (q n : ℕ) (X1 received : Matrix) → Residues
Σ1 q n X1 received = reduced q (times n (transposed X1) received)

-- what the ends draw
pub record Drawn : Type 0 where
  pub X1 : Matrix
  pub E1 : Matrix
  pub X2 : Matrix
  pub E2 : Matrix
  pub Eσ : Matrix

-- the drift of place (i, j)
abbrev pub drift : ℕ → Drawn → Matrix
drift n d i j = sum n (λ r. d.X1 r i *ℤ d.E2 r j -ℤ d.E1 r i *ℤ d.X2 r j) -ℤ d.Eσ i j

-- the two sums of an undisturbed exchange
abbrev pub opening_sum : (q n : ℕ) → Matrix → Drawn → Residues
opening_sum q n A d = Σ1 q n d.X1 (whole (Y2 q n A d.X2 d.E2))

abbrev pub answering_sum : (q n : ℕ) → Matrix → Drawn → Residues
answering_sum q n A d = Σ2 q n (whole (Y1 q n A d.X1 d.E1)) d.X2 d.Eσ

-- the sums differ by z modulo q, so they lie as far apart around q as z does from 0
pub record DifferBy (q : ℕ) (z : ℤ) (first second : ℕ) : Type 0 where
  pub difference : residue (pos first -ℤ pos second) q ≡ residue z q
  pub distance : apart q first second ≡ around q z

-- The drift identity: at every place the two sums differ by the drift, whatever the public matrix.
abbrev pub DriftIdentity : Type 0
DriftIdentity =
    (q n : ℕ) (A : Matrix) (d : Drawn) (i j : ℕ) → 0 < q
    → DifferBy q (drift n d i j) (opening_sum q n A d i j) (answering_sum q n A d i j)
