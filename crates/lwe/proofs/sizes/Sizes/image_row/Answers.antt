use Rattle.std.proofs.Common.{◌≡◌, ℕ, ◌+◌, ◌*◌, length, get_or, ℤ, pos, ◌+ℤ◌, ◌*ℤ◌, ap, ◌∙◌, arith, w16, w64, SFits, rules}
use Rattle.std.proofs.lemmas.List.Edits.{fill_by_more, get_or-between}
use Rattle.std.proofs.lemmas.Int.{to_z-of_z}
use Rattle.consensus.specs.Arithmetic.{residue}
use Rattle.lwe.specs.Matrices.{signed, sum}
use Rattle.lwe.proofs.FiniteSums.{sum_same}
use Rattle.lwe.proofs.sizes.Sizes.image_row.Goals as goal

pub loop-c-preserved : goal.loop-c-preserved
loop-c-preserved c =
    let i = c.loop-c.c in
    let row = c.args.row.now in
    let n = c.args.self.now.n in
    let columns = c.args.columns.now in
    let noise = c.args.noise.now in
    let f : ℕ → ℕ = λ k. residue (sum n (λ r. pos (get_or row r 0) *ℤ signed n columns k r) +ℤ get_or noise k (pos 0)) c.args.self.now.q in
    let wide : SFits w64 c.dot-total.result = search rules in
    let narrow : SFits w16 (get_or noise i (pos 0)) = search rules in
    let value = simp to_z-of_z at c.noisy.ensures in
    let rows : length row ≡ n = omega arith in
    let total = (rw rows at c.dot-total.ensures.value) ∙ sum_same n _ (λ r. pos (get_or row r 0) *ℤ signed n columns i r) (λ r h. ap (λ (z : ℤ). pos (get_or row r 0) *ℤ z) (get_or-between columns (i * n) (i * n + n) r (pos 0) (omega arith))) in
    rw (value ∙ ap (λ (z : ℤ). residue (z +ℤ get_or noise i (pos 0)) c.args.self.now.q) total)
    (fill_by_more f c.loop-c.image i 0 (omega arith) c.loop-c.invariant)
