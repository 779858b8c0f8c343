use Rattle.std.proofs.Common.{◌≡◌, ℕ, ◌+◌, ◌-◌, ◌*◌, ◌^◌, ◌<◌, ◌≤◌, length, get_or, ℤ, pos, ◌+ℤ◌, ◌*ℤ◌, nat_abs, ap, ◌∙◌, add-mul, arith, w16, SFits, rules}
use Rattle.std.proofs.lemmas.List.Edits.{length-between, get_or-between}
use Rattle.std.proofs.lemmas.Int.{to_z-of_z}
use Rattle.lwe.specs.Matrices.{Within, signed}
use Rattle.lwe.proofs.Places.{between_each, put_each, put_length, put_above, row_put, row_within}
use Rattle.lwe.proofs.sizes.Sizes.add_row.Goals as goal

pub loop-c-preserved : goal.loop-c-preserved
loop-c-preserved c =
    let i = c.loop-c.c in
    let row = c.args.row.now in
    let n = c.args.self.now.n in
    let a = i * n in
    let was = c.loop-c.sums in
    let part = c.add_scaled.new.sums in
    let whole = c.loop-c.invariant.0 in
    let ends = row_within i n (omega arith) (omega arith) in
    let within : a + (a + n - a) ≤ length was = omega arith in
    let across = length-between was a (a + n) (omega arith) in
    let long = c.add_scaled.auto.sums ∙ across in
    let fits : SFits w16 (get_or c.args.x.now i (pos 0)) = search rules in
    let value = simp to_z-of_z at c.add_scaled.ensures.value in
    let here : (k : ℕ) → k < n → get_or part k (pos 0) ≡ get_or c.args.sums.now (a + k) (pos 0) +ℤ pos (get_or row k 0) *ℤ get_or c.args.x.now i (pos 0) =
    λ k h. value k (omega arith) ∙ ap (λ (z : ℤ). z +ℤ pos (get_or row k 0) *ℤ get_or c.args.x.now i (pos 0)) (get_or-between was a (a + n) k (pos 0) (omega arith) ∙ c.loop-c.invariant.3 (a + k) (omega arith)) in
    let before = λ (b : ℕ) (small : Within b c.args.sums.now).
    between_each (λ z. nat_abs z ≤ b) a (a + n) was (pos 0) (omega arith) (omega arith) (λ k. rw (c.loop-c.invariant.3 (a + k) (omega arith)) (small (a + k))) in (
      put_length a (a + n - a) was part (pos 0) within long ∙ whole,
      row_put (pos 0) n i was part (λ j k. signed n c.args.sums.now j k +ℤ pos (get_or row k 0) *ℤ get_or c.args.x.now j (pos 0)) (omega arith) long c.loop-c.invariant.1 here,
      λ b small. put_each (λ z. nat_abs z ≤ b + 2 ^ 32) a (a + n - a) was part (pos 0) within long (c.loop-c.invariant.2 b small) (c.add_scaled.ensures.grows b (before b small)),
      λ k h. put_above a (a + n - a) was part (pos 0) within long k (omega (arith, add-mul i 1 n)) ∙ c.loop-c.invariant.3 k (omega (arith, add-mul i 1 n)),
    )
