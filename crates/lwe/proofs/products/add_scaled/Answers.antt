use Rattle.std.proofs.Common.{◌≡◌, ◌+◌, ◌^◌, ◌<◌, ◌≤◌, ◌≢◌, length, get_or, pos, ◌+ℤ◌, ◌*ℤ◌, nat_abs, sym, ap, arith, get_or-set_other, get_or-set_same, w16, w64, SFits, to_z, of_z, below_more}
use Rattle.std.proofs.lemmas.Int.{ints, to_z-of_z}
use Rattle.lwe.proofs.products.add_scaled.Goals as goal

pub loop-k-preserved : goal.loop-k-preserved
loop-k-preserved c =
    let i = c.loop-k.k in
    let was = c.loop-k.invariant.1 i (omega arith) in
    let small = c.requires.small i in
    let fits : SFits w16 c.args.x = c.ranges.x in
    let term : c.times.result ≡ pos (get_or c.args.row.now i 0) *ℤ c.args.x = simp to_z-of_z at c.times.ensures.value in
    let e = to_z-of_z w16 c.args.x fits in
    let within : i < length c.loop-k.sums = omega arith in
    let new : to_z w64 (of_z w64 (to_z w64 (of_z w64 (get_or c.loop-k.sums i (pos 0))) +ℤ to_z w64 (of_z w64 c.times.result))) ≡ get_or c.args.sums.now i (pos 0) +ℤ pos (get_or c.args.row.now i 0) *ℤ c.args.x = omega (arith, ints) in
    let small_term = rw term at c.times.ensures.bound in
    let bound : nat_abs (get_or c.args.sums.now i (pos 0) +ℤ pos (get_or c.args.row.now i 0) *ℤ c.args.x) ≤ nat_abs (get_or c.args.sums.now i (pos 0)) + 2 ^ 32 = omega (arith, ints) in (
      below_more _ _
          (λ k h. let ne : k ≢ i = omega arith in rw get_or-set_other (c.loop-k.invariant.0 k h))
          (rw (get_or-set_same, new) (ap (λ z. get_or c.args.sums.now i (pos 0) +ℤ pos (get_or c.args.row.now i 0) *ℤ z) (sym e), bound)),
      λ k h. let ne : k ≢ i = omega arith in rw get_or-set_other (c.loop-k.invariant.1 k (omega arith)),
    )
