use Rattle.std.proofs.Common.{◌≡◌, ℕ, ◌/◌, ◌%◌, ◌<◌, length, map, ℤ, ◌*ℤ◌, ap, ◌∙◌, arith}
use Rattle.std.proofs.lemmas.Int.{ints}
use Rattle.std.proofs.lemmas.List.{length_push}
use Rattle.std.proofs.lemmas.Nat.{div_below, mod_below}
use Rattle.lwe.specs.Matrices.{signed, sum}
use Rattle.lwe.proofs.FiniteSums.{sum_more}
use Rattle.lwe.proofs.RowLoops.{rows_at, rows_end, value_at}
use Rattle.lwe.proofs.Places.{within_array}
use Rattle.lwe.proofs.sizes.Sizes.product.Goals as goal

pub offset_bounds-x-i : goal.offset_bounds-x-i
offset_bounds-x-i g c =
    let s = c.args.self.now in
    let rows = rows_at s.la s.lb c.args.x.now c.args.y.now s.n (length c.loop-x.yielded) c.loop-x.x-iterator c.next.new.self c.loop-x.invariant.2 (c.in-Some.x, c.in-Some.y) c.next.result c.in-Some.is c.next.ensures.steps in
    omega (arith, rows.1.long, div_below c.args.place s.lb s.la (omega arith) (omega arith))

pub bounds-x-i : goal.bounds-x-i
bounds-x-i g c =
    let s = c.args.self.now in
    let rows = rows_at s.la s.lb c.args.x.now c.args.y.now s.n (length c.loop-x.yielded) c.loop-x.x-iterator c.next.new.self c.loop-x.invariant.2 (c.in-Some.x, c.in-Some.y) c.next.result c.in-Some.is c.next.ensures.steps in
    omega (arith, rows.1.long, div_below c.args.place s.lb s.la (omega arith) (omega arith))

pub loop-x-preserved : goal.loop-x-preserved
loop-x-preserved g c =
    let s = c.args.self.now in
    let k = length c.loop-x.yielded in
    let i = c.args.place / s.lb in
    let j = c.args.place % s.lb in
    let rows = rows_at s.la s.lb c.args.x.now c.args.y.now s.n k c.loop-x.x-iterator c.next.new.self c.loop-x.invariant.2 (c.in-Some.x, c.in-Some.y) c.next.result c.in-Some.is c.next.ensures.steps in
    let i_below = div_below c.args.place s.lb s.la (omega arith) (omega arith) in
    let j_below = mod_below c.args.place s.lb (omega arith) in
    let f : ℕ → ℤ = λ k. signed s.la (map g.T.Entry.value_of c.args.x.now) k i *ℤ signed s.lb (map g.U.Entry.value_of c.args.y.now) k j in
    let step = sum_more k f in
    let below : k < s.n = omega (arith, rows.0.count) in
    let left = value_at g.T.Entry.value_of s.la c.args.x.now k i c.in-Some.x.now c.index-x-i.result rows.1 (omega (arith, within_array k s.la i (omega arith) (omega arith) i_below)) i_below c.index-x-i.is in
    let right = value_at g.U.Entry.value_of s.lb c.args.y.now k j c.in-Some.y.now c.index-y-j.result rows.2 (omega (arith, within_array k s.lb j (omega arith) (omega arith) j_below)) j_below c.index-y-j.is in
    let term : c.times-total.result ≡ f k = c.times-total.ensures.value ∙ (λ t. left t *ℤ right t) in
    rw length_push ((omega (arith, rows.0.left.size), omega (arith, rows.0.right.size)), tt, rows.0, omega (arith, ints), omega (arith, ints))

pub returns-clause-value : goal.returns-clause-value
returns-clause-value g c =
    let s = c.args.self.now in
    let f : ℕ → ℤ = λ k. signed s.la (map g.T.Entry.value_of c.args.x.now) k (c.args.place / s.lb) *ℤ signed s.lb (map g.U.Entry.value_of c.args.y.now) k (c.args.place % s.lb) in
    c.loop-x.invariant.3
    ∙ ap (λ k. sum k f) (rows_end s.la s.lb c.args.x.now c.args.y.now s.n (length c.loop-x.yielded) c.loop-x.x-iterator c.next.new.self c.loop-x.invariant.2 c.next.result c.in-None.is (omega arith) (omega arith) c.next.ensures.steps)
