use Rattle.std.proofs.Common.{◌≡◌, ℕ, length, get_or, ℤ, pos, ◌*ℤ◌, ◌∙◌, arith, w16, SFits, rules}
use Rattle.std.proofs.lemmas.Int.{ints, to_z-of_z}
use Rattle.std.proofs.lemmas.List.{length_push}
use Rattle.std.proofs.lemmas.Slice.Zip.{zip_turn}
use Rattle.lwe.proofs.FiniteSums.{sum_more}
use Rattle.lwe.proofs.products.dot.Goals as goal

pub loop-a-preserved : goal.loop-a-preserved
loop-a-preserved c =
    let a = c.args.a.now in
    let x = c.args.x.now in
    let k = length c.loop-a.yielded in
    let f : ℕ → ℤ = λ k. pos (get_or a k 0) *ℤ get_or x k (pos 0) in
    let step = sum_more k f in
    let more = length_push c.loop-a.yielded (c.in-Some.a, c.in-Some.x) in
    let turn = zip_turn a x c.loop-a.yielded c.into_iter-a-iterator.result c.loop-a.a-iterator c.next.new.self c.next.result (search rules) (search rules) c.loop-a.yielded_by (c.in-Some.a, c.in-Some.x) c.in-Some.is c.next.ensures.steps in
    let left : c.in-Some.a.now ≡ get_or a k 0 = turn.2 0 in
    let right : c.in-Some.x.now ≡ get_or x k (pos 0) = turn.3 (pos 0) in
    let fits : SFits w16 (c.in-Some.x.now) = rw right (search rules) in
    let term : c.times-total.result ≡ f k = (simp to_z-of_z at c.times-total.ensures.value) ∙ (λ t. pos (left t) *ℤ right t) in
    rw more (omega (arith, ints), omega (arith, ints))
