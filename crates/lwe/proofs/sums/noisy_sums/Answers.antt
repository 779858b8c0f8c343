use Rattle.std.proofs.Common.{◌≡◌, ℕ, ◌/◌, ◌%◌, get_or, map, pos, ◌∙◌, div-add-mod', arith, length-set, w16, w64, SFits, rules}
use Rattle.std.proofs.lemmas.List.Edits.{fill_by_more}
use Rattle.std.proofs.lemmas.Int.{to_z-of_z}
use Rattle.lwe.specs.Exchange.{Σ2}
use Rattle.lwe.specs.Matrices.{Residues, signed}
use Rattle.lwe.proofs.Places.{front_all}
use Rattle.lwe.proofs.sums.noisy_sums.Goals as goal

pub loop-k-preserved : goal.loop-k-preserved
loop-k-preserved g c =
    let k = c.loop-k.k in
    let s = c.args.sizes.now in
    let f : ℕ → ℕ = λ k. Σ2 s.q s.n (signed s.la (map g.T.Entry.value_of c.args.x.now)) (signed s.lb (map g.U.Entry.value_of c.args.y.now)) (signed s.lb c.args.noise.now) (k / s.lb) (k % s.lb) in
    let wide : SFits w64 c.product.result = search rules in
    let narrow : SFits w16 (get_or c.args.noise.now k (pos 0)) = search rules in
    let value : c.noisy.result ≡ f k = (simp to_z-of_z at c.noisy.ensures) ∙ rw (div-add-mod' k s.lb, c.product.ensures.value) in
    (rw length-set c.loop-k.invariant.0, rw value (fill_by_more f c.loop-k.sum-items k 0 (omega (arith, c.loop-k.invariant.0)) c.loop-k.invariant.1))

pub returns : goal.returns
returns g c =
    let s = c.args.sizes.now in
    let a : Residues = Σ2 s.q s.n (signed s.la (map g.T.Entry.value_of c.args.x.now)) (signed s.lb (map g.U.Entry.value_of c.args.y.now)) (signed s.lb c.args.noise.now) in
    front_all 64 s.la s.lb a c.loop-k.sum-items (omega arith) c.loop-k.invariant.0 (λ k h. c.loop-k.invariant.1 k (omega arith))
