use Rattle.std.proofs.Common.{◌≡◌, ℕ, ◌+◌, ◌*◌, ◌/◌, ◌%◌, get_or, pos, ◌∙◌, div-add-mod', arith, length-set, w16, w64, SFits, rules}
use Rattle.std.proofs.lemmas.List.Edits.{fill_by_more}
use Rattle.std.proofs.lemmas.Int.{to_z-of_z}
use Rattle.lwe.specs.Matrices.{plus, reduced, signed, transposed}
use Rattle.lwe.proofs.Places.{front_all}
use Rattle.lwe.proofs.sizes.Sizes.noisy_image.Goals as goal

pub loop-k-preserved : goal.loop-k-preserved
loop-k-preserved c =
    let k = c.loop-k.k in
    let s = c.args.self.now in
    let f : ℕ → ℕ = λ k. reduced s.q (plus (transposed (signed s.n c.args.sums.now)) (signed s.lb c.args.noise.now)) (k / s.lb) (k % s.lb) in
    let wide : SFits w64 (get_or c.args.sums.now (k % s.lb * s.n + k / s.lb) (pos 0)) = search rules in
    let narrow : SFits w16 (get_or c.args.noise.now k (pos 0)) = search rules in
    let value : c.noisy.result ≡ f k = (simp to_z-of_z at c.noisy.ensures) ∙ rw (div-add-mod' k s.lb) in
    (rw length-set c.loop-k.invariant.0, rw value (fill_by_more f c.loop-k.entry-items k 0 (omega (arith, c.loop-k.invariant.0)) c.loop-k.invariant.1))

pub returns : goal.returns
returns c =
    let s = c.args.self.now in
    front_all 8192 s.n s.lb (reduced s.q (plus (transposed (signed s.n c.args.sums.now)) (signed s.lb c.args.noise.now))) c.loop-k.entry-items (omega arith) c.loop-k.invariant.0 (λ k h. c.loop-k.invariant.1 k (omega arith))
