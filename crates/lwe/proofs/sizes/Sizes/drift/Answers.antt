use Rattle.std.proofs.Common.{◌≡◌, ◌*◌, ◌/◌, ◌%◌, get_or, ℤ, pos, ◌-ℤ◌, ◌*ℤ◌, Ok, sym, ap, ◌∙◌, subst, div-add-mod', arith, w16, w64, SFits, rules, lt-ltb}
use Rattle.std.proofs.lemmas.Int.{ints, to_z-of_z}
use Rattle.std.proofs.lemmas.List.{map-id}
use Rattle.lwe.specs.Drifts.{drawn_by}
use Rattle.lwe.specs.Exchange.{DifferBy, drift, opening_sum, answering_sum}
use Rattle.lwe.specs.Matrices.{signed, sum, times, transposed}
use Rattle.lwe.proofs.DriftIdentity.{drift_identity}
use Rattle.lwe.proofs.FiniteSums.{sum_sub}
use Rattle.lwe.proofs.sizes.Sizes.drift.Goals as goal

pub returns : goal.returns
returns c =
    let s = c.args.self.now in
    let place = c.args.place in
    let i = place / s.lb in
    let j = place % s.lb in
    let d = drawn_by s c.args.drawn in
    let up = c.product-up.result in
    let down = c.product-down.result in
    let read = get_or c.args.drawn.noise.now place (pos 0) in
    let noise = c.from.result in
    let short : SFits w16 read = search rules in
    let noise_is : noise ≡ read = c.from.ensures ∙ to_z-of_z w16 read short in
    let wide : SFits w64 noise = omega (arith, ints) in
    let wide_up : SFits w64 up = omega (arith, ints, c.product-up.ensures.bound) in
    let wide_down : SFits w64 down = omega (arith, ints, c.product-down.ensures.bound) in
    let difference : SFits w64 (up -ℤ down) = omega (arith, ints, c.product-up.ensures.bound, c.product-down.ensures.bound) in
    let total : SFits w64 (up -ℤ down -ℤ noise) = omega (arith, ints, c.product-up.ensures.bound, c.product-down.ensures.bound) in
    let last : noise ≡ d.Eσ i j = noise_is ∙ ap (λ k. get_or c.args.drawn.noise.now k (pos 0)) (sym (div-add-mod' place s.lb)) in
    let up_is : up ≡ sum s.n (λ r. d.X1 r i *ℤ d.E2 r j) = c.product-up.ensures.value ∙ (λ t. times s.n (transposed (signed s.la (map-id c.args.drawn.x1.now t))) (signed s.lb (map-id c.args.drawn.e2.now t)) i j) in
    let down_is : down ≡ sum s.n (λ r. d.E1 r i *ℤ d.X2 r j) = c.product-down.ensures.value ∙ (λ t. times s.n (transposed (signed s.la (map-id c.args.drawn.e1.now t))) (signed s.lb (map-id c.args.drawn.x2.now t)) i j) in
    let value : up -ℤ down -ℤ noise ≡ drift s.n d i j = omega (arith, ints, sum_sub s.n (λ r. d.X1 r i *ℤ d.E2 r j) (λ r. d.E1 r i *ℤ d.X2 r j), up_is, down_is) in
    simp to_z-of_z
    (record {
      answer = rw (lt-ltb place (s.la * s.lb) (omega arith)) (ap Ok value);
      tells = λ A. subst (λ (z : ℤ). DifferBy s.q z (opening_sum s.q s.n A d i j) (answering_sum s.q s.n A d i j)) (sym value) (drift_identity s.q s.n A d i j (omega arith));
    })
