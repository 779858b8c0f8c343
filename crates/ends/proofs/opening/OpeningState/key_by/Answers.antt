use Rattle.std.proofs.Common.{◌≡◌, ℕ, ◌-◌, ◌<◌, List, length, take, ℤ, ap, ◌∙◌, arith}
use Rattle.lwe.specs.Exchange.{Σ1}
use Rattle.lwe.specs.Matrices.{Residues, padded, plain, signed, times, transposed}
use Rattle.ends.specs.Ends.{setting}
use Rattle.ends.specs.declared.opening.OpeningPhase.TheVariants.{Keyed}
use Rattle.ends.specs.Keys.{recover_all}
use Rattle.ends.specs.OpeningStates.{recovered}
use Rattle.ends.proofs.Arrays.{by_rows_below, length_by_rows}
use Rattle.ends.proofs.Limits.{sums_are}
use Rattle.ends.proofs.opening.OpeningState.key_by.Goals as goal

-- Σ1 of a secret and of what was received, both row by row
abbrev Σ1_of : List ℤ → List ℕ → (q n la lb : ℕ) → Residues
Σ1_of X Y q n la lb = Σ1 q n (signed la X) (plain lb Y)

pub recover_places-requires-clause-sums : goal.recover_places-requires-clause-sums
recover_places-requires-clause-sums g c =
    let s = setting g.R.Rule.meaning g.S.MatrixSource.meaning c.args.works.now in
    let z = c.sizes.result in
    let h = c.sizes.ensures in
    let X = signed s.la c.args.self.now.secret in
    let Y = plain s.lb c.args.y2.now in
    let long = length_by_rows s.la s.lb (Σ1 s.rule.modulus s.matrices.side X Y) in
    let some : 0 < s.rule.modulus = omega (arith, h.modulus, z.modulus.0) in
    rw (sums_are (Σ1_of c.args.self.now.secret c.args.y2.now) s z c.opening_sum-sums.result c.places.result h c.places.ensures c.opening_sum-sums.ensures)
    (λ k inside. by_rows_below s.rule.modulus s.la s.lb (times s.matrices.side (transposed X) Y) some k (omega (arith, long)))

pub returns : goal.returns
returns g c =
    let s = setting g.R.Rule.meaning g.S.MatrixSource.meaning c.args.works.now in
    let is = sums_are (Σ1_of c.args.self.now.secret c.args.y2.now) s c.sizes.result c.opening_sum-sums.result c.places.result c.sizes.ensures c.places.ensures c.opening_sum-sums.ensures in
    let long : length c.args.self.now.digits ≡ 64 = omega arith in
    let digits : c.recover_places.new.digits ≡ padded 0 64 (recovered s.matrices.side s.la s.lb s.rule c.args.self.now.secret c.args.y2.now c.args.hints.now) =
    c.recover_places.ensures
    ∙ ap (λ size. padded 0 size (recover_all s.rule (take (c.places.result - 0) c.opening_sum-sums.result) c.args.hints.now)) long
    ∙ ap (λ sums. padded 0 64 (recover_all s.rule sums c.args.hints.now)) is in
    λ i. record {
      phase = Keyed;
      number = c.args.self.now.number;
      seed = c.args.self.now.seed;
      secret = c.args.self.now.secret;
      image = c.args.self.now.image;
      digits = digits i;
      noise = c.args.self.now.noise;
    }
