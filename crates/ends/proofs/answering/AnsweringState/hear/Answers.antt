use Rattle.std.proofs.Common.{◌≡◌, ℕ, ◌-◌, ◌*◌, ◌<◌, ◌≤◌, List, length, take, drop, ℤ, sym, ap, ◌∙◌, arith, length-take}
use Rattle.std.proofs.lemmas.List.{length-map}
use Rattle.consensus.specs.Consensus.{settle_all, digits_of, hints_of}
use Rattle.noise.specs.Laws.{value_of}
use Rattle.lwe.specs.Exchange.{Y2, Σ2}
use Rattle.lwe.specs.Images.{public_matrix}
use Rattle.lwe.specs.Matrices.{Matrix, Residues, by_rows, padded, plain, plus, signed, times, transposed}
use Rattle.wire.specs.Views.{list}
use Rattle.ends.specs.declared.answering.AnsweringPhase.TheVariants.{Keyed}
use Rattle.ends.specs.declared.answering.AnsweringState.{AnsweringState}
use Rattle.ends.specs.AnsweringStates.{drawn_X2, drawn_E2, drawn_Eσ, answered, sums, settled}
use Rattle.ends.specs.Ends.{setting}
use Rattle.ends.proofs.AnsweringCalls.{hear_count, hear_draws}
use Rattle.ends.proofs.Arrays.{by_rows_below, plain_padded, signed_padded, imaged_is}
use Rattle.ends.proofs.Drawing.{below_last, last_count}
use Rattle.ends.proofs.Limits.{sums_are}
use Rattle.ends.proofs.answering.AnsweringState.hear.Goals as goal

-- Σ2 of what was received, of a secret and of noise, all row by row
abbrev Σ2_of : List ℕ → List ℤ → List ℤ → (q n la lb : ℕ) → Residues
Σ2_of Y X E q n la lb = Σ2 q n (plain la Y) (signed lb X) (signed lb E)

pub settle_places-requires-clause-counts : goal.settle_places-requires-clause-counts
settle_places-requires-clause-counts g c =
    let s = setting g.R.Rule.meaning g.S.MatrixSource.meaning c.args.works.now in
    let h = c.sizes-sizes.ensures in
    let words = c.args.words.now in
    let few : s.la * s.lb ≤ 64 = rw (h.opening, h.answering) at c.sizes-sizes.result.places in
    let count = last_count 0 (s.matrices.side * s.lb) (s.la * s.lb) words (hear_count s words c.requires.words) in
    let draws : length c.draw-draws.result.now ≡ s.la * s.lb = ap length c.draw-draws.ensures.draws ∙ count in
    let sums = length-take (c.places.result - 0) c.answering_sum-sums.result in
    let places = c.places.ensures in
    let d = c.args.self.now in
    let digits : length c.draw-draws.new.self.digits ≡ length d.digits = ap (λ (t : AnsweringState). length t.digits) c.draw-draws.ensures.state in
    let hints : length c.draw-draws.new.self.hints ≡ length d.hints = ap (λ (t : AnsweringState). length t.hints) c.draw-draws.ensures.state in
    (omega arith, omega arith, omega arith)

pub settle_places-requires-clause-sums : goal.settle_places-requires-clause-sums
settle_places-requires-clause-sums g c =
    let s = setting g.R.Rule.meaning g.S.MatrixSource.meaning c.args.works.now in
    let d = c.draw-draws.new.self in
    let h = c.sizes-sizes.ensures in
    let words = c.args.words.now in
    let count = last_count 0 (s.matrices.side * s.lb) (s.la * s.lb) words (hear_count s words c.requires.words) in
    let draws = ap length c.draw-draws.ensures.draws in
    let some : 0 < s.rule.modulus = omega (arith, h.modulus, c.sizes-sizes.result.modulus.0) in
    rw (sums_are (Σ2_of c.to_array-y1.result d.secret d.sum_noise) s c.sizes-sizes.result c.answering_sum-sums.result c.places.result h c.places.ensures c.answering_sum-sums.ensures)
    (λ k inside. by_rows_below s.rule.modulus s.la s.lb (plus (times s.matrices.side (transposed (plain s.la c.to_array-y1.result)) (signed s.lb d.secret)) (signed s.lb d.sum_noise)) some k (omega (arith, draws, count)))

pub settle_places-requires-clause-draws : goal.settle_places-requires-clause-draws
settle_places-requires-clause-draws g c =
    let s = setting g.R.Rule.meaning g.S.MatrixSource.meaning c.args.works.now in
    let words = c.args.words.now in
    rw c.draw-draws.ensures.draws (below_last s.rule.draws (s.matrices.side * s.lb) (s.la * s.lb) words (hear_count s words c.requires.words) (hear_draws s words c.requires.words))

pub returns-clause-state : goal.returns-clause-state
returns-clause-state g c =
    let s = setting g.R.Rule.meaning g.S.MatrixSource.meaning c.args.works.now in
    let h = c.sizes-sizes.ensures in
    let z = c.sizes-sizes.result in
    let n = s.matrices.side in
    let rule = s.rule in
    let q = rule.modulus in
    let la = s.la in
    let lb = s.lb in
    let law = s.law in
    let words = c.args.words.now in
    let offer = c.args.offer.now in
    let y1 = list offer.entries in
    let d = c.draw-draws.new.self in
    let end = c.clear.new.self in
    let X2 = drawn_X2 n lb law words in
    let E2 = drawn_E2 n lb law words in
    let Eσ = drawn_Eσ n la lb law words in
    let A = public_matrix s.matrices offer.seed in
    let count = hear_count s words c.requires.words in
    let entries : n * lb ≤ 8192 = rw (h.side, h.answering) at z.answered in
    let few : la * lb ≤ 64 = rw (h.opening, h.answering) at z.places in
    let X2_count = length-take (n * lb) words in
    let E2_count = length-take (n * lb) (drop (n * lb) words) in
    let Eσ_count = length-take (la * lb) (drop (n * lb) (drop (n * lb) words)) in
    let X2_long = length-map (take (n * lb) words) (value_of law) in
    let E2_long = length-map (take (n * lb) (drop (n * lb) words)) (value_of law) in
    let Eσ_long = length-map (take (la * lb) (drop (n * lb) (drop (n * lb) words))) (value_of law) in
    let X : signed lb d.secret ≡ signed lb X2 = ap (λ (t : AnsweringState). signed lb t.secret) c.draw-draws.ensures.state ∙ signed_padded lb 8192 X2 (omega arith) in
    let E : signed lb d.noise ≡ signed lb E2 = ap (λ (t : AnsweringState). signed lb t.noise) c.draw-draws.ensures.state ∙ signed_padded lb 8192 E2 (omega arith) in
    let S : signed lb d.sum_noise ≡ signed lb Eσ = ap (λ (t : AnsweringState). signed lb t.sum_noise) c.draw-draws.ensures.state ∙ signed_padded lb 64 Eσ (omega arith) in
    let Y = imaged_is s.matrices offer.seed z.n z.lb (Y2 z.q z.n A (signed z.lb d.secret) (signed z.lb d.noise)) c.unwrap-self.result (sym h.side) c.requires.known (sym c.unwrap-self.ensures ∙ c.answering_image.ensures.answer) in
    let image : end.image ≡ padded 0 8192 (by_rows n lb (answered q n lb s.matrices law offer.seed words)) =
    ap (λ (t : AnsweringState). t.image) c.clear.ensures
    ∙ Y
    ∙ (λ i. padded 0 8192 (by_rows (h.side i) (h.answering i) (Y2 (h.modulus i) (h.side i) A (signed (h.answering i) d.secret) (signed (h.answering i) d.noise))))
    ∙ ap (λ (x : Matrix). padded 0 8192 (by_rows n lb (Y2 q n A x (signed lb d.noise)))) X
    ∙ ap (λ (e : Matrix). padded 0 8192 (by_rows n lb (Y2 q n A (signed lb X2) e))) E in
    let summed : take (c.places.result - 0) c.answering_sum-sums.result ≡ sums q n la lb law y1 words =
    sums_are (Σ2_of c.to_array-y1.result d.secret d.sum_noise) s z c.answering_sum-sums.result c.places.result h c.places.ensures c.answering_sum-sums.ensures
    ∙ ap (λ (y : List ℕ). by_rows la lb (Σ2 q n (plain la y) (signed lb d.secret) (signed lb d.sum_noise))) c.to_array-y1.ensures
    ∙ ap (λ (y : Matrix). by_rows la lb (Σ2 q n y (signed lb d.secret) (signed lb d.sum_noise))) (plain_padded la 8192 y1 c.requires.entries)
    ∙ ap (λ (x : Matrix). by_rows la lb (Σ2 q n (plain la y1) x (signed lb d.sum_noise))) X
    ∙ ap (λ (e : Matrix). by_rows la lb (Σ2 q n (plain la y1) (signed lb X2) e)) S in
    let settles : settle_all rule (take (c.places.result - 0) c.answering_sum-sums.result) c.draw-draws.result.now ≡ settled n la lb rule law y1 words =
    (λ i. settle_all rule (summed i) (c.draw-draws.ensures.draws i)) in
    let digits_size : length d.digits ≡ 64 = ap (λ (t : AnsweringState). length t.digits) c.draw-draws.ensures.state ∙ omega arith in
    let hints_size : length d.hints ≡ 64 = ap (λ (t : AnsweringState). length t.hints) c.draw-draws.ensures.state ∙ omega arith in
    let digits : end.digits ≡ padded 0 64 (digits_of (settled n la lb rule law y1 words)) =
    ap (λ (t : AnsweringState). t.digits) c.clear.ensures ∙ c.settle_places.ensures.digits ∙ (λ i. padded 0 (digits_size i) (digits_of (settles i))) in
    let hints : end.hints ≡ padded 0 64 (hints_of (settled n la lb rule law y1 words)) =
    ap (λ (t : AnsweringState). t.hints) c.clear.ensures ∙ c.settle_places.ensures.hints ∙ (λ i. padded 0 (hints_size i) (hints_of (settles i))) in
    λ i. record {
      phase = Keyed;
      number = offer.number;
      image = image i;
      hints = hints i;
      digits = digits i;
      secret = (c.clear.ensures i).secret;
      noise = (c.clear.ensures i).noise;
      sum_noise = (c.clear.ensures i).sum_noise;
    }
