use Rattle.std.proofs.Common.{◌≡◌, ℕ, ◌*◌, ◌^◌, map, length, take, drop, ℤ, pos, ap, ◌∙◌, arith}
use Rattle.noise.specs.Laws.{value_of, width_of}
use Rattle.lwe.specs.Matrices.{padded}
use Rattle.ends.specs.Ends.{setting}
use Rattle.ends.specs.AnsweringStates.{drawn_X2, drawn_E2, drawn_Eσ}
use Rattle.ends.proofs.AnsweringCalls.{hear_count, hear_noise}
use Rattle.ends.proofs.Drawing.{below_first, below_second, below_third}
use Rattle.ends.proofs.answering.AnsweringState.draw.Goals as goal

pub sample-requires-clause-below : goal.sample-requires-clause-below
sample-requires-clause-below g c =
    let s = setting g.R.Rule.meaning g.S.MatrixSource.meaning c.args.works.now in
    let h = c.sizes-n.ensures in
    let words = c.args.words.now in
    rw (c.split_at.ensures.front, h.side, h.answering)
    (below_first (2 ^ width_of s.law) (s.matrices.side * s.lb) (s.la * s.lb) words (hear_count s words c.requires) (hear_noise s words c.requires))

pub sample-requires-2-clause-below : goal.sample-requires-2-clause-below
sample-requires-2-clause-below g c =
    let s = setting g.R.Rule.meaning g.S.MatrixSource.meaning c.args.works.now in
    let h = c.sizes-n.ensures in
    let words = c.args.words.now in
    rw (c.split_at-2.ensures.front, c.split_at.ensures.back, h.side, h.answering)
    (below_second (2 ^ width_of s.law) (s.matrices.side * s.lb) (s.la * s.lb) words (hear_count s words c.requires) (hear_noise s words c.requires))

pub sample-requires-3-clause-below : goal.sample-requires-3-clause-below
sample-requires-3-clause-below g c =
    let s = setting g.R.Rule.meaning g.S.MatrixSource.meaning c.args.works.now in
    let h = c.sizes-n.ensures in
    let words = c.args.words.now in
    rw (c.split_at-3.ensures.front, c.split_at-2.ensures.back, c.split_at.ensures.back, h.side, h.opening, h.answering)
    (below_third (2 ^ width_of s.law) (s.matrices.side * s.lb) (s.la * s.lb) words (hear_count s words c.requires) (hear_noise s words c.requires))

pub returns-clause-state : goal.returns-clause-state
returns-clause-state g c =
    let s = setting g.R.Rule.meaning g.S.MatrixSource.meaning c.args.works.now in
    let h = c.sizes-n.ensures in
    let self = c.args.self.now in
    let p = s.matrices.side * s.lb in
    let r = s.la * s.lb in
    let words = c.args.words.now in
    let value : ℕ → ℤ = value_of s.law in
    let secret_size : length self.secret ≡ 8192 = omega arith in
    let noise_size : length self.noise ≡ 8192 = omega arith in
    let sum_noise_size : length self.sum_noise ≡ 64 = omega arith in
    let entries : c.sizes-n.result.n * c.sizes-n.result.lb ≡ p = λ i. h.side i * h.answering i in
    let places : c.sizes-n.result.la * c.sizes-n.result.lb ≡ r = λ i. h.opening i * h.answering i in
    let first : c.split_at.result.0.now ≡ take p words = c.split_at.ensures.front ∙ ap (λ k. take k words) entries in
    let behind : c.split_at.result.1.now ≡ drop p words = c.split_at.ensures.back ∙ ap (λ k. drop k words) entries in
    let second : c.split_at-2.result.0.now ≡ take p (drop p words) = c.split_at-2.ensures.front ∙ (λ i. take (entries i) (behind i)) in
    let rest : c.split_at-2.result.1.now ≡ drop p (drop p words) = c.split_at-2.ensures.back ∙ (λ i. drop (entries i) (behind i)) in
    let third : c.split_at-3.result.0.now ≡ take r (drop p (drop p words)) = c.split_at-3.ensures.front ∙ (λ i. take (places i) (rest i)) in
    let secret : c.sample.new.values ≡ padded (pos 0) 8192 (drawn_X2 s.matrices.side s.lb s.law words) =
    c.sample.ensures ∙ ap (λ size. padded (pos 0) size (map value c.split_at.result.0.now)) secret_size ∙ ap (λ ws. padded (pos 0) 8192 (map value ws)) first in
    let noise : c.sample-2.new.values ≡ padded (pos 0) 8192 (drawn_E2 s.matrices.side s.lb s.law words) =
    c.sample-2.ensures ∙ ap (λ size. padded (pos 0) size (map value c.split_at-2.result.0.now)) noise_size ∙ ap (λ ws. padded (pos 0) 8192 (map value ws)) second in
    let sum_noise : c.sample-3.new.values ≡ padded (pos 0) 64 (drawn_Eσ s.matrices.side s.la s.lb s.law words) =
    c.sample-3.ensures ∙ ap (λ size. padded (pos 0) size (map value c.split_at-3.result.0.now)) sum_noise_size ∙ ap (λ ws. padded (pos 0) 64 (map value ws)) third in
    λ i. record {
      phase = self.phase;
      number = self.number;
      image = self.image;
      hints = self.hints;
      digits = self.digits;
      secret = secret i;
      noise = noise i;
      sum_noise = sum_noise i;
    }
