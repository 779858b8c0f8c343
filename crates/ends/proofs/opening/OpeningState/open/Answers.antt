use Rattle.std.proofs.Common.{◌≡◌, ℕ, ◌*◌, ◌^◌, map, length, take, drop, replicate, ℤ, pos, sym, ap, ◌∙◌, arith, length-drop, length-take}
use Rattle.std.proofs.lemmas.List.{length-map}
use Rattle.noise.specs.Laws.{value_of, width_of}
use Rattle.lwe.specs.Exchange.{Y1}
use Rattle.lwe.specs.Images.{public_matrix}
use Rattle.lwe.specs.Matrices.{Matrix, by_rows, padded, signed}
use Rattle.ends.specs.declared.opening.OpeningPhase.TheVariants.{Waiting}
use Rattle.ends.specs.Ends.{setting}
use Rattle.ends.specs.OpeningStates.{drawn_X1, drawn_E1, offered}
use Rattle.ends.proofs.Arrays.{signed_padded, imaged_is}
use Rattle.ends.proofs.Drawing.{below_take, below_drop}
use Rattle.ends.proofs.OpeningCalls.{open_below, open_count}
use Rattle.ends.proofs.opening.OpeningState.open.Goals as goal

pub sample-requires-clause-below : goal.sample-requires-clause-below
sample-requires-clause-below g c =
    let s = setting g.R.Rule.meaning g.S.MatrixSource.meaning c.args.works.now in
    let z = c.sizes-sizes.result in
    rw c.split_at.ensures.front (below_take (2 ^ width_of s.law) (z.n * z.la) c.args.words.now (open_below s c.args.words.now c.requires.words))

pub sample-requires-2-clause-below : goal.sample-requires-2-clause-below
sample-requires-2-clause-below g c =
    let s = setting g.R.Rule.meaning g.S.MatrixSource.meaning c.args.works.now in
    let z = c.sizes-sizes.result in
    rw c.split_at.ensures.back (below_drop (2 ^ width_of s.law) (z.n * z.la) c.args.words.now (open_below s c.args.words.now c.requires.words))

pub returns-clause-state : goal.returns-clause-state
returns-clause-state g c =
    let s = setting g.R.Rule.meaning g.S.MatrixSource.meaning c.args.works.now in
    let h = c.sizes-sizes.ensures in
    let q = s.rule.modulus in
    let n = s.matrices.side in
    let la = s.la in
    let m = s.matrices in
    let law = s.law in
    let words = c.args.words.now in
    let seed = c.args.seed.now in
    let value : ℕ → ℤ = value_of law in
    let count = open_count s words c.requires.words in
    let front_count = length-take (n * la) words in
    let back_count = length-drop (n * la) words in
    let front_long = length-map (take (n * la) words) value in
    let back_long = length-map (drop (n * la) words) value in
    let secret_size : length c.args.self.now.secret ≡ 8192 = omega arith in
    let noise_size : length c.args.self.now.noise ≡ 8192 = omega arith in
    let digits_size : length c.args.self.now.digits ≡ 64 = omega arith in
    let first : c.split_at.result.0.now ≡ take (n * la) words = c.split_at.ensures.front ∙ (λ i. take (h.side i * h.opening i) words) in
    let second : c.split_at.result.1.now ≡ drop (n * la) words = c.split_at.ensures.back ∙ (λ i. drop (h.side i * h.opening i) words) in
    let secret : c.sample.new.values ≡ padded (pos 0) 8192 (drawn_X1 n la law words) =
    c.sample.ensures ∙ ap (λ size. padded (pos 0) size (map value c.split_at.result.0.now)) secret_size ∙ ap (λ ws. padded (pos 0) 8192 (map value ws)) first in
    let drawn : c.sample-2.new.values ≡ padded (pos 0) 8192 (drawn_E1 n la law words) =
    c.sample-2.ensures ∙ ap (λ size. padded (pos 0) size (map value c.split_at.result.1.now)) noise_size ∙ ap (λ ws. padded (pos 0) 8192 (map value ws)) second in
    let fits : length words ≡ 2 * (c.sizes-sizes.result.n * c.sizes-sizes.result.la) = count ∙ rw (h.side, h.opening) in
    let short : n * la ≡ c.sizes-sizes.result.n * c.sizes-sizes.result.la = rw (h.side, h.opening) in
    let X : signed la c.sample.new.values ≡ signed la (drawn_X1 n la law words) = ap (signed la) secret ∙ signed_padded la 8192 (drawn_X1 n la law words) (omega arith) in
    let E : signed la c.sample-2.new.values ≡ signed la (drawn_E1 n la law words) = ap (signed la) drawn ∙ signed_padded la 8192 (drawn_E1 n la law words) (omega arith) in
    let z = c.sizes-sizes.result in
    let Y = imaged_is m seed z.n z.la (Y1 z.q z.n (public_matrix m seed) (signed z.la c.sample.new.values) (signed z.la c.sample-2.new.values)) c.unwrap-self.result (sym h.side) c.requires.known (sym c.unwrap-self.ensures ∙ c.opening_image.ensures.answer) in
    let image : c.unwrap-self.result ≡ padded 0 8192 (by_rows n la (offered q n la m law seed words)) =
    Y
    ∙ (λ i. padded 0 8192 (by_rows (h.side i) (h.opening i) (Y1 (h.modulus i) (h.side i) (public_matrix m seed) (signed (h.opening i) c.sample.new.values) (signed (h.opening i) c.sample-2.new.values))))
    ∙ ap (λ (x : Matrix). padded 0 8192 (by_rows n la (Y1 q n (public_matrix m seed) x (signed la c.sample-2.new.values)))) X
    ∙ ap (λ (e : Matrix). padded 0 8192 (by_rows n la (Y1 q n (public_matrix m seed) (signed la (drawn_X1 n la law words)) e))) E in
    let noise_kept : length c.sample-2.new.values ≡ 8192 = omega arith in
    let noise = c.fill.ensures.after (λ y e. e) ∙ ap (λ size. replicate size (pos 0)) noise_kept in
    let digits = c.fill-2.ensures.after (λ y e. e) ∙ ap (λ size. replicate size 0) digits_size in
    λ i. record {
      phase = Waiting;
      number = c.args.number;
      seed = seed;
      secret = secret i;
      image = image i;
      digits = digits i;
      noise = noise i;
    }
