use Rattle.std.proofs.Common.{◌≡◌, length, replicate, pos, ap, ◌∙◌, arith}
use Rattle.ends.proofs.answering.AnsweringState.clear.Goals as goal

pub returns : goal.returns
returns c =
    let s = c.args.self.now in
    let secret_long : length s.secret ≡ 8192 = omega arith in
    let noise_long : length s.noise ≡ 8192 = omega arith in
    let sum_noise_long : length s.sum_noise ≡ 64 = omega arith in
    let secret = c.fill.ensures.after (λ y e. e) ∙ ap (λ n. replicate n (pos 0)) secret_long in
    let noise = c.fill-2.ensures.after (λ y e. e) ∙ ap (λ n. replicate n (pos 0)) noise_long in
    let sum_noise = c.fill-3.ensures.after (λ y e. e) ∙ ap (λ n. replicate n (pos 0)) sum_noise_long in
    λ i. record {
      phase = s.phase;
      number = s.number;
      image = s.image;
      hints = s.hints;
      digits = s.digits;
      secret = secret i;
      noise = noise i;
      sum_noise = sum_noise i;
    }
