use Rattle.std.proofs.Common.{◌≡◌, length, replicate, pos, ap, ◌∙◌, arith}
use Rattle.ends.specs.declared.opening.OpeningPhase.TheVariants.{Idle}
use Rattle.ends.proofs.opening.session.OpeningStateSession.forget.Goals as goal

pub returns : goal.returns
returns c =
    let s = c.args.self.now in
    let seed_long : length s.seed ≡ 32 = omega arith in
    let secret_long : length s.secret ≡ 8192 = omega arith in
    let image_long : length s.image ≡ 8192 = omega arith in
    let digits_long : length s.digits ≡ 64 = omega arith in
    let noise_long : length s.noise ≡ 8192 = omega arith in
    let seed = c.fill.ensures.after (λ y e. e) ∙ ap (λ n. replicate n 0) seed_long in
    let secret = c.fill-2.ensures.after (λ y e. e) ∙ ap (λ n. replicate n (pos 0)) secret_long in
    let image = c.fill-3.ensures.after (λ y e. e) ∙ ap (λ n. replicate n 0) image_long in
    let digits = c.fill-4.ensures.after (λ y e. e) ∙ ap (λ n. replicate n 0) digits_long in
    let noise = c.fill-5.ensures.after (λ y e. e) ∙ ap (λ n. replicate n (pos 0)) noise_long in
    λ i. record {
      phase = Idle;
      number = s.number;
      seed = seed i;
      secret = secret i;
      image = image i;
      digits = digits i;
      noise = noise i;
    }
