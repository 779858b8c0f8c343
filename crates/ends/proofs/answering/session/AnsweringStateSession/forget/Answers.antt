use Rattle.std.proofs.Common.{◌≡◌, length, replicate, pos, ap, ◌∙◌, arith}
use Rattle.ends.specs.declared.answering.AnsweringPhase.TheVariants.{Idle}
use Rattle.ends.proofs.answering.session.AnsweringStateSession.forget.Goals as goal

pub returns : goal.returns
returns c =
    let s = c.args.self.now in
    let image_long : length s.image ≡ 8192 = omega arith in
    let hints_long : length s.hints ≡ 64 = omega arith in
    let digits_long : length s.digits ≡ 64 = omega arith in
    let image = c.fill.ensures.after (λ y e. e) ∙ ap (λ n. replicate n 0) image_long in
    let hints = c.fill-2.ensures.after (λ y e. e) ∙ ap (λ n. replicate n 0) hints_long in
    let digits = c.fill-3.ensures.after (λ y e. e) ∙ ap (λ n. replicate n 0) digits_long in
    c.clear.ensures
    ∙ (λ i. record {
      phase = Idle;
      number = s.number;
      image = image i;
      hints = hints i;
      digits = digits i;
      secret = replicate 8192 (pos 0);
      noise = replicate 8192 (pos 0);
      sum_noise = replicate 64 (pos 0);
    })
