use Rattle.std.proofs.Common.{◌≡◌, ◌*◌, ◌%◌, ◌^◌, ap, ◌∙◌, arith}
use Rattle.noise.specs.Laws.{width_of}
use Rattle.noise.specs.Replies.{number_of}
use Rattle.noise.proofs.Checked.{number_small, width_short, shifted}
use Rattle.noise.proofs.law.NoiseLaw.word_limit.Goals as goal

pub overflow_shl-result : goal.overflow_shl-result
overflow_shl-result c = omega (arith, width_short (number_of c.args.self.now) (number_small c.args.self.now))

pub returns : goal.returns
returns c =
    let law = c.args.self.now in
    let w : c.width.result ≡ width_of (number_of law) = c.width.ensures in
    ap (λ width. 1 * 2 ^ width % 4294967296) w ∙ shifted (width_of (number_of law)) (width_short (number_of law) (number_small law))
