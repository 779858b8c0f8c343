use Rattle.std.proofs.Common.{ap, ◌∙◌, arith}
use Rattle.std.proofs.lemmas.List.{take_rest}
use Rattle.lwe.specs.Limits.{dimensions}
use Rattle.wire.specs.declared.kind.Kind.TheVariants.{Answer}
use Rattle.wire.specs.Bytes.{numbers_of}
use Rattle.wire.proofs.Readings.{taken, answer_stated}
use Rattle.wire.proofs.reading.read_answer.Goals as goal

pub returns : goal.returns
returns c =
    let s = dimensions c.args.sizes.now in
    let m = c.args.message.now in
    let read = c.in_ok-number.ensures in
    let cut = c.split_at.ensures in
    let states = answer_stated s m _ _ _ c.in_ok-number.number read.1.0 (take_rest m 16)
    (c.new.ensures ∙ ap numbers_of cut.front) (c.new-2.ensures ∙ ap numbers_of cut.back) in
    (read.0, taken s Answer m read.0 (λ i. omega (arith, c.type_inv.message i)) _ states)
