use Rattle.std.proofs.Common.{ap, ◌∙◌, arith}
use Rattle.std.proofs.lemmas.List.{take_rest}
use Rattle.lwe.specs.Limits.{dimensions}
use Rattle.wire.specs.declared.kind.Kind.TheVariants.{Offer}
use Rattle.wire.specs.Bytes.{numbers_of}
use Rattle.wire.proofs.Readings.{taken, offer_stated}
use Rattle.wire.proofs.reading.read_offer.Goals as goal

pub returns : goal.returns
returns c =
    let s = dimensions c.args.sizes.now in
    let m = c.args.message.now in
    let read = c.in_ok-number.ensures in
    let cut = rw c.unwrap.ensures at c.split_first_chunk.ensures.cases in
    let states = offer_stated s m _ _ _ c.in_ok-number.number read.1.1 read.1.0 (take_rest m 16) cut.0 (c.new.ensures ∙ ap numbers_of cut.1) in
    (read.0, taken s Offer m read.0 (λ i. omega (arith, c.type_inv.message i)) _ states)
