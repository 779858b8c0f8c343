use Rattle.std.proofs.Common.{◌/◌, length, refl, ap, ◌∙◌, map}
use Rattle.wire.specs.Views.{pair_number}
use Rattle.wire.proofs.Laws.{pairs_numbers}
use Rattle.wire.proofs.numbers.Numbers.new.Goals as goal

pub returns : goal.returns
returns c =
    let bytes = c.args.bytes.now in
    ap (map pair_number) c.as_chunks.ensures.front ∙ pairs_numbers (length bytes / 2) bytes refl
