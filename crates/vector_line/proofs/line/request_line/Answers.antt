use Rattle.std.proofs.Common.{◌≡◌, codes, rules, arith}
use Rattle.std.proofs.lemmas.Slice.Eq.{text_from_reads}
use Rattle.vector_line.proofs.line.request_line.Goals as goal

pub returns-in-shake128 : goal.returns-in-shake128
returns-in-shake128 c =
    let is : c.args.name.now ≡ codes "shake128" = text_from_reads c.args.name.now (codes "shake128") (omega arith) (search rules) in
    rw is c.shake_line.ensures
