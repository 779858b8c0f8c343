use Rattle.std.proofs.lemmas.Result.{err_from_is_err_and}
use Rattle.ends.proofs.SameEnds.{same_works}
use Rattle.ends.proofs.works.Works.look_up.Goals as goal

pub returns-in_err-turn-clause-refused : goal.returns-in_err-turn-clause-refused
returns-in_err-turn-clause-refused g c =
    let p = err_from_is_err_and c.from_residual.result c.from_residual.ensures.1 in
    rw p.1 (same_works c.args.self.now (c.turn.ensures.refused c.in_err-turn.field-0.0 c.in_err-turn.was))
