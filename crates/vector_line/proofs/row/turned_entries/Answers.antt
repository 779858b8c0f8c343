use Rattle.std.proofs.Common.{vec_items, sym, ◌∙◌}
use Rattle.vector_line.proofs.Steps.{one_more}
use Rattle.vector_line.proofs.row.turned_entries.Goals as goal

pub loop-j-preserved : goal.loop-j-preserved
loop-j-preserved g c =
    one_more (g.S.MatrixSource.meaning c.args.source.now) (g.S.MatrixSource.turned c.args.source.now) c.loop-j.j c.unwrap.result
    (vec_items c.loop-j.entries) (vec_items c.push.new.self)
    (sym c.unwrap.ensures ∙ c.column.ensures) c.loop-j.invariant c.in_ok-push.ensures.items
