use Rattle.std.proofs.Common.{◌≡◌, vec_items}
use Rattle.vector_line.specs.Rows.{entries_to}
use Rattle.vector_line.proofs.row.turned_entries.Given as goal

abbrev pub invariant-loop-j : goal.invariant-loop-j
invariant-loop-j g l =
    vec_items l.entries ≡ entries_to (g.S.MatrixSource.meaning l.source) (g.S.MatrixSource.turned l.source) l.j
