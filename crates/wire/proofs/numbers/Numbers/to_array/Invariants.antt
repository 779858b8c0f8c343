use Rattle.std.proofs.Common.{◌≡◌, replicate}
use lib.Seq.{paste}
use Rattle.wire.specs.Views.{list}
use Rattle.wire.proofs.numbers.Numbers.to_array.Given as goal

abbrev pub invariant-loop-i : goal.invariant-loop-i
invariant-loop-i g l = l.array ≡ paste (replicate g.row.N 0) 0 (list l.self) l.i
