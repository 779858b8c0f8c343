use Rattle.std.proofs.Common.{◌≡◌, length, replicate}
use lib.Seq.{paste}
use Rattle.ends.specs.Keys.{recover_all}
use Rattle.ends.proofs.places.recover_places.Given as goal

abbrev pub invariant-loop-k : goal.invariant-loop-k
invariant-loop-k g l = l.digits ≡ paste (replicate (length l.initial.digits) 0) 0 (recover_all (g.R.Rule.meaning l.rule) l.sums l.hints) l.k
