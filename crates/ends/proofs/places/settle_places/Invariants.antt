use Rattle.std.proofs.Common.{◌≡◌, length, replicate}
use lib.Seq.{paste}
use Rattle.consensus.specs.Consensus.{settle_all, digits_of, hints_of}
use Rattle.ends.proofs.places.settle_places.Given as goal

abbrev pub invariant-loop-k : goal.invariant-loop-k
invariant-loop-k g l =
    let settled = settle_all (g.R.Rule.meaning l.rule) l.sums l.draws in
    (l.digits ≡ paste (replicate (length l.initial.digits) 0) 0 (digits_of settled) l.k)
    × (l.hints ≡ paste (replicate (length l.initial.hints) 0) 0 (hints_of settled) l.k)
