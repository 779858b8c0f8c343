use Rattle.std.proofs.Common.{◌≡◌, map, length, replicate, pos}
use lib.Seq.{paste}
use Rattle.noise.specs.Laws.{value_of}
use Rattle.noise.specs.Replies.{number_of}
use Rattle.ends.proofs.draws.sample.Given as goal

abbrev pub invariant-loop-k : goal.invariant-loop-k
invariant-loop-k l = l.values ≡ paste (replicate (length l.initial.values) (pos 0)) 0 (map (value_of (number_of l.law)) l.words) l.k
