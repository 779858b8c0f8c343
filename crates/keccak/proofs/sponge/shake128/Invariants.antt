use Rattle.std.proofs.Common.{◌≡◌, ◌+◌, ◌-◌, ◌*◌, ◌++◌, take}
use Rattle.keccak.specs.Sponge.{rate, squeeze}
use Rattle.keccak.proofs.sponge.shake128.Given as goal

-- what is written and what the state still gives are the blocks of the output
abbrev pub invariant-loop-i : goal.invariant-loop-i
invariant-loop-i l =
    take (rate * l.i) l.out ++ squeeze (l.before + 1 - l.i) l.state ≡ squeeze (l.before + 1) l.initial.state
