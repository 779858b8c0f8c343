use Rattle.std.proofs.Common.{◌≡◌, ◌*◌, take}
use lib.Seq.{paste}
use Rattle.wire.specs.Bytes.{bytes_of}
use Rattle.wire.proofs.bytes.put_numbers.Given as goal

abbrev pub invariant-loop-i : goal.invariant-loop-i
invariant-loop-i l = l.out ≡ paste l.initial.out l.place (bytes_of (take l.i l.numbers)) (2 * l.i)
