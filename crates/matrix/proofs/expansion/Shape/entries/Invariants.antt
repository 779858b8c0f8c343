use Rattle.std.proofs.Common.{◌≡◌, ◌^◌, map, length, take}
use Rattle.std.specs.List.{range_with_len}
use Rattle.matrix.specs.Expansion.{entry_at}
use Rattle.matrix.proofs.expansion.Shape.entries.Given as goal

abbrev pub invariant-loop-j : goal.invariant-loop-j
invariant-loop-j l = (length l.row ≡ 1024) × (take l.j l.row ≡ map (entry_at (2 ^ l.self.bits) l.bytes) (range_with_len 0 l.j))
