use Rattle.std.proofs.Common.{◌≡◌, ◌*◌, length, take, drop}
use Rattle.text.specs.Hex.{bytes_of}
use Rattle.text.proofs.Pairing.{after}
use Rattle.text.proofs.hex.decode_into.Given as goal

-- what is left gives the rest of the bytes
abbrev pub invariant-loop-i : goal.invariant-loop-i
invariant-loop-i l = (length l.word ≡ 2 * length l.bytes) × (bytes_of l.word ≡ after (take l.i l.bytes) (bytes_of (drop (2 * l.i) l.word)))
