use Rattle.std.proofs.Common.{◌≡◌, ◌*◌, drop, vec_items}
use Rattle.text.specs.Hex.{bytes_of}
use Rattle.text.proofs.Pairing.{after}
use Rattle.text.proofs.hex.decode.Given as goal

-- what is left gives the rest of the bytes
abbrev pub invariant-loop-i : goal.invariant-loop-i
invariant-loop-i l = bytes_of l.word ≡ after (vec_items l.bytes) (bytes_of (drop (2 * l.i) l.word))
