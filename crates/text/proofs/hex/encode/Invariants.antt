use Rattle.std.proofs.Common.{◌≡◌, ◌++◌, drop, string_bytes}
use Rattle.text.specs.Hex.{hex_of}
use Rattle.text.proofs.hex.encode.Given as goal

-- what is left gives the rest of the text
abbrev pub invariant-loop-byte : goal.invariant-loop-byte
invariant-loop-byte l = hex_of l.bytes ≡ string_bytes l.text ++ hex_of (drop l.byte-index l.bytes)
