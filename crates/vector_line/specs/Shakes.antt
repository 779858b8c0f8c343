-- What `shake128 HEX LENGTH` prints. Assumes nothing.
use Rattle.std.specs.Prelude.{ℕ, cond, List, [], Some, codes, Option}
use Rattle.keccak.specs.Sponge.{shake128}
use Rattle.std.specs.Str.{bytes_eq}
use Rattle.text.specs.Hex.{bytes_of, hex_of}
use Rattle.text.specs.Numbers.{followed, decimal_value}
use Rattle.vector_line.specs.Arguments.{Word, two_words}

-- the message that a word writes in hex; `-` is the empty one
abbrev pub message_of : Word → Option (List ℕ)
message_of word = cond (bytes_eq word (codes "-")) (Some []) (bytes_of word)

-- the first bytes of SHAKE128 of a message, in hex
abbrev pub shake_line : List Word → Option (List ℕ)
shake_line words =
    followed (two_words words)
    (λ w. followed (message_of w.0) (λ message. followed (decimal_value w.1) (λ length. Some (hex_of (shake128 message length)))))
