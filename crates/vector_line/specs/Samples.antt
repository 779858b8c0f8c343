-- What `noise LAW WORD` prints. Assumes nothing.
use Rattle.std.specs.Prelude.{ℕ, List, ℤ, Some, Ok, Err, Option, Result}
use Rattle.noise.specs.Faults.{number}
use Rattle.noise.specs.Replies.{law_reply, value_reply}
use Rattle.noise.specs.declared.fault.NoiseFault.{NoiseFault}
use Rattle.std.specs.Fmt.{signed_decimal}
use Rattle.text.specs.Numbers.{followed, decimal_value}
use Rattle.vector_line.specs.Arguments.{Word, two_words}
use Rattle.vector_line.specs.Refusals.{granted, refusal_text}

-- the value that a law sends a word to: the law is looked up, and then the word
abbrev pub sample_reply : ℕ → ℕ → Result ℤ NoiseFault
sample_reply law word = granted (law_reply law) (λ known. value_reply known word)

-- the value, or the number of the refusal
abbrev pub sample_text : Result ℤ NoiseFault → List ℕ
sample_text (Ok value) = signed_decimal value
sample_text (Err fault) = refusal_text (number fault)

abbrev pub sample_line : List Word → Option (List ℕ)
sample_line words =
    followed (two_words words)
    (λ w.
    followed (decimal_value w.0) (λ law. followed (decimal_value w.1) (λ word. Some (sample_text (sample_reply law word)))))
