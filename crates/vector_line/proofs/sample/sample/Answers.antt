use Rattle.std.proofs.Common.{◌≡◌, ℕ, ◌^◌, ◌<◌, ◌≤◌, Ok, Err, Result, refl, ap, ◌∙◌, arith, rules}
use Rattle.noise.specs.Laws.{width_of, value_of}
use Rattle.noise.specs.Replies.{number_of, law_reply, value_reply}
use Rattle.noise.specs.declared.fault.NoiseFault.{NoiseFault}
use Rattle.noise.specs.declared.fault.NoiseFault.TheVariants.{Law, Word}
use Rattle.noise.specs.declared.law.NoiseLaw.{NoiseLaw}
use Rattle.noise.proofs.Checked.{number_small, words_end}
use Rattle.std.specs.Result.{OkIff, result_or}
use Rattle.std.proofs.lemmas.Bool.{cond_above}
use Rattle.vector_line.specs.Refusals.{granted}
use Rattle.vector_line.specs.Samples.{sample_reply}
use Rattle.vector_line.proofs.sample.sample.Goals as goal

-- the word was too large for its type
too_large : {E : Type 0} (r : Result ℕ E) (o : Result ℕ NoiseFault) (word : ℕ) (fault : NoiseFault)
    → OkIff r (word < 65536) word → o ≡ result_or r (Err Word) → o ≡ Err fault → (65536 ≤ word) × (fault ≡ Word)
too_large (Ok x) o word fault h e was = cc
too_large (Err e) o word fault h is was = (omega (arith, h), cc)

-- the number fits its type
kept : {E : Type 0} (P : Type 0) (r : Result ℕ E) (o : Result ℕ NoiseFault) (number x : ℕ) (fault : NoiseFault) → OkIff r P number → o ≡ result_or r (Err fault) → o ≡ Ok x → x ≡ number
kept P (Ok y) o number x fault h e was = cc
kept P (Err e) o number x fault h is was = cc

-- a word that is too large for its type is out of range
word_refused : (number : ℕ) (law : NoiseLaw) (word : ℕ) → Ok (number_of law) ≡ law_reply number → 65536 ≤ word → Err Word ≡ sample_reply number word
word_refused number law word e h =
    let known = number_of law in
    cond_above word (2 ^ width_of known) (Ok (value_of known word)) (Err Word) (Err Word) (omega (arith, words_end known (number_small law))) refl
    ∙ ap (λ reply. granted reply (λ law. value_reply law word)) e

pub returns-in_err-word : goal.returns-in_err-word
returns-in_err-word c =
    let large = too_large c.try_from-3.result c.or-2.result c.args.word c.in_err-word.field-0.0 c.try_from-3.ensures c.or-2.ensures c.in_err-word.was in
    let b : c.from_residual-in_err-word.result ≡ Err c.in_err-word.field-0.0 = search rules in
    let law = kept _ c.try_from.result c.or.result c.args.law c.in_ok-law.law Law c.try_from.ensures c.or.ensures c.in_ok-law.was in
    b ∙ ap Err large.1 ∙ word_refused c.args.law c.in_ok-law-2.law c.args.word (c.in_ok-law-2.ensures ∙ ap law_reply law) large.0
