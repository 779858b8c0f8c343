-- What the checks of an answering end come to. Assumes nothing.
use Rattle.std.proofs.Common.{◌≡◌, ℕ, ◌+◌, ◌*◌, ◌^◌, ◌<◌, ◌≤◌, true, false, ltb, leb, List, length, get_or, None, sym, ap, ◌∙◌, subst, arith, le-ltb, lt-ltb, le-leb}
use Rattle.consensus.specs.Consensus.{Consensus, hints_of}
use Rattle.noise.specs.Laws.{width_of}
use Rattle.lwe.specs.Limits.{Dimensions, Holds, dimensions}
use Rattle.lwe.specs.declared.sizes.Sizes.{Sizes}
use Rattle.lwe.specs.Exchange.{Σ2}
use Rattle.lwe.specs.Matrices.{plain, signed}
use Rattle.wire.specs.Bytes.{number_at}
use Rattle.wire.specs.Headers.{header_fault, message_length}
use Rattle.wire.specs.Messages.{Fields, Taken, number_fault}
use Rattle.wire.specs.declared.fault.WireFault.TheVariants.{Room}
use Rattle.wire.specs.declared.kind.Kind.TheVariants.{Answer, Offer}
use Rattle.ends.specs.declared.answering.AnsweringState.{AnsweringState}
use Rattle.ends.specs.declared.fault.EndFault.TheVariants.{Message}
use Rattle.ends.specs.AnsweringCalls.{offer_fault, hear_checks}
use Rattle.ends.specs.AnsweringStates.{drawn_X2, drawn_Eσ, rule_draws, settled, sums}
use Rattle.ends.specs.Calls.{of_message}
use Rattle.ends.specs.Draws.{draw_fault}
use Rattle.ends.specs.Settings.{Setting, extent, hear_needs}
use Rattle.ends.proofs.Arrays.{length_by_rows}
use Rattle.ends.proofs.Checking.{check_passed, words_count, words_below}
use Rattle.ends.proofs.Drawing.{last_count}
use Rattle.ends.proofs.Limits.{dimensions_are}
use Rattle.ends.proofs.Settling.{length_hints}

-- an offer whose header was read, by sizes that are those of the end
module _ (s : Setting) (state : AnsweringState) (message : List ℕ) (z : Sizes) (fields : Fields) (holds : Holds s.rule.modulus s.matrices.side s.la s.lb z)
    (none : header_fault (dimensions z) Offer message ≡ None) (taken : Taken (dimensions z) Offer message fields) where
  dims : dimensions z ≡ extent s
  dims = dimensions_are s z holds

  pub offer_taken : Taken (extent s) Offer message fields
  offer_taken = subst (λ (d : Dimensions). Taken d Offer message fields) dims taken

  header_fine : header_fault (extent s) Offer message ≡ None
  header_fine = ap (λ (d : Dimensions). header_fault d Offer message) (sym dims) ∙ none

  stated : number_at message 2 ≡ fields.session
  stated = sym (ap (λ (f : Fields). f.session) offer_taken.decoded)

  pub offer_numbers : state.number < fields.session → offer_fault s state message ≡ of_message (number_fault z.q s.rule.hints fields)
  offer_numbers newer =
      let low = le-leb state.number (number_at message 2) (omega (arith, stated)) in
      let high = lt-ltb state.number (number_at message 2) (omega (arith, stated)) in
      rw (header_fine, low, high) (λ i. of_message (number_fault (sym holds.modulus i) s.rule.hints (sym offer_taken.decoded i)))

-- a call whose buffer and words are as needed
module _ (s : Setting) (words : List ℕ) (room : ℕ) (none : hear_checks s words room ≡ None) where
  pub hear_drawn : draw_fault (hear_needs s) words ≡ None
  hear_drawn = (check_passed (leb (message_length (extent s) Answer) room) (Message Room) (draw_fault (hear_needs s) words) none).1

-- words as hearing needs them
module _ (s : Setting) (words : List ℕ) (fine : draw_fault (hear_needs s) words ≡ None) where
  pub hear_count : length words ≡ s.matrices.side * s.lb + (s.matrices.side * s.lb + (s.la * s.lb + s.la * s.lb))
  hear_count = words_count (hear_needs s) words fine ∙ omega arith

  pub hear_noise : (k : ℕ) → k < s.matrices.side * s.lb + (s.matrices.side * s.lb + s.la * s.lb) → get_or words k 0 < 2 ^ width_of s.law
  hear_noise k h =
      let noise : ltb k (s.matrices.side * s.lb + (s.matrices.side * s.lb + s.la * s.lb)) ≡ true = lt-ltb k (s.matrices.side * s.lb + (s.matrices.side * s.lb + s.la * s.lb)) h in
      rw noise at (words_below (hear_needs s) words fine k (omega (arith, hear_count)))

  pub hear_draws : (k : ℕ) → s.matrices.side * s.lb + (s.matrices.side * s.lb + s.la * s.lb) ≤ k → k < length words → get_or words k 0 < s.rule.draws
  hear_draws k from h =
      let draw : ltb k (s.matrices.side * s.lb + (s.matrices.side * s.lb + s.la * s.lb)) ≡ false = le-ltb k (s.matrices.side * s.lb + (s.matrices.side * s.lb + s.la * s.lb)) from in
      rw draw at (words_below (hear_needs s) words fine k h)

-- as many hints as places
pub hints_count : (n la lb : ℕ) (rule : Consensus) (law : ℕ) (y1 words : List ℕ) → length words ≡ n * lb + (n * lb + (la * lb + la * lb)) → length (hints_of (settled n la lb rule law y1 words)) ≡ la * lb
hints_count n la lb rule law y1 words count =
    let long = length_by_rows la lb (Σ2 rule.modulus n (plain la y1) (signed lb (drawn_X2 n lb law words)) (signed lb (drawn_Eσ n la lb law words))) in
    let draws = last_count 0 (n * lb) (la * lb) words count in
    length_hints rule (sums rule.modulus n la lb law y1 words) (rule_draws n la lb words) (omega arith) ∙ draws
