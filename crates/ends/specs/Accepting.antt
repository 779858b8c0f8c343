-- A message that an end takes in. Assumes nothing.
use Rattle.std.specs.Prelude.{◌≡◌, ℕ, List, Some, None, Result, MatchResult}
use Rattle.wire.specs.Messages.{Taken, InRange}
use Rattle.wire.specs.Views.{answered, offered}
use Rattle.wire.specs.declared.kind.Kind.TheVariants.{Answer, Offer}
use Rattle.wire.specs.declared.reading.Answer as reading
use Rattle.wire.specs.declared.reading.Offer as reading_offer
use Rattle.ends.specs.declared.answering.AnsweringState.{AnsweringState}
use Rattle.ends.specs.declared.fault.EndFault.{EndFault}
use Rattle.ends.specs.declared.opening.OpeningState.{OpeningState}
use Rattle.ends.specs.AnsweringCalls.{offer_fault}
use Rattle.ends.specs.OpeningCalls.{take_fault}
use Rattle.ends.specs.Settings.{Setting, extent}

-- an answer that nothing is wrong with, its numbers in range; or the first fault
abbrev pub Accepts : Setting → OpeningState → List ℕ → Result reading.Answer EndFault → Type 0
Accepts s state message r =
    MatchResult r
    (λ answer. (take_fault s state message ≡ None) × Taken (extent s) Answer message (answered answer) × InRange s.rule.modulus s.rule.hints (answered answer))
    (λ fault. take_fault s state message ≡ Some fault)

abbrev pub AcceptsOffer : Setting → AnsweringState → List ℕ → Result reading_offer.Offer EndFault → Type 0
AcceptsOffer s state message r =
    MatchResult r
    (λ offer. (offer_fault s state message ≡ None) × Taken (extent s) Offer message (offered offer) × InRange s.rule.modulus s.rule.hints (offered offer))
    (λ fault. offer_fault s state message ≡ Some fault)
