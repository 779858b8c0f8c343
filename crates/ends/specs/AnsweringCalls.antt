-- The calls of an answering end: which refusal comes first, and what a call leaves. Assumes nothing.
use Rattle.std.specs.Prelude.{◌≡◌, ℕ, ◌*◌, List, length, take, replicate, None, Option, Result, MatchResult, nat_le, nat_lt}
use Rattle.consensus.specs.Consensus.{hints_of}
use Rattle.lwe.specs.Matrices.{by_rows}
use Rattle.wire.specs.Bytes.{number_at}
use Rattle.wire.specs.Headers.{message_length, header_fault}
use Rattle.wire.specs.Messages.{Fields, answer, encode, decode, number_fault}
use Rattle.wire.specs.declared.fault.WireFault.TheVariants.{Room}
use Rattle.wire.specs.declared.kind.Kind.TheVariants.{Offer, Answer}
use Rattle.ends.specs.declared.answering.AnsweringState.{AnsweringState}
use Rattle.ends.specs.declared.fault.EndFault.{EndFault}
use Rattle.ends.specs.declared.fault.EndFault.TheVariants.{State, Number, Again, Message}
use Rattle.ends.specs.AnsweringStates.{answered, heard, holds_key, settled}
use Rattle.ends.specs.Calls.{of_message, seed_fault, written}
use Rattle.ends.specs.Draws.{draw_fault}
use Rattle.ends.specs.Refusals.{check, first_of, unless}
use Rattle.ends.specs.Settings.{Setting, extent, hear_needs}

-- ---- hear

-- what is looked at in the offer: its header, its number, its entries
abbrev pub offer_fault : Setting → AnsweringState → List ℕ → Option EndFault
offer_fault s state message =
    first_of (of_message (header_fault (extent s) Offer message))
    (check (nat_le state.number (number_at message 2)) Number
    (check (nat_lt state.number (number_at message 2)) Again (of_message (number_fault s.rule.modulus s.rule.hints (decode (extent s) Offer message)))))

-- what is looked at of the call itself
abbrev pub hear_checks : Setting → List ℕ → (room : ℕ) → Option EndFault
hear_checks s words room = check (nat_le (message_length (extent s) Answer) room) (Message Room) (draw_fault (hear_needs s) words)

abbrev pub hear_fault : Setting → AnsweringState → (message words : List ℕ) → (room : ℕ) → Option EndFault
hear_fault s state message words room =
    first_of (offer_fault s state message)
    (first_of (hear_checks s words room) (seed_fault s.matrices (decode (extent s) Offer message).seed))

-- the session that is heard
abbrev pub hearing : Setting → (message words : List ℕ) → AnsweringState
hearing s message words =
    let offer = decode (extent s) Offer message in
    heard s offer.session offer.seed offer.entries words

-- the answer to an offer
abbrev pub answer_of : Setting → (message words : List ℕ) → Fields
answer_of s message words =
    let offer = decode (extent s) Offer message in
    answer offer.session
    (by_rows s.matrices.side s.lb (answered s.rule.modulus s.matrices.side s.lb s.matrices s.law offer.seed words))
    (hints_of (settled s.matrices.side s.la s.lb s.rule s.law offer.entries words))

pub record Hears (s : Setting) (message words words' room out : List ℕ) (before after : AnsweringState) (r : Result ℕ EndFault) : Type 0 where
  pub answer : r ≡ unless (hear_fault s before message words (length room)) (message_length (extent s) Answer)
  pub wiped : words' ≡ replicate (length words) 0
  pub cases : MatchResult r
      (λ _. (after ≡ hearing s message words) × (out ≡ written (encode (extent s) Answer (answer_of s message words)) room))
      (λ _. (after ≡ before) × (out ≡ room))

-- ---- answer_again

abbrev pub again_fault : Setting → AnsweringState → (room : ℕ) → Option EndFault
again_fault s state room =
    check (holds_key state.phase) State (check (nat_le (message_length (extent s) Answer) room) (Message Room) None)

-- the answer that a state keeps
abbrev pub kept_answer : Setting → AnsweringState → Fields
kept_answer s state = answer state.number (take (s.matrices.side * s.lb) state.image) (take (s.la * s.lb) state.hints)

pub record AnswersAgain (s : Setting) (room out : List ℕ) (state : AnsweringState) (r : Result ℕ EndFault) : Type 0 where
  pub answer : r ≡ unless (again_fault s state (length room)) (message_length (extent s) Answer)
  pub cases : MatchResult r (λ _. out ≡ written (encode (extent s) Answer (kept_answer s state)) room) (λ _. out ≡ room)
