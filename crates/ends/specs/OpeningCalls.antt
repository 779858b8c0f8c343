-- The calls of an opening end: which refusal comes first, and what a call leaves. Assumes nothing.
use Rattle.std.specs.Prelude.{◌≡◌, ℕ, ◌+◌, ◌*◌, Bool, true, false, not, List, length, take, replicate, None, Option, Result, MatchResult, ◌==◌, nat_le, nat_lt}
use Rattle.lwe.specs.Matrices.{by_rows}
use Rattle.wire.specs.Bytes.{number_at}
use Rattle.wire.specs.Headers.{message_length, header_fault}
use Rattle.wire.specs.Messages.{Fields, offer, encode, decode, number_fault}
use Rattle.wire.specs.declared.fault.WireFault.TheVariants.{Room}
use Rattle.wire.specs.declared.kind.Kind.TheVariants.{Offer, Answer}
use Rattle.ends.specs.declared.fault.EndFault.{EndFault}
use Rattle.ends.specs.declared.fault.EndFault.TheVariants.{State, Spent, Number, Again, Message}
use Rattle.ends.specs.declared.opening.OpeningPhase.{OpeningPhase}
use Rattle.ends.specs.declared.opening.OpeningPhase.TheVariants.{Idle, Waiting, Keyed}
use Rattle.ends.specs.declared.opening.OpeningState.{OpeningState}
use Rattle.ends.specs.Draws.{draw_fault}
use Rattle.ends.specs.Calls.{of_message, seed_fault, written}
use Rattle.ends.specs.OpeningStates.{holds_key, opened, offered, keyed}
use Rattle.ends.specs.Refusals.{check, first_of, unless}
use Rattle.ends.specs.Settings.{Setting, extent, open_needs}

-- ---- open

-- what is looked at before the seed
abbrev pub open_checks : Setting → OpeningState → List ℕ → (room : ℕ) → Option EndFault
open_checks s state words room =
    check (nat_lt state.number 65535) Spent
    (check (nat_le (message_length (extent s) Offer) room) (Message Room) (draw_fault (open_needs s) words))

abbrev pub open_fault : Setting → OpeningState → (seed words : List ℕ) → (room : ℕ) → Option EndFault
open_fault s state seed words room =
    first_of (open_checks s state words room) (seed_fault s.matrices seed)

-- the session that is opened
abbrev pub opening : Setting → OpeningState → (seed words : List ℕ) → OpeningState
opening s before seed words = opened s (before.number + 1) seed words

-- the offer of a session that words have drawn
abbrev pub offer_of : Setting → (session : ℕ) → (seed words : List ℕ) → Fields
offer_of s session seed words =
    offer session seed (by_rows s.matrices.side s.la (offered s.rule.modulus s.matrices.side s.la s.matrices s.law seed words))

pub record Opens (s : Setting) (seed words words' room out : List ℕ) (before after : OpeningState) (r : Result ℕ EndFault) : Type 0 where
  pub answer : r ≡ unless (open_fault s before seed words (length room)) (message_length (extent s) Offer)
  pub wiped : words' ≡ replicate (length words) 0
  pub cases : MatchResult r
      (λ _. (after ≡ opening s before seed words) × (out ≡ written (encode (extent s) Offer (offer_of s (before.number + 1) seed words)) room))
      (λ _. (after ≡ before) × (out ≡ room))

-- ---- offer_again

abbrev pub waits : OpeningPhase → Bool
waits Idle = false
waits Waiting = true
waits Keyed = false

abbrev pub again_fault : Setting → OpeningState → (room : ℕ) → Option EndFault
again_fault s state room =
    check (waits state.phase) State (check (nat_le (message_length (extent s) Offer) room) (Message Room) None)

-- the offer that a state keeps
abbrev pub kept_offer : Setting → OpeningState → Fields
kept_offer s state = offer state.number state.seed (take (s.matrices.side * s.la) state.image)

pub record OffersAgain (s : Setting) (room out : List ℕ) (state : OpeningState) (r : Result ℕ EndFault) : Type 0 where
  pub answer : r ≡ unless (again_fault s state (length room)) (message_length (extent s) Offer)
  pub cases : MatchResult r (λ _. out ≡ written (encode (extent s) Offer (kept_offer s state)) room) (λ _. out ≡ room)

-- ---- take_answer

abbrev pub open_session : OpeningPhase → Bool
open_session Idle = false
open_session Waiting = true
open_session Keyed = true

abbrev pub take_fault : Setting → OpeningState → List ℕ → Option EndFault
take_fault s state message =
    check (open_session state.phase) State
    (first_of (of_message (header_fault (extent s) Answer message))
    (check (number_at message 2 == state.number) Number
    (check (not (holds_key state.phase)) Again (of_message (number_fault s.rule.modulus s.rule.hints (decode (extent s) Answer message))))))

-- the session with the key that the answer gives
abbrev pub taking : Setting → OpeningState → List ℕ → OpeningState
taking s before message =
    let answer = decode (extent s) Answer message in keyed s answer.entries answer.hints before

pub record Takes (s : Setting) (message : List ℕ) (before after : OpeningState) (r : Result ℕ EndFault) : Type 0 where
  pub answer : r ≡ unless (take_fault s before message) before.number
  pub cases : MatchResult r (λ _. after ≡ taking s before message) (λ _. after ≡ before)
