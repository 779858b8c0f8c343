-- What the checks of an opening end come to. Assumes nothing.
use Rattle.std.proofs.Common.{◌≡◌, ℕ, ◌*◌, ◌^◌, ◌<◌, ◌≤◌, true, not, eqb, ltb, List, length, get_or, None, ◌∙◌, arith, lt-ltb, eqb-true}
use Rattle.noise.specs.Laws.{width_of}
use Rattle.lwe.specs.Exchange.{Σ1}
use Rattle.lwe.specs.Matrices.{by_rows, padded, signed}
use Rattle.wire.specs.Bytes.{number_at}
use Rattle.wire.specs.Headers.{header_fault}
use Rattle.wire.specs.Messages.{decode, number_fault}
use Rattle.wire.specs.declared.kind.Kind.TheVariants.{Answer}
use Rattle.ends.specs.declared.fault.EndFault.TheVariants.{Again, Number, State}
use Rattle.ends.specs.declared.opening.OpeningPhase.TheVariants.{Keyed}
use Rattle.ends.specs.declared.opening.OpeningState.{OpeningState}
use Rattle.ends.specs.Draws.{draw_fault}
use Rattle.ends.specs.Keys.{recover_all}
use Rattle.ends.specs.OpeningStates.{holds_key, keyed}
use Rattle.ends.specs.Calls.{of_message}
use Rattle.ends.specs.OpeningCalls.{open_session, take_fault}
use Rattle.ends.specs.Refusals.{check, first_of}
use Rattle.ends.specs.Settings.{Setting, extent, open_needs}
use Rattle.ends.proofs.Arrays.{plain_padded}
use Rattle.ends.proofs.Checking.{check_passed, first_none, words_count, words_below}

-- words as opening needs them
module _ (s : Setting) (words : List ℕ) (fine : draw_fault (open_needs s) words ≡ None) where
  pub open_count : length words ≡ 2 * (s.matrices.side * s.la)
  open_count = words_count (open_needs s) words fine ∙ omega arith

  pub open_below : (k : ℕ) → k < length words → get_or words k 0 < 2 ^ width_of s.law
  open_below k h =
      let noise : ltb k (2 * (s.matrices.side * s.la)) ≡ true = lt-ltb k (2 * (s.matrices.side * s.la)) (omega (arith, open_count)) in
      rw noise at (words_below (open_needs s) words fine k h)

-- an answer that is taken bears the session's number
pub take_number : (s : Setting) (state : OpeningState) (message : List ℕ) → take_fault s state message ≡ None → number_at message 2 ≡ state.number
take_number s state message none =
    let last = of_message (number_fault s.rule.modulus s.rule.hints (decode (extent s) Answer message)) in
    let third = check (not (holds_key state.phase)) Again last in
    let second = check (eqb (number_at message 2) state.number) Number third in
    let header = of_message (header_fault (extent s) Answer message) in
    let after_state = (check_passed (open_session state.phase) State (first_of header second) none).1 in
    let after_header = (first_none header second after_state).1 in
    eqb-true (number_at message 2) state.number (check_passed (eqb (number_at message 2) state.number) Number third after_header).0

-- the key that comes of entries at the front of an array
pub keyed_entries : (s : Setting) (y2 hints : List ℕ) (before : OpeningState) → length y2 ≤ 8192 → keyed s (padded 0 8192 y2) hints before ≡ keyed s y2 hints before
keyed_entries s y2 hints before fits = λ i. record {
  phase = Keyed;
  number = before.number;
  seed = before.seed;
  secret = before.secret;
  image = before.image;
  digits = padded 0 64 (recover_all s.rule (by_rows s.la s.lb (Σ1 s.rule.modulus s.matrices.side (signed s.la before.secret) (plain_padded s.lb 8192 y2 fits i))) hints);
  noise = before.noise;
}
