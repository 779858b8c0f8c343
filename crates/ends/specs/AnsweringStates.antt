-- What an answering end holds, and what the steps of its sessions leave. Assumes nothing.
use Rattle.std.specs.Prelude.{ℕ, ◌*◌, Bool, true, false, cond, Some, None, Option, List, map, take, drop, replicate, ℤ, pos}
use Rattle.consensus.specs.Consensus.{Consensus, settle_all, digits_of, hints_of}
use Rattle.matrix.specs.Matrices.{Matrices}
use Rattle.noise.specs.Laws.{value_of}
use Rattle.lwe.specs.Exchange.{Y2, Σ2}
use Rattle.lwe.specs.Images.{public_matrix}
use Rattle.lwe.specs.Matrices.{Residues, by_rows, padded, plain, signed}
use Rattle.ends.specs.declared.answering.AnsweringPhase.{AnsweringPhase}
use Rattle.ends.specs.declared.answering.AnsweringPhase.TheVariants.{Idle, Keyed}
use Rattle.ends.specs.declared.answering.AnsweringState.{AnsweringState}
use Rattle.ends.specs.Settings.{Setting}

-- behind the words of X2, E2 and Eσ stand the draws of the rule
abbrev pub rule_draws : (n la lb : ℕ) → List ℕ → List ℕ
rule_draws n la lb words = drop (la * lb) (drop (n * lb) (drop (n * lb) words))

-- X2, E2 and Eσ, each row by row
abbrev pub drawn_X2 : (n lb law : ℕ) → List ℕ → List ℤ
drawn_X2 n lb law words = map (value_of law) (take (n * lb) words)

abbrev pub drawn_E2 : (n lb law : ℕ) → List ℕ → List ℤ
drawn_E2 n lb law words = map (value_of law) (take (n * lb) (drop (n * lb) words))

abbrev pub drawn_Eσ : (n la lb law : ℕ) → List ℕ → List ℤ
drawn_Eσ n la lb law words = map (value_of law) (take (la * lb) (drop (n * lb) (drop (n * lb) words)))

-- Y2 of what the words draw
abbrev pub answered : (q n lb : ℕ) → Matrices → (law : ℕ) → List ℕ → List ℕ → Residues
answered q n lb m law seed words =
    Y2 q n (public_matrix m seed) (signed lb (drawn_X2 n lb law words)) (signed lb (drawn_E2 n lb law words))

-- the sums that come of an offer
abbrev pub sums : (q n la lb law : ℕ) → List ℕ → List ℕ → List ℕ
sums q n la lb law y1 words =
    by_rows la lb (Σ2 q n (plain la y1) (signed lb (drawn_X2 n lb law words)) (signed lb (drawn_Eσ n la lb law words)))

-- each of them settled with a draw: digits and hints
abbrev pub settled : (n la lb : ℕ) → Consensus → (law : ℕ) → List ℕ → List ℕ → List (ℕ × ℕ)
settled n la lb rule law y1 words = settle_all rule (sums rule.modulus n la lb law y1 words) (rule_draws n la lb words)

-- no key, but for the number of the latest session
abbrev pub blank : ℕ → AnsweringState
blank session = record {
  phase = Idle;
  number = session;
  image = replicate 8192 0;
  hints = replicate 64 0;
  digits = replicate 64 0;
  secret = replicate 8192 (pos 0);
  noise = replicate 8192 (pos 0);
  sum_noise = replicate 64 (pos 0);
}

-- nothing is left of a session but its number
abbrev pub forgotten : AnsweringState → AnsweringState
forgotten before = blank before.number

abbrev pub holds_key : AnsweringPhase → Bool
holds_key Idle = false
holds_key Keyed = true

-- the digits, while the key is there
abbrev pub key_of : AnsweringState → Option (List ℕ)
key_of s = cond (holds_key s.phase) (Some s.digits) None

-- a session that was heard and answered
abbrev pub heard : Setting → (session : ℕ) → (seed y1 words : List ℕ) → AnsweringState
heard s session seed y1 words = record {
  phase = Keyed;
  number = session;
  image = padded 0 8192 (by_rows s.matrices.side s.lb (answered s.rule.modulus s.matrices.side s.lb s.matrices s.law seed words));
  hints = padded 0 64 (hints_of (settled s.matrices.side s.la s.lb s.rule s.law y1 words));
  digits = padded 0 64 (digits_of (settled s.matrices.side s.la s.lb s.rule s.law y1 words));
  secret = replicate 8192 (pos 0);
  noise = replicate 8192 (pos 0);
  sum_noise = replicate 64 (pos 0);
}

-- what is drawn while an offer is heard
abbrev pub drawing : Setting → (words : List ℕ) → AnsweringState → AnsweringState
drawing s words before = record {
  phase = before.phase;
  number = before.number;
  image = before.image;
  hints = before.hints;
  digits = before.digits;
  secret = padded (pos 0) 8192 (drawn_X2 s.matrices.side s.lb s.law words);
  noise = padded (pos 0) 8192 (drawn_E2 s.matrices.side s.lb s.law words);
  sum_noise = padded (pos 0) 64 (drawn_Eσ s.matrices.side s.la s.lb s.law words);
}

abbrev pub cleared : AnsweringState → AnsweringState
cleared before = record {
  phase = before.phase;
  number = before.number;
  image = before.image;
  hints = before.hints;
  digits = before.digits;
  secret = replicate 8192 (pos 0);
  noise = replicate 8192 (pos 0);
  sum_noise = replicate 64 (pos 0);
}
