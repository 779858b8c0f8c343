-- What an opening end holds, and what the steps of its sessions leave. Assumes nothing.
use Rattle.std.specs.Prelude.{ℕ, ◌*◌, Bool, true, false, cond, Some, None, Option, List, map, take, drop, replicate, ℤ, pos}
use Rattle.consensus.specs.Consensus.{Consensus}
use Rattle.matrix.specs.Matrices.{Matrices}
use Rattle.noise.specs.Laws.{value_of}
use Rattle.lwe.specs.Exchange.{Y1, Σ1}
use Rattle.lwe.specs.Images.{public_matrix}
use Rattle.lwe.specs.Matrices.{Residues, by_rows, padded, plain, signed}
use Rattle.ends.specs.declared.opening.OpeningPhase.{OpeningPhase}
use Rattle.ends.specs.declared.opening.OpeningPhase.TheVariants.{Idle, Waiting, Keyed}
use Rattle.ends.specs.declared.opening.OpeningState.{OpeningState}
use Rattle.ends.specs.Keys.{recover_all}
use Rattle.ends.specs.Settings.{Setting}

-- the words of X1 come first, and then those of E1, each row by row
abbrev pub drawn_X1 : (n la law : ℕ) → List ℕ → List ℤ
drawn_X1 n la law words = map (value_of law) (take (n * la) words)

abbrev pub drawn_E1 : (n la law : ℕ) → List ℕ → List ℤ
drawn_E1 n la law words = map (value_of law) (drop (n * la) words)

-- Y1 of what the words draw
abbrev pub offered : (q n la : ℕ) → Matrices → (law : ℕ) → List ℕ → List ℕ → Residues
offered q n la m law seed words =
    Y1 q n (public_matrix m seed) (signed la (drawn_X1 n la law words)) (signed la (drawn_E1 n la law words))

-- no session, but for the number of the latest
abbrev pub blank : ℕ → OpeningState
blank session = record {
  phase = Idle;
  number = session;
  seed = replicate 32 0;
  secret = replicate 8192 (pos 0);
  image = replicate 8192 0;
  digits = replicate 64 0;
  noise = replicate 8192 (pos 0);
}

-- nothing is left of a session but its number
abbrev pub forgotten : OpeningState → OpeningState
forgotten before = blank before.number

abbrev pub holds_key : OpeningPhase → Bool
holds_key Idle = false
holds_key Waiting = false
holds_key Keyed = true

-- the digits, while the key is there
abbrev pub key_of : OpeningState → Option (List ℕ)
key_of s = cond (holds_key s.phase) (Some s.digits) None

-- a session that waits for its answer
abbrev pub opened : Setting → (session : ℕ) → (seed words : List ℕ) → OpeningState
opened s session seed' words = record {
  phase = Waiting;
  number = session;
  seed = seed';
  secret = padded (pos 0) 8192 (drawn_X1 s.matrices.side s.la s.law words);
  image = padded 0 8192 (by_rows s.matrices.side s.la (offered s.rule.modulus s.matrices.side s.la s.matrices s.law seed' words));
  digits = replicate 64 0;
  noise = replicate 8192 (pos 0);
}

-- the digits that come of an answer
abbrev pub recovered : (n la lb : ℕ) → Consensus → List ℤ → List ℕ → List ℕ → List ℕ
recovered n la lb rule x1 y2 hints = recover_all rule (by_rows la lb (Σ1 rule.modulus n (signed la x1) (plain lb y2))) hints

-- the session before, with its key
abbrev pub keyed : Setting → (y2 hints : List ℕ) → OpeningState → OpeningState
keyed s y2 hints before = record {
  phase = Keyed;
  number = before.number;
  seed = before.seed;
  secret = before.secret;
  image = before.image;
  digits = padded 0 64 (recovered s.matrices.side s.la s.lb s.rule before.secret y2 hints);
  noise = before.noise;
}
