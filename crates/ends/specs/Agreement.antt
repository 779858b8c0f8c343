-- One session whose messages arrive as they were sent: where the drift of a place lies within the rule's distance, both
-- ends come to one digit. Assumes nothing.
use Rattle.std.specs.Prelude.{◌≡◌, ℕ, ◌+◌, ◌*◌, ◌/◌, ◌%◌, ◌<◌, ◌≤◌, List, length, slice_index}
use Rattle.consensus.specs.Arithmetic.{around}
use Rattle.consensus.specs.Consensus.{Consensus, digits_of, hints_of}
use Rattle.consensus.specs.Laws.{Lawful}
use Rattle.matrix.specs.Matrices.{Matrices}
use Rattle.lwe.specs.Exchange.{Drawn, drift}
use Rattle.lwe.specs.Matrices.{by_rows, signed}
use Rattle.ends.specs.AnsweringStates.{answered, drawn_X2, drawn_E2, drawn_Eσ, rule_draws, settled}
use Rattle.ends.specs.OpeningStates.{drawn_X1, drawn_E1, offered, recovered}

-- sizes, and what the two ends work by: one rule, one public matrix, each its own law
pub record Exchange : Type 0 where
  pub rule : Consensus
  pub matrices : Matrices
  pub n : ℕ
  pub la : ℕ
  pub lb : ℕ
  pub opening_law : ℕ
  pub answering_law : ℕ
  -- a session: its seed, and the words that the two ends took
  pub seed : List ℕ
  pub opening_words : List ℕ
  pub answering_words : List ℕ

module _ (x : Exchange) where
  -- what the words draw
  abbrev pub drawn : Drawn
  drawn = record {
    X1 = signed x.la (drawn_X1 x.n x.la x.opening_law x.opening_words);
    E1 = signed x.la (drawn_E1 x.n x.la x.opening_law x.opening_words);
    X2 = signed x.lb (drawn_X2 x.n x.lb x.answering_law x.answering_words);
    E2 = signed x.lb (drawn_E2 x.n x.lb x.answering_law x.answering_words);
    Eσ = signed x.lb (drawn_Eσ x.n x.la x.lb x.answering_law x.answering_words);
  }

  -- the entries of the offer and of the answer
  abbrev pub sent_Y1 : List ℕ
  sent_Y1 = by_rows x.n x.la (offered x.rule.modulus x.n x.la x.matrices x.opening_law x.seed x.opening_words)

  abbrev pub sent_Y2 : List ℕ
  sent_Y2 = by_rows x.n x.lb (answered x.rule.modulus x.n x.lb x.matrices x.answering_law x.seed x.answering_words)

  -- what the answering end settles on, and what the opening end recovers
  abbrev pub settling : List (ℕ × ℕ)
  settling = settled x.n x.la x.lb x.rule x.answering_law sent_Y1 x.answering_words

  abbrev pub recovering : List ℕ
  recovering = recovered x.n x.la x.lb x.rule (drawn_X1 x.n x.la x.opening_law x.opening_words) sent_Y2 (hints_of settling)

-- as many words as hearing takes, with every draw of the rule in range
pub record Heard (x : Exchange) : Type 0 where
  pub count : length x.answering_words ≡ x.n * x.lb + (x.n * x.lb + (x.la * x.lb + x.la * x.lb))
  pub draws : (k : ℕ) → k < length (rule_draws x.n x.la x.lb x.answering_words) → slice_index (rule_draws x.n x.la x.lb x.answering_words) k < x.rule.draws

abbrev pub ExchangeAgrees : Type 0
ExchangeAgrees =
    (x : Exchange) → Lawful x.rule → Heard x → (k : ℕ) → k < x.la * x.lb
    → around x.rule.modulus (drift x.n (drawn x) (k / x.lb) (k % x.lb)) ≤ x.rule.distance
    → slice_index (recovering x) k ≡ slice_index (digits_of (settling x)) k
