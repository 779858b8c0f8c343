-- What an end works by beside its sessions, and what its calls leave of it. Assumes nothing.
use Rattle.std.specs.Prelude.{◌≡◌, ℕ, ◌&&◌, None, Err, Option, Result, ◌==◌, nat_le}
use Rattle.consensus.specs.Consensus.{Consensus}
use Rattle.matrix.specs.Matrices.{Matrices}
use Rattle.noise.specs.Replies.{number_of}
use Rattle.ends.specs.declared.end.End.{End}
use Rattle.ends.specs.declared.fault.EndFault.{EndFault}
use Rattle.ends.specs.declared.fault.EndFault.TheVariants.{Settings, Moduli}
use Rattle.ends.specs.declared.works.Works.{Works}
use Rattle.ends.specs.Refusals.{check}
use Rattle.ends.specs.Settings.{Setting}

-- what it means
abbrev pub setting : {R S : Type 0} → (R → Consensus) → (S → Matrices) → Works R S → Setting
setting rule_of matrices_of w = record {
  rule = rule_of w.rule.now;
  matrices = matrices_of w.source;
  la = w.la;
  lb = w.lb;
  law = number_of w.law;
}

module _ {R S : Type 0} where
  -- what is handed in is what it works by
  pub record MadeOf (rule : R) (source : S) (la lb law : ℕ) (w : Works R S) : Type 0 where
    pub rule_is : w.rule.now ≡ rule
    pub source_is : w.source ≡ source
    pub la_is : w.la ≡ la
    pub lb_is : w.lb ≡ lb
    pub law_is : number_of w.law ≡ law

  -- nothing is changed but the row that the source is turned to
  pub record KeptWorks (matrices_of : S → Matrices) (before after : Works R S) : Type 0 where
    pub rule : after.rule ≡ before.rule
    pub la : after.la ≡ before.la
    pub lb : after.lb ≡ before.lb
    pub law : after.law ≡ before.law
    pub matrices : matrices_of after.source ≡ matrices_of before.source

module _ {R S T : Type 0} where
  -- a call keeps what the end works by; a refused one keeps the whole end
  pub record Kept {X : Type 0} (matrices_of : S → Matrices) (before after : End R S T) (r : Result X EndFault) : Type 0 where
    pub works : KeptWorks matrices_of before.works after.works
    pub refused : (fault : EndFault) → r ≡ Err fault → after ≡ before

  -- nothing but the session is forgotten
  pub record Forgets (forgotten : T) (before after : End R S T) : Type 0 where
    pub same : after.works ≡ before.works
    pub state : after.state ≡ forgotten

-- what a new end is refused for: columns or a law outside their limits, then two moduli
abbrev pub new_fault : Consensus → Matrices → (la lb law : ℕ) → Option EndFault
new_fault rule matrices la lb law =
    check (nat_le 1 la && nat_le la 8 && nat_le 1 lb && nat_le lb 8 && nat_le law 5) Settings (check (rule.modulus == matrices.modulus) Moduli None)
