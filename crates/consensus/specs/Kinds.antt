-- The two rules by name and by number. Assumes nothing.
use Rattle.std.specs.Prelude.{ℕ, ◌==◌, cond, List, Ok, Err, codes, Result}
use Rattle.consensus.specs.declared.kind.RuleKind.{RuleKind}
use Rattle.consensus.specs.declared.kind.RuleKind.TheVariants.{Okcn, Akcn}
use Rattle.consensus.specs.declared.kind.UnknownRule.{UnknownRule}

-- 1 is OKCN, 2 is AKCN
abbrev pub kind_reply : ℕ → Result RuleKind UnknownRule
kind_reply number = cond (number == 1) (Ok Okcn) (cond (number == 2) (Ok Akcn) (Err (record {})))

abbrev pub name : RuleKind → List ℕ
name Okcn = codes "OKCN"
name Akcn = codes "AKCN"

abbrev pub unknown_rule : List ℕ
unknown_rule = codes "no rule has the number"
