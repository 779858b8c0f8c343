-- What happens to a digit on its way from one side to the other. Assumes nothing.
use Rattle.std.specs.Prelude.{ℕ, Result}
use Rattle.std.specs.Result.{result_map_both}
use Rattle.consensus.specs.Carried.{carry_reply}
use Rattle.consensus.specs.Consensus.{Consensus}
use Rattle.consensus.specs.Numbers.{numbers_of}
use Rattle.consensus.specs.declared.fault.RuleFault.{RuleFault}
use Rattle.consensus.specs.declared.kind.RuleKind.{RuleKind}
use Rattle.agree.specs.declared.report.Report.{Report}

abbrev pub report_reply : RuleKind → Consensus → (sum draw second : ℕ) → Result Report RuleFault
report_reply kind rule sum draw second =
    result_map_both
    (λ carried. record {
      kind = kind;
      numbers = numbers_of rule;
      sum = sum;
      draw = draw;
      second = second;
      carried = carried;
    })
    (λ fault. fault) (carry_reply rule sum draw second)
