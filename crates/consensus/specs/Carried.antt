-- One digit from a side that settles to a side that recovers. Assumes nothing.
use Rattle.std.specs.Prelude.{ℕ, Result}
use Rattle.std.specs.Result.{result_map_both}
use Rattle.consensus.specs.Arithmetic.{apart}
use Rattle.consensus.specs.Consensus.{Consensus}
use Rattle.consensus.specs.Replies.{followed, settle_reply, recover_reply}
use Rattle.consensus.specs.declared.carry.Carried.{Carried}
use Rattle.consensus.specs.declared.fault.RuleFault.{RuleFault}

abbrev pub carry_reply : Consensus → (sum draw second : ℕ) → Result Carried RuleFault
carry_reply c sum draw second =
    followed (settle_reply c sum draw) λ settled.
    result_map_both
    (λ recovered. record {
      digit = settled.0;
      hint = settled.1;
      recovered = recovered;
      apart = apart c.modulus sum second;
    })
    (λ fault. fault) (recover_reply c second settled.1)
