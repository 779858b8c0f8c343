-- The rule that a value of `Okcn` or `Akcn` means. Assumes nothing.
use Rattle.consensus.specs.Consensus.{Consensus}
use Rattle.consensus.specs.Rules.{okcn, akcn}
use Rattle.consensus.specs.declared.okcn.Okcn.{Okcn}
use Rattle.consensus.specs.declared.akcn.Akcn.{Akcn}

abbrev pub okcn_of : Okcn → Consensus
okcn_of r = okcn r.numbers.modulus r.numbers.digits r.numbers.hints

abbrev pub akcn_of : Akcn → Consensus
akcn_of r = akcn r.numbers.modulus r.numbers.digits r.numbers.hints
