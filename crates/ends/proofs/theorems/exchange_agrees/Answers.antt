use Rattle.ends.proofs.Exchanges.{exchange_agrees}
use Rattle.ends.proofs.theorems.exchange_agrees.Goals as goal

pub returns : goal.returns
returns c = exchange_agrees
