use Rattle.noise.proofs.Checked.{law_holds}
use Rattle.noise.proofs.tables.tables_hold.Goals as goal

pub returns : goal.returns
returns c = law_holds
