use Rattle.lwe.proofs.DriftIdentity.{drift_identity}
use Rattle.lwe.proofs.theorems.drift_identity_holds.Goals as goal

pub returns : goal.returns
returns c = drift_identity
