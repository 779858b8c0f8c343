use Rattle.std.proofs.Common.{arith}
use Rattle.keccak.proofs.Complements.{chi_lane_is}
use Rattle.keccak.proofs.permutation.chi_row.Goals as goal

pub returns : goal.returns
returns c =
    let a = c.args in
    rw (
      chi_lane_is a.a1 a.a2 a.a3 (omega arith) (omega arith) (omega arith),
      chi_lane_is a.a3 a.a4 a.a0 (omega arith) (omega arith) (omega arith),
    )
