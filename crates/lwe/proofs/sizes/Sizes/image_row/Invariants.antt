use Rattle.std.proofs.Common.{◌≡◌, ℕ, ◌<◌, get_or, pos, ◌+ℤ◌, ◌*ℤ◌}
use Rattle.consensus.specs.Arithmetic.{residue}
use Rattle.lwe.specs.Matrices.{signed, sum}
use Rattle.lwe.proofs.sizes.Sizes.image_row.Given as goal

abbrev pub invariant-loop-c : goal.invariant-loop-c
invariant-loop-c l =
    (c : ℕ) → c < l.c → get_or l.image c 0 ≡ residue (sum l.self.n (λ r. pos (get_or l.row r 0) *ℤ signed l.self.n l.columns c r) +ℤ get_or l.noise c (pos 0)) l.self.q
