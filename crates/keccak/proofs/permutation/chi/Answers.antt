use Rattle.keccak.specs.Permutation.{chi}
use Rattle.keccak.proofs.permutation.chi.Goals as goal

pub returns : goal.returns
unfolding chi
returns c =
    simp
    (c.chi_row.ensures, c.chi_row-2.ensures, c.chi_row-3.ensures, c.chi_row-4.ensures, c.chi_row-5.ensures)
